-- What an accepted ledger has, and that a ledger which has it is accepted; its lines: no month has too many findings,
-- and none has more dismissed ones than it has findings. Assumes nothing.
use Rattle.wire.proofs.Usual.{◌≡◌, refl, sym, ap, ◌∙◌, subst, Bool, true, false, cond, List, ℕ, ◌<◌, ◌≤◌, arith, length}
use Rattle.wire.proofs.Usual.{zero-add}
use Rattle.std.proofs.Common.{Result, Ok, Err}
use Rattle.std.specs.Prelude.{leb}
use borrow.Author.Tests.{leb-true, le-leb}
use Rattle.wire.specs.Tables.{first, row_at}
use Rattle.wire.proofs.Tables.{numbered, first_zero}
use Rattle.wire.proofs.Places.{all_each}
use Rattle.contents.specs.Contents.{contents_size, contents_ok, body_of}
use Rattle.year.specs.declared.Closings.{Closings}
use Rattle.year.specs.declared.Line.{Line}
use Rattle.year.specs.declared.rules.Refusal.{Refusal}
use Rattle.year.specs.declared.rules.Refusal.TheVariants.{Size, Contents, Value, TooMany}
use Rattle.year.specs.declared.rules.MonthRule.{MonthRule}
use Rattle.year.specs.declared.rules.MonthRule.TheVariants.{Whole, Values, Few}
use Rattle.year.specs.Ledger.{month_count, month_most, finding_count, kept_in, months_ok, ledger_table}
use Rattle.year.specs.Ledger.{asked, answer_number, verdict, ledger_number}
use Rattle.year.specs.Months.{line_of}
use Rattle.year.specs.Bends.{no_line, line_at}
use Rattle.year.specs.Year.{month_line, lines_of, tables_of, after, year_of}
use Rattle.year.specs.Asks.{Small, Counted}
use Rattle.year.proofs.Counting.{found_few, gone_part}
use Rattle.year.proofs.Filling.{get_or_from}

module _ (F : List ℕ) (z : ledger_number F ≡ 0) where
  row_kept : (k : ℕ) → (row_at (ledger_table F) k).kept ≡ true
  unfolding ledger_number ledger_table numbered
  row_kept = (first_zero (ledger_table F) refl).0 z

  pub taken_whole : months_ok Whole F ≡ true
  unfolding ledger_table
  taken_whole = row_kept 2

  pub taken_values : months_ok Values F ≡ true
  unfolding ledger_table
  taken_values = row_kept 3

  pub taken_few : months_ok Few F ≡ true
  unfolding ledger_table
  taken_few = row_kept 4

  pub taken_small : Small F
  unfolding months_ok kept_in
  taken_small = record {
    month = λ m l.
        leb-true (finding_count (body_of F m)) month_most (all_each (kept_in Few F) month_count taken_few m l);
  }

-- the number of a verdict is that of the first rule that is not kept
first_asked : (a b c d e : Bool) →
    answer_number
    (asked a Size (asked b Contents (asked c Contents (asked d Value (asked e TooMany (Ok tt))))))
    ≡ cond a (cond b (cond c (cond d (cond e 0 24) 23) 22) 22) 21
first_asked false b c d e = refl
first_asked true false c d e = refl
first_asked true true false d e = refl
first_asked true true true false e = refl
first_asked true true true true false = refl
first_asked true true true true true = refl

pub verdict_number : (F : List ℕ) → answer_number (verdict F) ≡ ledger_number F
unfolding verdict ledger_number ledger_table first
verdict_number F =
    first_asked (leb (contents_size month_count) (length F)) (contents_ok month_count F) (months_ok Whole F)
    (months_ok Values F) (months_ok Few F)

pub accepted_zero : (F : List ℕ) → verdict F ≡ Ok tt → ledger_number F ≡ 0
accepted_zero F h = sym (verdict_number F) ∙ ap answer_number h

pub accepted_small : (F : List ℕ) → verdict F ≡ Ok tt → Small F
accepted_small F h = taken_small F (accepted_zero F h)

-- a refusal has a number, so that 0 is the verdict of an accepted ledger
pub zero_accepted : (F : List ℕ) → ledger_number F ≡ 0 → verdict F ≡ Ok tt
zero_accepted F z = go (verdict F) (verdict_number F ∙ z)
  where
    go : (r : Result (Unit {0}) Refusal) → answer_number r ≡ 0 → r ≡ Ok tt
    go (Ok tt) h = refl
    go (Err Size) h = absurd (omega (arith, h))
    go (Err Contents) h = absurd (omega (arith, h))
    go (Err Value) h = absurd (omega (arith, h))
    go (Err TooMany) h = absurd (omega (arith, h))

-- so is that of the whole answer
pub year_number : (F : List ℕ) → answer_number (year_of F) ≡ ledger_number F
unfolding year_of
year_number F = go (verdict F) ∙ verdict_number F
  where
    go : (r : Result (Unit {0}) Refusal) → answer_number (after r (tables_of F)) ≡ answer_number r
    go (Ok u) = refl
    go (Err e) = refl

-- and what has all of it is accepted
pub taken_whenever : (F : List ℕ) → contents_size month_count ≤ length F → contents_ok month_count F ≡ true →
    ((a : MonthRule) → months_ok a F ≡ true) → ledger_number F ≡ 0
unfolding ledger_number ledger_table first
taken_whenever F long contents months =
    rw (le-leb (contents_size month_count) (length F) long, contents, months Whole, months Values, months Few)

-- ---- the lines

module _ (c : Closings) (F : List ℕ) where
  pub line_is : (m : ℕ) → m < month_count → line_at (lines_of c F) m ≡ month_line c F m
  unfolding lines_of
  line_is m l = get_or_from no_line 0 month_count m (month_line c F) l ∙ ap (month_line c F) (zero-add m)

  pub lines_counted : Small F → Counted (lines_of c F)
  unfolding month_line line_of
  lines_counted h = record {
    few = λ m l. subst (λ (x : Line). x.findings ≤ month_most) (sym (line_is m l))
        (omega (arith, found_few c (body_of F m), h.month m l));
    part = λ m l. subst (λ (x : Line). x.dismissed ≤ x.findings) (sym (line_is m l)) (gone_part c (body_of F m));
  }

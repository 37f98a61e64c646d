-- Demand 1: what a call, a check, the sizes and the fresh state answer is the number of the first rule of their table
-- that is not kept, exactly then; a call that is turned down leaves what it was lent as it was; one that is not answers
-- its count, the sizes or the fresh state; the tables' numbers rise. Assumes nothing.
use Rattle.wire.proofs.Usual.{◌≡◌, refl, sym, ap, ◌∙◌, true, ◌≢◌, List, [], ◌∷◌, ℕ, suc, ◌≤◌}
use Rattle.wire.proofs.Usual.{arith}
use Rattle.wire.proofs.Usual.{lt-ltb, ne_eqb}
use Rattle.std.specs.Prelude.{Result, Ok, Err}
use borrow.Author.Tests.{leb-true}
use lib.Dec.{leb}
use Rattle.wire.specs.Tables.{Row, first}
use Rattle.wire.proofs.Places.{both_left, both_right}
use Rattle.wire.proofs.Tables.{numbered, first_zero, first_some}
use Rattle.project.specs.Project.{Project}
use Rattle.casefile.specs.Bodies.{project_of}
use Rattle.casefile.specs.declared.table.Rule.{Rule}
use Rattle.casefile.specs.Refusal.{file_table, verdict, number_of}
use Rattle.casefile.proofs.Refusals.{number_is, number_zero}
use Rattle.evaluator.specs.declared.Refusal.{Refusal}
use Rattle.evaluator.specs.Cycle.{finding_count}
use Rattle.evaluator.specs.Answer.{Lent, call_table, refusal, call_verdict, leaves, cycle_of, number_in}
use Rattle.evaluator.specs.Fresh.{sizes_at, sizes_of, sizes_number, fresh_table, fresh_number, fresh_left}
use Rattle.evaluator.proofs.Calls.{refusal_some, call_number}
use Rattle.evaluator.proofs.FreshFormed.{fresh_number_is}
use Rattle.demands.specs.Demands.{rising, Numbered, Answered, SizesAnswered, FreshAnswered, Demand1}

-- ---- a number that is the first of a table whose numbers rise

rising_numbered : (m : ℕ) (t : List Row) → 1 ≤ m → rising m t ≡ true → numbered t ≡ true
unfolding rising numbered
rising_numbered m [] l e = refl
rising_numbered m (r ∷ rs) l e =
    let some : 1 ≤ r.number =
    omega (arith, leb-true m r.number (both_left (leb m r.number) (rising r.number rs) e)) in
    rw (lt-ltb 0 r.number (omega arith))
    (rising_numbered r.number rs some (both_right (leb m r.number) (rising r.number rs) e))

pub by_table : (t : List Row) {n : ℕ} → rising 1 t ≡ true → n ≡ first t → Numbered t n
by_table t {n} up e = record {
  refused = λ k.
      let some = first_some t each (suc k) (λ z. omega (arith, z)) in
      (λ m. some.0 (sym e ∙ m), λ f. e ∙ some.1 f);
  accepted = (λ z. (first_zero t each).0 (sym e ∙ z), λ a. e ∙ (first_zero t each).1 a);
  lowest = up;
}
  where
    each : numbered t ≡ true
    each = rising_numbered 1 t (omega arith) up

-- ---- a cycle call

module _ (P : Project) (R : List ℕ) (L : Lent) where
  left_number : (v : Result (Unit {0}) Refusal) → number_in (leaves v P R L).answer ≡ number_in v
  left_number (Ok u) = refl
  left_number (Err r) = refl

  left_untouched : (v : Result (Unit {0}) Refusal) → number_in v ≢ 0 → (leaves v P R L).lent ≡ L
  left_untouched (Ok u) h = absurd (h refl)
  left_untouched (Err r) h = refl

  left_count : (v : Result (Unit {0}) Refusal) → number_in v ≡ 0 →
      (leaves v P R L).answer ≡ Ok (finding_count P.groups P.blocks R L.state)
  left_count (Ok u) e = refl
  left_count (Err r) e = absurd (omega (arith, e, refusal_some r))

answered : (F R : List ℕ) (L : Lent) → Answered F R L
unfolding cycle_of refusal call_table file_table rising
answered F R L =
    let v = call_verdict F R L in
    let n = left_number (project_of F) R L v in
    record {
      number = by_table (call_table F R L) refl (n ∙ call_number F R L);
      untouched = λ h. left_untouched (project_of F) R L v (λ z. h (n ∙ z));
      count = λ z. left_count (project_of F) R L v (sym n ∙ z);
    }

-- ---- a check, the sizes, the fresh state

checked : (F : List ℕ) → Numbered (file_table F) (number_of (verdict F))
unfolding file_table rising
checked F = by_table (file_table F) refl (number_is F)

sized_number : (v : Result (Unit {0}) Rule) (P : Project) → sizes_number (sizes_at v P) ≡ number_of v
sized_number (Ok u) P = refl
sized_number (Err r) P = refl

sized : (F : List ℕ) → SizesAnswered F
unfolding sizes_of file_table rising
sized F =
    let n = sized_number (verdict F) (project_of F) ∙ number_is F in
    record {
      number = by_table (file_table F) refl n;
      told = λ z. ap (λ (v : Result (Unit {0}) Rule). sizes_at v (project_of F)) (number_zero F (sym n ∙ z));
    }

fresh_answered : (F S : List ℕ) → FreshAnswered F S
unfolding fresh_number fresh_left fresh_table file_table rising
fresh_answered F S = record {
  answer = fresh_number_is F S;
  number = by_table (fresh_table F S) refl refl;
  untouched = λ h. rw (ne_eqb (fresh_number F S) 0 h);
  written = λ z. rw z;
}

pub demand1 : Demand1
demand1 = record { calls = answered; checks = checked; sizes = sized; fresh = fresh_answered }

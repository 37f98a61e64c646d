-- The second table of a ledger is the first table of the ledger without its script closings: that file is accepted too,
-- and its table of every finding is the ledger's table of those that a person closed. Assumes nothing.
use Rattle.wire.proofs.Usual.{◌≡◌, ap, ap₂, ◌∙◌, Bool, true, ◌&&◌, List, ℕ, ◌*◌, ◌%◌, ◌<◌, ◌≤◌, arith}
use Rattle.wire.proofs.Usual.{length, drop, length-drop, length-take-le, eq-eqb}
use borrow.Author.Tests.{leb-true, le-leb}
use Rattle.wire.specs.Packed.{hits}
use Rattle.wire.proofs.Places.{all_each, all_true}
use Rattle.wire.proofs.Packing.{hits_most, hits_every, entries-length, entries-hits, entries_each}
use Rattle.contents.specs.Contents.{contents_size, body_of}
use Rattle.year.specs.declared.Closings.TheVariants.{Every, Person}
use Rattle.year.specs.declared.rules.MonthRule.{MonthRule}
use Rattle.year.specs.declared.rules.MonthRule.TheVariants.{Whole, Values, Few}
use Rattle.year.specs.Ledger.{month_count, finding_size, month_most, finding_count, finding_at, values_ok, kept}
use Rattle.year.specs.Ledger.{kept_in, months_ok, ledger_number}
use Rattle.year.specs.Months.{by_person, is_dismissed, found, dismissed, line_of}
use Rattle.year.specs.Bends.{bend_of}
use Rattle.year.specs.Year.{month_line, lines_of, table_of}
use Rattle.year.specs.Built.{start_in, by_person_only, without_script}
use Rattle.year.proofs.Sums.{sum_most}
use Rattle.year.proofs.Filling.{from_same}
use Rattle.year.proofs.Taken.{taken_whole, taken_values, taken_few, taken_small, taken_whenever}
use Rattle.year.proofs.Built.{ledger_long, body_is, contents_is_ok}

-- ---- a month's findings that a person closed

module _ (M : List ℕ) where
  finding_long : (k : ℕ) → k < finding_count M → length (finding_at M k) ≡ finding_size
  unfolding finding_count finding_at
  finding_long k l = length-take-le finding_size (drop (finding_size * k) M) (simp length-drop (omega arith))

  only_long : length (by_person_only M) ≡ finding_size * found Person M
  unfolding by_person_only found
  only_long = entries-length finding_size _ (finding_at M) (finding_count M) finding_long

  only_count : finding_count (by_person_only M) ≡ found Person M
  unfolding finding_count
  only_count = omega (arith, only_long)

  only_most : found Person M ≤ finding_count M
  unfolding found
  only_most = hits_most (finding_count M) _

  -- a test holds of as many of them as there are findings that a person closed and of which it holds
  only_hits : (p : List ℕ → Bool) →
      hits (finding_count (by_person_only M)) (λ k. p (finding_at (by_person_only M) k))
      ≡ hits (finding_count M) (λ k. by_person (finding_at M k) && p (finding_at M k))
  unfolding by_person_only found finding_at
  only_hits p =
      ap (λ (n : ℕ). hits n (λ k. p (finding_at (by_person_only M) k))) only_count
      ∙ entries-hits finding_size (λ k. by_person (finding_at M k)) (finding_at M) p (finding_count M) finding_long

  only_found : found Every (by_person_only M) ≡ found Person M
  unfolding found
  only_found = hits_every (finding_count (by_person_only M)) ∙ only_count

  only_dismissed : dismissed Every (by_person_only M) ≡ dismissed Person M
  unfolding dismissed
  only_dismissed = only_hits is_dismissed

  only_values : kept Values M ≡ true → kept Values (by_person_only M) ≡ true
  unfolding by_person_only found finding_at
  only_values h =
      all_true (λ k. values_ok (finding_at (by_person_only M) k)) (finding_count (by_person_only M))
      (λ k l. entries_each finding_size (λ k. by_person (finding_at M k)) (finding_at M) values_ok (finding_count M)
      finding_long (λ b m _. all_each (λ j. values_ok (finding_at M j)) (finding_count M) h b m) k
      (omega (arith, only_count)))

  only_kept : (a : MonthRule) → kept a M ≡ true → kept a (by_person_only M) ≡ true
  only_kept Whole h = eq-eqb (length (by_person_only M) % finding_size) 0 (omega (arith, only_long))
  only_kept Values h = only_values h
  only_kept Few h =
      le-leb (finding_count (by_person_only M)) month_most
      (omega (arith, only_count, only_most, leb-true (finding_count M) month_most h))

-- ---- the file of those months

module _ (F : List ℕ) (z : ledger_number F ≡ 0) where
  long : length (without_script F) ≡ start_in (λ m. by_person_only (body_of F m)) month_count
  unfolding without_script
  long = ledger_long _

  at_least : contents_size month_count ≤ length (without_script F)
  unfolding start_in
  at_least = omega (arith, long)

  body_most : (m : ℕ) → m < month_count → length (by_person_only (body_of F m)) ≤ finding_size * month_most
  body_most m l = omega (arith, only_long (body_of F m), only_most (body_of F m), (taken_small F z).month m l)

  at_most : length (without_script F) < 4294967296
  unfolding start_in
  at_most =
      omega (
        arith,
        long,
        sum_most (λ m. length (by_person_only (body_of F m))) (finding_size * month_most) 0 month_count body_most,
      )

  pub body_without : (m : ℕ) → m < month_count → body_of (without_script F) m ≡ by_person_only (body_of F m)
  unfolding without_script
  body_without m l = body_is _ at_most m l

  months : (a : MonthRule) → months_ok a F ≡ true → months_ok a (without_script F) ≡ true
  unfolding months_ok kept_in
  months a h =
      all_true (kept_in a (without_script F)) month_count
      (λ m l. ap (kept a) (body_without m l) ∙ only_kept (body_of F m) a (all_each (kept_in a F) month_count h m l))

  each_rule : (a : MonthRule) → months_ok a (without_script F) ≡ true
  each_rule Whole = months Whole (taken_whole F z)
  each_rule Values = months Values (taken_values F z)
  each_rule Few = months Few (taken_few F z)

  number : ledger_number (without_script F) ≡ 0
  unfolding without_script
  number =
      taken_whenever (without_script F) at_least (contents_is_ok _ at_most) each_rule

  lines : lines_of Every (without_script F) ≡ lines_of Person F
  unfolding lines_of month_line
  lines =
      from_same 0 month_count (month_line Every (without_script F)) (month_line Person F)
      (λ m l. ap₂ line_of (ap (found Every) (body_without m l) ∙ only_found (body_of F m))
      (ap (dismissed Every) (body_without m l) ∙ only_dismissed (body_of F m)))

  pub without_script_is :
      (ledger_number (without_script F) ≡ 0) × (table_of Every (without_script F) ≡ table_of Person F)
  unfolding table_of
  without_script_is = (number, λ i. record { lines = lines i; bend = bend_of (lines i) })

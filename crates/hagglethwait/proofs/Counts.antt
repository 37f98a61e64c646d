-- No buffer of an accepted file is larger than the header says, and no number of an accepted ledger. Assumes nothing.
use Rattle.wire.proofs.Usual.{◌≡◌, refl, subst, Bool, true, false, not, cond, List}
use Rattle.wire.proofs.Usual.{ℕ, ◌+◌, ◌<◌, ◌≤◌, arith, ltb, ltb-true}
use Rattle.std.specs.Prelude.{Result, Ok, Err}
use Rattle.wire.specs.Places.{first_bad}
use borrow.Author.Tests.{not-false}
use Rattle.wire.proofs.Places.{found, both_left, both_right}
use Rattle.casefile.specs.declared.table.Rule.{Rule}
use Rattle.casefile.specs.Bodies.{project_of}
use Rattle.casefile.specs.Refusal.{verdict}
use Rattle.casefile.proofs.Accepted.{accepted}
use Rattle.evaluator.specs.declared.Sizes.{Sizes}
use Rattle.evaluator.specs.State.{state_length, outputs_length, findings_length}
use Rattle.evaluator.specs.Fresh.{sizes_at, sizes_of}
use Rattle.evaluator.proofs.Checking.{Taken, taken}
use Rattle.year.specs.declared.Closings.{Closings}
use Rattle.year.specs.declared.Line.{Line}
use Rattle.year.specs.declared.bends.Sides.{Sides}
use Rattle.std.proofs.Common.{Some, None}
use Rattle.year.specs.Ledger.{month_count, ledger_number}
use Rattle.year.specs.Bends.{sum_of, pool_of, sides_at, both_sides, largest, bend_of, bend_number}
use Rattle.year.specs.Year.{lines_of}
use Rattle.year.specs.Asks.{Counted}
use Rattle.year.proofs.Taken.{taken_small, lines_counted}
use Rattle.hagglethwait.specs.Calls.{state_said, outputs_said, findings_said, most_state}
use Rattle.hagglethwait.specs.Calls.{most_output_bytes, most_finding_bytes}
use Rattle.hagglethwait.specs.Ledgers.{most_bend}

-- ---- the sizes, as they are left in numbers that were 0

-- what the header says of them
pub record Small (z : Result Sizes Rule) : Type 0 where
  pub state : state_said z 0 ≤ most_state
  pub outputs : outputs_said z 0 ≤ most_output_bytes
  pub findings : findings_said z 0 ≤ most_finding_bytes

module _ (F : List ℕ) where
  small_at : (v : Result (Unit {0}) Rule) → verdict F ≡ v → Small (sizes_at v (project_of F))
  unfolding state_length outputs_length findings_length
  small_at (Ok u) z =
      let t : Taken (project_of F) = taken F (accepted F z) in
      record {
        state = omega (arith, t.sound.few_groups, t.sound.few_blocks);
        outputs = omega (arith, t.shown.few);
        findings = omega (arith, t.sound.few_blocks);
      }
  small_at (Err r) z = record { state = omega arith; outputs = omega arith; findings = omega arith }

  pub small : Small (sizes_of F)
  unfolding sizes_of
  small = small_at (verdict F) refl

-- ---- a ledger's numbers

-- no month has more than 4,095 findings, nor more dismissed ones than it has findings
pub ledger_small : (c : Closings) (F : List ℕ) → ledger_number F ≡ 0 → Counted (lines_of c F)
ledger_small c F z = lines_counted c F (taken_small F z)

-- the last month has no later one, and so is no bend
module _ (L : List Line) where
  has_later : (m : ℕ) → largest L m ≡ true → 0 < (sides_at L m).later.findings
  unfolding largest
  has_later m h =
      let s : Sides = sides_at L m in
      ltb-true 0 s.later.findings (both_right (ltb 0 s.upto.findings) _ (both_left (both_sides s) _ h))

  none_later : largest L 11 ≡ true → ⊥
  unfolding sides_at pool_of sum_of
  none_later h = omega (arith, has_later 11 h)

  -- the first month whose difference is the largest
  abbrev top : ℕ
  top = first_bad (λ m. not (largest L m)) month_count

  not_last : top < month_count → top ≡ 11 → ⊥
  not_last l q =
      none_later (subst (λ (m : ℕ). largest L m ≡ true) q
      (not-false (largest L top) ((found (λ m. not (largest L m)) month_count).fails l)))

  few_at : (t : Bool) → ltb top month_count ≡ t → bend_number (cond t (Some (top + 1)) None) ≤ most_bend
  few_at true e =
      let l : top < month_count = ltb-true top month_count e in
      omega (arith, l, not_last l)
  few_at false e = omega arith

  pub bend_few : bend_number (bend_of L) ≤ most_bend
  unfolding bend_of
  bend_few = few_at (ltb top month_count) refl

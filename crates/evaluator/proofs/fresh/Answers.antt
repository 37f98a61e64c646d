-- The file's refusal, the buffer's length, or the fresh state.
use Rattle.wire.proofs.Usual.{◌≡◌, sym, ap₂, ◌∙◌, List, ◌++◌, ℕ, ◌+◌, ◌*◌, ◌≢◌, arith, length}
use Rattle.wire.proofs.Usual.{replicate, eq-eqb, ne_eqb}
use Rattle.std.specs.Prelude.{Result, Ok, Err}
use Rattle.wire.specs.Records.{gather}
use Rattle.project.specs.declared.Counts.{Counts}
use Rattle.project.specs.Project.{counts_in}
use Rattle.casefile.specs.declared.table.Rule.{Rule}
use Rattle.casefile.specs.Bodies.{project_of}
use Rattle.casefile.specs.Refusal.{verdict}
use Rattle.block.specs.State.{state_size, fresh_bytes}
use Rattle.evaluator.specs.declared.Refusal.TheVariants.{Sizes}
use Rattle.evaluator.specs.State.{state_head}
use Rattle.evaluator.specs.Fresh.{fresh_for, fresh_verdict, fresh_left}
use Rattle.evaluator.proofs.Calls.{checked_file, handed_on, file_ok, file_taken}
use Rattle.evaluator.proofs.Checking.{groups_counted, blocks_counted, state_counted}
use Rattle.evaluator.proofs.FreshFormed.{verdict_sized, left_fresh, left_old}
use Rattle.evaluator.proofs.fresh.Goals as goal

module _ (F S : List ℕ) {v : Result (Unit {0}) Rule} (checked : v ≡ verdict F) (is : v ≡ Ok tt) {k : Counts}
    (e : k ≡ counts_in (project_of F)) where
  -- the buffer S is not of the exact size
  unsized : length S ≢ state_head k.groups + state_size * k.blocks →
      (Err Sizes ≡ fresh_verdict F S) × (S ≡ fresh_left F S)
  unsized h =
      let told = verdict_sized F S (file_ok F checked is)
      (ne_eqb (length S) _ (λ q. h (q ∙ sym (state_counted e (file_taken F checked is))))) in
      (told, left_old F S Sizes (sym told))

  -- it is, and X is written into it
  written : length S ≡ state_head k.groups + state_size * k.blocks → {X : List ℕ} →
      X ≡ replicate (state_head k.groups) 0 ++ gather k.blocks (λ b. fresh_bytes) →
      (Ok tt ≡ fresh_verdict F S) × (X ≡ fresh_left F S)
  unfolding fresh_for
  written h {X} x =
      let t = file_taken F checked is in
      let told = verdict_sized F S (file_ok F checked is) (eq-eqb (length S) _ (h ∙ state_counted e t)) in (
        told,
        x ∙ ap₂ (λ (g b : ℕ). replicate (state_head g) 0 ++ gather b (λ _. fresh_bytes)) (groups_counted e t)
            (blocks_counted e t)
            ∙ left_fresh F S (sym told),
      )

pub returns-in_err-check : goal.returns-in_err-check
unfolding fresh_verdict
returns-in_err-check c =
    let F = c.args.file.now in
    let S = c.args.state.now in
    let told = checked_file F _ c.check.ensures c.in_err-check.was in record {
      answered = handed_on c.from_residual.ensures.1 ∙ told;
      left = left_old F S _ (sym told);
    }

pub returns-then-state-groups : goal.returns-then-state-groups
returns-then-state-groups c =
    let u = unsized c.args.file.now c.args.state.now c.check.ensures c.in_ok-check.was c.counts_in-c.ensures
    (λ e. omega (arith, e, c.if-state-groups.true)) in
    record { answered = u.0; left = u.1 }

pub returns : goal.returns
returns c =
    let w = written c.args.file.now c.args.state.now c.check.ensures c.in_ok-check.was c.counts_in-c.ensures
    c.if-state-groups.false c.write_fresh.ensures in
    record { answered = w.0; left = w.1 }

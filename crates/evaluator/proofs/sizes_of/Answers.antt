-- An accepted file's counts are small, so the sizes fit.
use Rattle.wire.proofs.Usual.{sym, ap, ◌∙◌}
use Rattle.std.specs.Prelude.{Result, Ok}
use Rattle.casefile.specs.declared.table.Rule.{Rule}
use Rattle.casefile.specs.Bodies.{project_of}
use Rattle.evaluator.specs.Fresh.{sizes_at, sizes_of}
use Rattle.evaluator.proofs.Calls.{handed_on, file_taken}
use Rattle.evaluator.proofs.Checking.{state_counted, rows_counted, notes_counted}
use Rattle.evaluator.proofs.sizes_of.Goals as goal

pub returns-in_err-check : goal.returns-in_err-check
unfolding sizes_of
returns-in_err-check c =
    handed_on c.from_residual.ensures.1
    ∙ ap (λ (v : Result (Unit {0}) Rule). sizes_at v (project_of c.args.file.now))
    (sym c.in_err-check.was ∙ c.check.ensures)

pub returns : goal.returns
unfolding sizes_of
returns c =
    let F = c.args.file.now in
    let e = c.counts_in-c.ensures in
    let t = file_taken F c.check.ensures c.in_ok-check.was in
    (λ i. Ok (record { state = state_counted e t i; outputs = rows_counted e t i; findings = notes_counted e t i }))
    ∙ ap (λ (v : Result (Unit {0}) Rule). sizes_at v (project_of F)) (sym c.in_ok-check.was ∙ c.check.ensures)

-- A call that is turned down leaves what it was lent, and of one that is not the cycle was run (`Calls`).
use Rattle.wire.proofs.Usual.{◌≡◌, sym, ◌∙◌, subst}
use Rattle.std.specs.Prelude.{Ok}
use Rattle.project.specs.Project.{Project}
use Rattle.casefile.proofs.Handed.{project_is}
use Rattle.evaluator.specs.Answer.{Lent, lends, call_verdict}
use Rattle.evaluator.proofs.Calls.{handed_on, call_refused, call_made, Passed, admitted, call_passed, call_taken}
use Rattle.evaluator.proofs.Checking.{Taken}
use Rattle.evaluator.proofs.cycle.Goals as goal

pub check_call-checked-requires : goal.check_call-checked-requires
check_call-checked-requires c =
    let b = c.of-bodies.ensures in
    project_is c.args.file.now b.groups b.inputs b.blocks b.outputs

-- turned down
pub returns-in_err-checked : goal.returns-in_err-checked
returns-in_err-checked c =
    let a = c.args in
    let L : Lent = lends a.state.now a.outputs.now a.findings.now in
    let e = sym
    (call_refused a.file.now a.rec.now L _ (sym c.check_call-checked.ensures ∙ c.in_err-checked.was)) in record {
      answered = handed_on c.from_residual.ensures.1 ∙ (λ i. (e i).answer);
      left = λ i. (e i).lent.state;
      shown = λ i. (e i).lent.outputs;
      told = λ i. (e i).lent.findings;
    }

-- no test failed, and the project of the bodies that were handed out is the file's
pub whole_cycle-count-requires : goal.whole_cycle-count-requires
whole_cycle-count-requires c =
    let a = c.args in
    let F = a.file.now in
    let R = a.rec.now in
    let L : Lent = lends a.state.now a.outputs.now a.findings.now in
    let z : call_verdict F R L ≡ Ok tt = sym c.check_call-checked.ensures ∙ c.in_ok-checked.was in
    let b = c.of-bodies.ensures in
    let p = project_is F b.groups b.inputs b.blocks b.outputs in
    admitted _ R L c.counts-c.result c.counts-c.ensures (subst Taken (sym p) (call_taken F R L z))
    (subst (λ (q : Project). Passed q R L) (sym p) (call_passed F R L z))

-- the cycle was run
pub returns : goal.returns
returns c =
    let a = c.args in
    let F = a.file.now in
    let R = a.rec.now in
    let L : Lent = lends a.state.now a.outputs.now a.findings.now in
    let z : call_verdict F R L ≡ Ok tt = sym c.check_call-checked.ensures ∙ c.in_ok-checked.was in
    let b = c.of-bodies.ensures in
    let p = project_is F b.groups b.inputs b.blocks b.outputs in
    let r = c.whole_cycle-count.ensures in
    let e = sym (call_made F R L _ _ _ _ _ z p r.count r.left r.shown r.told) in record {
      answered = λ i. (e i).answer;
      left = λ i. (e i).lent.state;
      shown = λ i. (e i).lent.outputs;
      told = λ i. (e i).lent.findings;
    }

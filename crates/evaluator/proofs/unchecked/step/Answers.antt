-- The test of the record says which case holds, and that the record has its size.
use Rattle.evaluator.specs.Steps.{step_answer, step_state, step_findings}
use Rattle.std.proofs.Common.{rules}
use Rattle.wire.proofs.Places.{ok}
use Rattle.project.specs.Project.{record_size}
use Rattle.evaluator.proofs.Calls.{sized}
use Rattle.evaluator.proofs.unchecked.step.Goals as goal

pub advance-count-requires : goal.advance-count-requires
unfolding record_size
advance-count-requires c =
    let a = c.args in
    let given = sized a.groups.now a.inputs.now a.rec.now (ok c.record_ok.ensures c.if-not-record_ok.false) in
    record { inputs = _; begun = c.requires.begun; given = given }

pub returns-then-not-record_ok-clause-answered : goal.returns-then-not-record_ok-clause-answered
unfolding step_answer
returns-then-not-record_ok-clause-answered c = search rules

pub returns-then-not-record_ok-clause-left : goal.returns-then-not-record_ok-clause-left
unfolding step_state
returns-then-not-record_ok-clause-left c = search rules

pub returns-then-not-record_ok-clause-told : goal.returns-then-not-record_ok-clause-told
unfolding step_findings
returns-then-not-record_ok-clause-told c = search rules

pub returns-clause-answered : goal.returns-clause-answered
unfolding step_answer
returns-clause-answered c = search rules

pub returns-clause-left : goal.returns-clause-left
unfolding step_state
returns-clause-left c = search rules

pub returns-clause-told : goal.returns-clause-told
unfolding step_findings
returns-clause-told c = search rules

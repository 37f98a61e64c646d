-- After the turn of group g the bytes and phases of the groups below g + 1 are decided (`Deciding`).
use Rattle.wire.proofs.Usual.{◌≡◌, ap₂, ◌∙◌, subst, arith}
use Rattle.evaluator.specs.Groups.{runs_with, phase_from, phase_of}
use Rattle.evaluator.proofs.Deciding.{Deciding, new_is, deciding_turn, deciding_state}
use Rattle.evaluator.proofs.groups.decide.Goals as goal

-- group g's byte, from what was read, and its phase
pub loop-g-preserved : goal.loop-g-preserved
unfolding phase_of
loop-g-preserved c =
    let a = c.args in
    let l = c.loop-g in
    let byte = new_is a.errors.now a.groups.now a.rec.now a.state.now a.h l.state l.phases
    l.g l.invariant c.loop-g-test.true c.requires.0 c.requires.1 _ _ _ _ _ _
    c.device_in-device.ensures c.byte-control.ensures c.byte.ensures c.pends-pending.ensures
    c.err_ack.ensures c.group_next-new.ensures
    in
    deciding_turn a.errors.now a.groups.now a.rec.now a.state.now a.h l.state
    l.phases l.g l.invariant c.loop-g-test.true c.requires.0 c.requires.1 _ _ byte
    (c.phase_from.ensures
    ∙ ap₂ phase_from
    (c.runs_with-run.ensures ∙ ap₂ runs_with c.run_linked.ensures c.byte-control.ensures) byte)

-- all have decided
pub returns-clause-left : goal.returns-clause-left
returns-clause-left c =
    let a = c.args in
    let l = c.loop-g in
    let end : l.g ≡ a.h = omega arith in
    deciding_state a.errors.now a.groups.now a.rec.now a.state.now a.h l.state l.phases c.requires.1
    (subst (Deciding a.errors.now a.groups.now a.rec.now a.state.now a.h l.state l.phases) end l.invariant)

-- The state and the findings are `advance`'s, and the outputs show the new state (`Checked`).
use Rattle.wire.proofs.Usual.{ap, ◌∙◌, length}
use Rattle.evaluator.proofs.Checked.{in_order, in_place, new_long, outputs_long}
use Rattle.evaluator.proofs.Checked.{shown_new}
use Rattle.evaluator.proofs.advance.whole_cycle.Goals as goal

pub ranks-order-requires : goal.ranks-order-requires
ranks-order-requires c = in_order c.requires

pub error_groups-errors-requires-clause-state_len : goal.error_groups-errors-requires-clause-state_len
error_groups-errors-requires-clause-state_len c =
    let o = c.of-layout.ensures in
    rw (o.blocks, o.groups) (in_place c.requires c.args.state.now c.requires.state).state

pub write_outputs-requires-clause-state_len : goal.write_outputs-requires-clause-state_len
write_outputs-requires-clause-state_len c =
    let a = c.args in
    let o = c.of-layout.ensures in
    rw (o.blocks, o.groups)
    (in_place c.requires _
    (ap length c.advance-count.ensures.left
    ∙ new_long a.groups.now a.blocks.now a.rec.now a.state.now c.requires.sound)).state

pub write_outputs-requires-clause-outputs_len : goal.write_outputs-requires-clause-outputs_len
write_outputs-requires-clause-outputs_len c = outputs_long c.requires

pub returns-clause-shown : goal.returns-clause-shown
returns-clause-shown c =
    let o = c.of-layout.ensures in
    shown_new c.requires _ _ c.advance-count.ensures.left (rw (o.blocks, o.groups) at c.write_outputs.ensures)

-- By whether the block asks for its inputs: here, where it does not.
use Rattle.wire.proofs.Usual.{sym, ap, ◌∙◌, ℕ}
use Rattle.wire.specs.Words.{byte_at}
use Rattle.kind.specs.Devices.{is_err_ack}
use Rattle.project.specs.Project.{group_in}
use Rattle.block.specs.Step.{asks_inputs}
use Rattle.block.proofs.Enters.{rest_enters}
use Rattle.evaluator.specs.Groups.{control_byte}
use Rattle.evaluator.proofs.Reading.{cell_fits, cell_is}
use Rattle.evaluator.proofs.Turning.{took_quietly, rest_turned}
use Rattle.evaluator.proofs.turns.Turns.turn.Goals as goal

pub returns : goal.returns
returns c =
    let t = c.args.self.now in
    let p = c.place-at.ensures in
    let fits = cell_fits t.layout.whole _ c.requires.state_len _ c.requires.b_bound p in
    let group = c.group_of-group.ensures ∙ ap group_in c.record.ensures in
    let phase = ap (byte_at t.phases.now) group in
    let ack = c.err_ack-ack.ensures ∙ ap (λ (g : ℕ). is_err_ack (control_byte t.rec.now g)) group in
    let asks = c.asks.ensures ∙ (λ i. asks_inputs (phase i) (ack i) (c.cell.ensures i)) in
    let made =
    rest_turned _ _ _ _ _ _ (sym asks ∙ c.if-asks.false) phase ack
    (cell_is t.layout.groups c.args.state.now c.args.b p)
    in
    took_quietly _ _ _ _ _ _ p fits made c.rest.ensures (sym (rest_enters _ _ _))

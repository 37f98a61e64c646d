-- The hands are gathered, the block's bytes become its step's, and a block that enters ERROR is noted.
use Rattle.wire.proofs.Usual.{ap, ◌∙◌}
use Rattle.project.specs.Project.{parameters_in}
use Rattle.block.specs.Inputs.{effective_mask}
use Rattle.evaluator.proofs.Reading.{cell_fits, cell_is}
use Rattle.evaluator.proofs.Turning.{took, hands_first, hands_second, twohand_turned}
use Rattle.evaluator.proofs.turns.Turns.twohand.Goals as goal

pub returns : goal.returns
returns c =
    let L = c.args.self.now.layout in
    let t = c.requires.turning in
    let f = c.requires.family in
    let p = c.place-at.ensures in
    let fits = cell_fits L.whole _ c.requires.state_len _ t.inside p in
    let parameters = c.parameters_of-p.ensures ∙ ap parameters_in c.record.ensures in
    let mask = c.effective-x.ensures ∙ (λ i. effective_mask (parameters i) (c.bits.ensures i)) in
    let made =
    twohand_turned t f _ mask parameters c.read16-ms.ensures (cell_is L.groups c.args.state.now c.args.b p)
    in
    let step = c.twohand_step-entered.ensures in
    took _ _ _ _ _ _ p fits made step.left step.enters (hands_first t f _ mask) (hands_second t f _ mask) c.note.ensures

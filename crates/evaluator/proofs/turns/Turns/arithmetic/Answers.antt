-- The two words are read, the block's bytes become its step's, and a block that enters ERROR is noted.
use Rattle.wire.proofs.Usual.{ap, ◌∙◌}
use Rattle.project.specs.Project.{kind_in, parameters_in}
use Rattle.evaluator.proofs.Reading.{cell_fits, cell_is}
use Rattle.evaluator.proofs.Turning.{took, word_first, word_second, arithmetic_turned}
use Rattle.evaluator.proofs.turns.Turns.arithmetic.Goals as goal

pub returns : goal.returns
returns c =
    let L = c.args.self.now.layout in
    let t = c.requires.turning in
    let f = c.requires.family in
    let p = c.place-at.ensures in
    let fits = cell_fits L.whole _ c.requires.state_len _ t.inside p in
    let x = c.word-x.ensures in
    let y = c.word-y.ensures in
    let made =
    arithmetic_turned t f _ _ x y (c.kind_of.ensures ∙ ap kind_in c.record-r.ensures)
    (c.parameters_of.ensures ∙ ap parameters_in c.record-r.ensures)
    (cell_is L.groups c.args.state.now c.args.b p)
    in
    let step = c.arithmetic_step-entered.ensures in
    took _ _ _ _ _ _ p fits made step.left step.enters (word_first t f _ _ x y) (word_second t f _ _ x y) c.note.ensures

-- The family says which turn it is.
use Rattle.wire.proofs.Usual.{sym, ap, ◌∙◌}
use Rattle.kind.specs.Kinds.{family_of}
use Rattle.project.specs.Project.{kind_in}
use Rattle.block.proofs.Enters.{stop_enters}
use Rattle.evaluator.proofs.Reading.{cell_fits}
use Rattle.evaluator.proofs.Turning.{noted_not, took_quietly, unknown_turned}
use Rattle.evaluator.proofs.turns.Turns.reading.Goals as goal

-- DECOUPLE notes nothing
pub returns-in-Some-Decouple : goal.returns-in-Some-Decouple
returns-in-Some-Decouple c =
    let e = c.decouple.ensures in record {
      left = e.left;
      told = noted_not _ _ _ _ _ _ _ (sym e.answered ∙ e.quiet);
      answered = e.answered;
    }

-- nor does a block of no kind
pub returns-in-None : goal.returns-in-None
returns-in-None c =
    let p = c.place-at.ensures in
    let t = c.requires.turning in
    let fits = cell_fits c.args.self.now.layout.whole _ c.requires.state_len _ t.inside p in
    let family = c.family_of-family.ensures ∙ ap family_of (c.kind_of.ensures ∙ ap kind_in c.record.ensures) in
    let made = unknown_turned t (sym family ∙ c.in-None.is) in
    took_quietly _ _ _ _ _ _ p fits made c.stop.ensures (sym (stop_enters _))

-- The channels are gathered, and the block's bytes become its step's.
use Rattle.wire.proofs.Usual.{◌≡◌, ◌∙◌, false, List, ℕ, eqb}
use Rattle.block.specs.Step.{decouple_step, decouple_bytes}
use Rattle.block.specs.State.{enters_from}
use Rattle.block.proofs.Enters.{holds-enters}
use Rattle.evaluator.proofs.Reading.{cell_fits}
use Rattle.evaluator.proofs.Turning.{left_is, entering_is, decouple_turned}
use Rattle.evaluator.proofs.turns.Turns.decouple.Goals as goal

never : (ph x : ℕ) (s : List ℕ) → enters_from s (decouple_bytes ph x) ≡ false
unfolding decouple_bytes decouple_step
never ph x s = holds-enters (eqb ph 1) _ _

pub returns : goal.returns
returns c =
    let L = c.args.self.now.layout in
    let p = c.place-at.ensures in
    let fits = cell_fits L.whole _ c.requires.state_len _ c.requires.turning.inside p in
    let made = decouple_turned c.requires.turning c.requires.family _ c.bits-x.ensures in
    let step = c.decouple_step.ensures in record {
      left = left_is _ _ _ _ _ _ p fits made step.left;
      answered = entering_is _ _ _ _ _ _ p fits made step.enters;
      quiet = step.enters ∙ never _ _ _;
    }

-- `evaluator::checks::cells_formed` meets its contract: the blocks that the loop has passed are well formed.
use Rattle.wire.proofs.Usual.{◌≡◌, ◌<◌, ℕ, true}
use Rattle.evaluator.specs.State.{cell_formed}
use Rattle.evaluator.proofs.checks.cells_formed.Given as goal

abbrev pub invariant-loop-b : goal.invariant-loop-b
invariant-loop-b l = (j : ℕ) → j < l.b → cell_formed l.layout.groups l.layout.blocks.now l.state j ≡ true

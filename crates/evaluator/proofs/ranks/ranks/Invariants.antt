-- After b turns the first b blocks stand at their places in the order (`Ranking`).
use Rattle.wire.proofs.Usual.{length}
use Rattle.project.specs.Project.{block_count}
use Rattle.evaluator.proofs.Ranking.{Ranking}
use Rattle.evaluator.proofs.ranks.ranks.Given as goal

abbrev pub invariant-loop-b : goal.invariant-loop-b
invariant-loop-b l = Ranking l.blocks (block_count l.blocks) l.at (length l.yielded)

-- `evaluator::groups::error_groups` meets its contract: after the block b the marks are those of the first b + 1
-- blocks.
use Rattle.evaluator.proofs.Deciding.{Marked}
use Rattle.evaluator.proofs.groups.error_groups.Given as goal

abbrev pub invariant-loop-b : goal.invariant-loop-b
invariant-loop-b l = Marked l.layout.groups l.layout.blocks.now l.state l.marks l.b

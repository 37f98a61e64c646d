-- The marks say whether an earlier block has the number.
use Rattle.wire.proofs.Usual.{length}
use Rattle.wire.proofs.Places.{Passed}
use Rattle.casefile.proofs.Numbers.{Seen}
use Rattle.project.specs.Project.{block_count}
use Rattle.casefile.specs.Rules.{order_ok}
use Rattle.casefile.proofs.orders.orders_ok.Given as goal

abbrev pub invariant-loop-r : goal.invariant-loop-r
invariant-loop-r l =
    Passed (order_ok l.blocks) (block_count l.blocks) (length l.yielded)
    × Seen l.blocks (length l.yielded) l.seen

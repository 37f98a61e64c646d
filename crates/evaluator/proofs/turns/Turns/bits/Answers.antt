-- The bits of no port, and then of one port more.
use Rattle.wire.proofs.Usual.{arith}
use Rattle.block.proofs.Gather.{gather_start, gather_turn}
use Rattle.evaluator.proofs.turns.Turns.bits.Goals as goal

pub loop-p-init : goal.loop-p-init
loop-p-init c = gather_start _ _

pub loop-p-preserved : goal.loop-p-preserved
loop-p-preserved c =
    gather_turn _ (omega arith) c.loop-p-test.true c.loop-p.invariant c.word-word.ensures c.bit_below-bits.ensures

-- After the turn of port p the bits of the ports from p on are gathered.
use Rattle.block.proofs.Gather.{Gathered}
use Rattle.evaluator.specs.Asks.{words_at}
use Rattle.evaluator.proofs.turns.Turns.bits.Given as goal

abbrev pub invariant-loop-p : goal.invariant-loop-p
invariant-loop-p l =
    Gathered (words_at l.self.layout.groups l.self.layout.blocks.now l.self.rec.now l.state l.b) l.n l.p l.bits

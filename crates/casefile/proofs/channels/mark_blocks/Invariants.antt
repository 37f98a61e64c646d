-- Each turn marks what the links of one block name.
use Rattle.wire.proofs.Usual.{length}
use Rattle.casefile.proofs.Marking.{Marking}
use Rattle.casefile.specs.Rules.{block_passes}
use Rattle.casefile.proofs.channels.mark_blocks.Given as goal

abbrev pub invariant-loop-r : goal.invariant-loop-r
invariant-loop-r l = Marking (block_passes l.blocks) l.initial.marks l.marks (length l.yielded)

-- Each turn marks the port of one record of O.
use Rattle.wire.proofs.Usual.{length}
use Rattle.casefile.proofs.Marking.{Marking}
use Rattle.casefile.specs.Rules.{output_passes}
use Rattle.casefile.proofs.channels.mark_outputs.Given as goal

abbrev pub invariant-loop-r : goal.invariant-loop-r
invariant-loop-r l = Marking (output_passes l.outputs) l.initial.marks l.marks (length l.yielded)

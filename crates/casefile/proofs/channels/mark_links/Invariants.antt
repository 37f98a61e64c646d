-- Each turn marks what one link names.
use Rattle.casefile.proofs.Marking.{Marking}
use Rattle.casefile.specs.Rules.{link_passes}
use Rattle.casefile.proofs.channels.mark_links.Given as goal

abbrev pub invariant-loop-p : goal.invariant-loop-p
invariant-loop-p l = Marking (link_passes l.r) l.initial.marks l.marks l.p

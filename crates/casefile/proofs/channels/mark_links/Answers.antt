-- Each turn marks what one link names.
use Rattle.wire.proofs.Usual.{subst}
use Rattle.std.specs.Prelude.{Option}
use Rattle.project.specs.declared.Source.{Source}
use Rattle.casefile.specs.Rules.{link_passes, passes}
use Rattle.casefile.specs.Asks.{Marked}
use Rattle.casefile.proofs.Marking.{marking_begin, marking_more}
use Rattle.casefile.proofs.channels.mark_links.Goals as goal

pub loop-p-init : goal.loop-p-init
loop-p-init c = marking_begin (link_passes c.args.r.now) c.args.marks.now

pub loop-p-preserved : goal.loop-p-preserved
unfolding link_passes
loop-p-preserved c =
    marking_more (link_passes c.args.r.now) c.args.marks.now c.loop-p.invariant
    (subst (λ (s : Option Source). Marked c.loop-p.marks c.mark_source.new.marks (passes s)) c.source_of.ensures
    c.mark_source.ensures)

-- The block of a turn is the next; a turn marks what its links name.
use Rattle.wire.proofs.Usual.{sym, subst, List, ℕ, arith, length-append}
use Rattle.wire.specs.Places.{all}
use Rattle.wire.proofs.Iterating.{record_turn, records_end}
use Rattle.project.specs.Project.{block_size, block_count, row_of, link_count}
use Rattle.casefile.specs.Rules.{block_passes, link_passes}
use Rattle.casefile.specs.Asks.{Marked}
use Rattle.casefile.proofs.Marking.{Marking, marking_begin, marking_more}
use Rattle.casefile.proofs.channels.mark_blocks.Goals as goal

pub loop-r-init : goal.loop-r-init
loop-r-init c = marking_begin (block_passes c.args.blocks.now) c.args.marks.now

pub loop-r-preserved : goal.loop-r-preserved
unfolding block_passes row_of
loop-r-preserved c =
    let B = c.args.blocks.now in
    let l = c.loop-r in
    let N = c.mark_links.new.marks in
    let turn =
    record_turn block_size (omega arith) B _ (cc) (cc) l.yielded _ _ l.yielded_by _ c.next.ensures.steps
    c.in-Some.r c.in-Some.is
    in
    subst (Marking (block_passes B) c.args.marks.now N) (sym (length-append l.yielded _))
    (marking_more (block_passes B) c.args.marks.now l.invariant
    (subst (λ (R : List ℕ). Marked l.marks N (λ b p. all (link_passes R b p) link_count)) turn.1
    c.mark_links.ensures))

pub returns : goal.returns
unfolding block_count
returns c =
    let B = c.args.blocks.now in
    let l = c.loop-r in
    subst (Marking (block_passes B) c.args.marks.now l.marks)
    (records_end block_size (omega arith) B _ (cc) (cc) l.yielded _ _ l.yielded_by _ c.next.ensures.steps
    c.in-None.is)
    l.invariant

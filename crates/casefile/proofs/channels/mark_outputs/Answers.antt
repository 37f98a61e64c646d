-- The record of a turn is the next; a turn marks the port that it names.
use Rattle.wire.proofs.Usual.{sym, ap, ◌∙◌, subst, arith, length-append}
use Rattle.std.specs.Prelude.{Option, Some}
use Rattle.wire.proofs.Iterating.{record_turn, records_end}
use Rattle.project.specs.declared.Source.{Source}
use Rattle.project.specs.declared.Source.TheVariants.{Output}
use Rattle.project.specs.Project.{output_block_in, output_port_in, output_size, output_count, row_of}
use Rattle.casefile.specs.Rules.{passes, output_passes}
use Rattle.casefile.specs.Asks.{Marked}
use Rattle.casefile.proofs.Marking.{Marking, marking_begin, marking_more}
use Rattle.casefile.proofs.channels.mark_outputs.Goals as goal

pub loop-r-init : goal.loop-r-init
loop-r-init c = marking_begin (output_passes c.args.outputs.now) c.args.marks.now

pub loop-r-preserved : goal.loop-r-preserved
unfolding passes output_passes row_of
loop-r-preserved c =
    let O = c.args.outputs.now in
    let l = c.loop-r in
    let turn =
    record_turn output_size (omega arith) O _ (cc) (cc) l.yielded _ _ l.yielded_by _ c.next.ensures.steps
    c.in-Some.r c.in-Some.is
    in
    let block = c.output_block.ensures ∙ ap output_block_in turn.1 in
    let port = c.output_port.ensures ∙ ap output_port_in turn.1 in
    subst (Marking (output_passes O) c.args.marks.now c.mark.new.marks) (sym (length-append l.yielded _))
    (marking_more (output_passes O) c.args.marks.now l.invariant
    (subst (λ (s : Option Source). Marked l.marks c.mark.new.marks (passes s))
    (λ i. Some (Output (block i) (port i)))
    c.mark.ensures))

pub returns : goal.returns
unfolding output_count
returns c =
    let O = c.args.outputs.now in
    let l = c.loop-r in
    subst (Marking (output_passes O) c.args.marks.now l.marks)
    (records_end output_size (omega arith) O _ (cc) (cc) l.yielded _ _ l.yielded_by _ c.next.ensures.steps
    c.in-None.is)
    l.invariant

-- The output of a turn is the next, and its record says which port it shows.
use Rattle.wire.proofs.Usual.{refl, sym, ap, ◌∙◌, List, ℕ, ◌*◌, arith, length, length-append, sets}
use Rattle.wire.specs.Words.{bytes4}
use Rattle.wire.proofs.Iterating.{row_turn}
use Rattle.wire.proofs.Records.{gathered, gathered_none, gathered_more}
use Rattle.project.specs.Project.{output_block_in, output_port_in, output_size, output_count, row_of, word_size}
use Rattle.evaluator.specs.State.{cell}
use Rattle.evaluator.specs.Cycle.{port_shows}
use Rattle.evaluator.specs.Asks.{output_shown}
use Rattle.evaluator.proofs.outputs.write_outputs.Goals as goal

pub loop-o-init : goal.loop-o-init
loop-o-init c = gathered_none word_size _ _

-- the block that the output names is there
pub port_shows-word-requires-clause-a_bound : goal.port_shows-word-requires-clause-a_bound
unfolding output_count row_of
port_shows-word-requires-clause-a_bound c =
    let l = c.loop-o in
    let turn =
    row_turn output_size (omega arith) c.args.rows.now _ (cc) (cc) (cc) l.yielded _ _ l.yielded_by _
    c.next.ensures.steps (c.in-Some.o, c.in-Some.r) c.in-Some.is
    in
    rw (c.output_block.ensures ∙ ap output_block_in turn.1.1) (c.requires.shown.block _ turn.0)

pub loop-o-preserved : goal.loop-o-preserved
unfolding output_shown output_count row_of
loop-o-preserved c =
    let a = c.args in
    let L = a.layout.now in
    let l = c.loop-o in
    let turn =
    row_turn output_size (omega arith) a.rows.now _ (cc) (cc) (cc) l.yielded _ _ l.yielded_by _
    c.next.ensures.steps (c.in-Some.o, c.in-Some.r) c.in-Some.is
    in
    let block = c.output_block.ensures ∙ ap output_block_in turn.1.1 in
    let port = c.output_port.ensures ∙ ap output_port_in turn.1.1 in
    let shown = c.port_shows-word.ensures
    ∙ (λ i. port_shows L.blocks.now (block i) (port i) (cell L.groups a.state.now (block i)))
    in
    let f : ℕ → List ℕ = λ o. bytes4 (output_shown L.groups L.blocks.now a.rows.now a.state.now o) in
    c.write32.ensures
    ∙ (λ i. sets (l.invariant i) (word_size * turn.1.0 i) (bytes4 (shown i)))
    ∙ gathered_more word_size f a.outputs.now (length l.yielded) (λ j. refl)
    (omega (arith, turn.0, c.requires.outputs_len))
    ∙ ap (gathered word_size f a.outputs.now) (sym (length-append l.yielded _))

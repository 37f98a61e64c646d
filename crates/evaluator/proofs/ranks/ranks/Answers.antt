-- The block of a turn is the next, and its record says its execution number.
use Rattle.wire.proofs.Usual.{sym, ap, ◌∙◌, subst, ◌%◌, ℕ, arith, length, length-append}
use Rattle.wire.proofs.Iterating.{row_turn, rows_end}
use Rattle.project.specs.Project.{order_in, block_size, block_count, row_of}
use Rattle.evaluator.proofs.Ranking.{Ranking, ranking_start, ranking_turn, ranking_end}
use Rattle.evaluator.proofs.ranks.ranks.Goals as goal

pub loop-b-init : goal.loop-b-init
loop-b-init c = ranking_start _ _

pub bounds-at-e : goal.bounds-at-e
unfolding block_count row_of
bounds-at-e c =
    let turn =
    row_turn block_size (omega arith) c.args.blocks.now _ (cc) (cc) (cc) c.loop-b.yielded _ _ c.loop-b.yielded_by _
    c.next.ensures.steps (c.in-Some.b, c.in-Some.r) c.in-Some.is
    in
    let e = c.order_of-e.ensures ∙ ap order_in turn.1.1 in
    omega (arith, e, c.requires.below _ turn.0, c.requires.few)

pub loop-b-preserved : goal.loop-b-preserved
unfolding block_count row_of
loop-b-preserved c =
    let B = c.args.blocks.now in
    let l = c.loop-b in
    let turn =
    row_turn block_size (omega arith) B _ (cc) (cc) (cc) l.yielded _ _ l.yielded_by _
    c.next.ensures.steps (c.in-Some.b, c.in-Some.r) c.in-Some.is
    in
    subst (Ranking B (block_count B) _) (sym (length-append l.yielded _))
    (ranking_turn B _ c.requires l.at (length l.yielded) _ _ l.invariant turn.0
    (c.order_of-e.ensures ∙ ap order_in turn.1.1) (ap (λ (b : ℕ). b % 256) turn.1.0))

pub returns : goal.returns
unfolding block_count
returns c =
    let B = c.args.blocks.now in
    let l = c.loop-b in
    let all =
    rows_end block_size (omega arith) B _ (cc) (cc) (cc) l.yielded _ _ l.yielded_by _ c.next.ensures.steps c.in-None.is
    in
    ranking_end B (block_count B) c.requires l.at (subst (Ranking B (block_count B) l.at) all l.invariant)

-- The block of a turn is the next. The marks say whether an earlier block has the number.
use Rattle.wire.proofs.Usual.{true, false, refl, sym, ap, ◌∙◌, ◌<◌, subst, set, ℕ, arith, length, length-append}
use lib.ListN.{get_or-replicate}
use Rattle.wire.proofs.Iterating.{record_turn, records_end}
use Rattle.wire.proofs.Places.{begin, more, all_true, fails_all, Passed}
use Rattle.project.specs.Project.{block_size, block_count, order_in, row_of}
use Rattle.casefile.specs.Rules.{order_ok}
use Rattle.casefile.proofs.Numbers.{Seen, too_high, by_mark, seen_more, seen_none}
use Rattle.casefile.proofs.orders.orders_ok.Goals as goal

pub loop-r-init : goal.loop-r-init
loop-r-init c = (begin _ _, seen_none c.args.blocks.now _ refl (λ e l. get_or-replicate 64 e false false l))

pub returns-then-n-e : goal.returns-then-n-e
unfolding block_count row_of
returns-then-n-e c =
    let l = c.loop-r in
    let turn =
    record_turn block_size (omega arith) c.args.blocks.now _ (cc) (cc) l.yielded _ _ l.yielded_by _
    c.next.ensures.steps c.in-Some.r c.in-Some.is
    in
    let number = c.order_of-e.ensures ∙ ap order_in turn.1 in
    sym (fails_all _ _ (length l.yielded) turn.0 (too_high _ _ c.order_of-e.result number c.if-n-e.true))

pub returns-then-seen-e : goal.returns-then-seen-e
unfolding block_count row_of
returns-then-seen-e c =
    let l = c.loop-r in
    let turn =
    record_turn block_size (omega arith) c.args.blocks.now _ (cc) (cc) l.yielded _ _ l.yielded_by _
    c.next.ensures.steps c.in-Some.r c.in-Some.is
    in
    let number = c.order_of-e.ensures ∙ ap order_in turn.1 in
    let few : c.order_of-e.result < 64 = omega arith in
    sym (fails_all _ _ (length l.yielded) turn.0
    (by_mark _ _ _ _ l.invariant.1 number c.if-n-e.false few true c.if-seen-e.true))

pub loop-r-preserved : goal.loop-r-preserved
unfolding block_count row_of
loop-r-preserved c =
    let l = c.loop-r in
    let turn =
    record_turn block_size (omega arith) c.args.blocks.now _ (cc) (cc) l.yielded _ _ l.yielded_by _
    c.next.ensures.steps c.in-Some.r c.in-Some.is
    in
    let number = c.order_of-e.ensures ∙ ap order_in turn.1 in
    let few : c.order_of-e.result < 64 = omega arith in
    let fresh = by_mark _ _ _ _ l.invariant.1 number c.if-n-e.false few false c.if-seen-e.false in
    let longer = sym (length-append l.yielded _) in (
      subst (Passed (order_ok c.args.blocks.now) (block_count c.args.blocks.now)) longer
          (more l.invariant.0 turn.0 refl fresh),
      subst (λ (k : ℕ). Seen c.args.blocks.now k (set l.seen c.order_of-e.result true)) longer
          (seen_more _ _ _ _ l.invariant.1 number c.if-n-e.false few),
    )

pub returns : goal.returns
unfolding block_count
returns c =
    let l = c.loop-r in
    let had =
    records_end block_size (omega arith) c.args.blocks.now _ (cc) (cc) l.yielded _ _ l.yielded_by _
    c.next.ensures.steps c.in-None.is
    in
    sym (all_true (order_ok c.args.blocks.now) _ (λ j b. l.invariant.0.each j (omega (arith, had, b))))

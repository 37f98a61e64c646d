-- The finding of a turn is the next; each turn counts it where it passes the tests, and of findings there are few.
use Rattle.std.proofs.Common.{refl, ap, ap₂, ◌∙◌, ◌&&◌, ℕ, arith}
use Rattle.wire.specs.Packed.{hits}
use Rattle.wire.proofs.Iterating.{record_turn, records_end}
use Rattle.year.specs.Ledger.{finding_size, finding_count, finding_at}
use Rattle.year.specs.Months.{counts, is_dismissed, found, dismissed}
use Rattle.year.proofs.Counting.{few_more, hit_more}
use Rattle.year.proofs.months.counts_of.Goals as goal

pub loop-f-init : goal.loop-f-init
unfolding hits
loop-f-init c = (refl, refl)

pub overflow_add-findings : goal.overflow_add-findings
unfolding finding_count
overflow_add-findings c =
    let l = c.loop-f in
    let turn =
    record_turn finding_size (omega arith) c.args.month.now _ (cc) (cc) l.yielded _ _ l.yielded_by _
    c.next.ensures.steps c.in-Some.f c.in-Some.is
    in
    few_more _ l.yielded l.invariant.0 _ c.from-findings.ensures turn.0 c.requires

pub overflow_add-dismissed : goal.overflow_add-dismissed
unfolding finding_count
overflow_add-dismissed c =
    let l = c.loop-f in
    let turn =
    record_turn finding_size (omega arith) c.args.month.now _ (cc) (cc) l.yielded _ _ l.yielded_by _
    c.next.ensures.steps c.in-Some.f c.in-Some.is
    in
    few_more _ l.yielded l.invariant.1 _ c.from-dismissed.ensures turn.0 c.requires

pub loop-f-preserved : goal.loop-f-preserved
unfolding finding_at
loop-f-preserved c =
    let l = c.loop-f in
    let turn =
    record_turn finding_size (omega arith) c.args.month.now _ (cc) (cc) l.yielded _ _ l.yielded_by _
    c.next.ensures.steps c.in-Some.f c.in-Some.is
    in
    let counted = c.is_counted-counted.ensures ∙ ap (counts c.args.c) turn.1 in
    let gone = c.is_dismissed.ensures ∙ ap is_dismissed turn.1 in (
      hit_more _ l.yielded l.invariant.0 _ c.from-findings.ensures counted,
      hit_more _ l.yielded l.invariant.1 _ c.from-dismissed.ensures (ap₂ ◌&&◌ counted gone),
    )

pub returns-clause-findings : goal.returns-clause-findings
unfolding found finding_count
returns-clause-findings c =
    let l = c.loop-f in
    l.invariant.0
    ∙ ap (λ (k : ℕ). hits k (λ j. counts c.args.c (finding_at c.args.month.now j)))
    (records_end finding_size (omega arith) c.args.month.now _ (cc) (cc) l.yielded _ _ l.yielded_by _
    c.next.ensures.steps c.in-None.is)

pub returns-clause-dismissed : goal.returns-clause-dismissed
unfolding dismissed finding_count
returns-clause-dismissed c =
    let l = c.loop-f in
    l.invariant.1
    ∙ ap (λ (k : ℕ).
    hits k (λ j. counts c.args.c (finding_at c.args.month.now j) && is_dismissed (finding_at c.args.month.now j)))
    (records_end finding_size (omega arith) c.args.month.now _ (cc) (cc) l.yielded _ _ l.yielded_by _
    c.next.ensures.steps c.in-None.is)

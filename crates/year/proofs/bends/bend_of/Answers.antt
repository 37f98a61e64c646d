-- A better month is taken, any other leaves the best as it was; the best of all months is the bend.
use Rattle.std.proofs.Common.{refl, sym, ◌∙◌, ◌≡◌, ◌<◌, ◌≤◌, ℕ, Option, Some, None, arith, rules}
use Rattle.year.specs.declared.bends.Sides.{Sides}
use Rattle.year.specs.Ledger.{month_count}
use Rattle.year.specs.Bends.{sides_at}
use Rattle.year.proofs.Sums.{sides_small}
use Rattle.year.proofs.Bending.{begin, take, keep, some_below, told, top_bend, top_small}
use Rattle.year.proofs.bends.bend_of.Goals as goal
use Rattle.year.proofs.bends.bend_of.Goals.{then-is_better, else-is_better}

pub loop-m-init : goal.loop-m-init
loop-m-init c = begin (sides_at c.args.lines.now) month_count

pub is_better-requires : goal.is_better-requires
is_better-requires c = (
  rw c.at-s.ensures (sides_small _ c.requires _ c.loop-m-test.true),
  top_small c.args.lines.now c.requires c.loop-m.best c.loop-m.m c.loop-m.auto.m-end c.loop-m.invariant,
)

pub loop-m-preserved : goal.loop-m-preserved
loop-m-preserved c =
    elim c.if-is_better.branch [
      | then-is_better w ↦ rw (w.best-is, c.at-s.ensures)
          (take (sides_at c.args.lines.now) month_count c.loop-m.best c.loop-m.m c.loop-m.invariant
          (rw c.at-s.ensures at (sym c.is_better.ensures ∙ w.if-is_better.true)))
      | else-is_better w ↦ rw w.best-is
          (keep (sides_at c.args.lines.now) month_count c.loop-m.best c.loop-m.m c.loop-m.invariant
          (rw c.at-s.ensures at (sym c.is_better.ensures ∙ w.if-is_better.false)))
    ]

-- the best is one of the months
pub map-requires : goal.map-requires
map-requires c =
    λ t e.
    let below = some_below (sides_at c.args.lines.now) month_count c.loop-m.best t c.loop-m.m c.loop-m.invariant e in
    let few : t.0 < 12 = omega (arith, below, c.loop-m.auto.m-end) in
    (λ p. omega (arith, few), λ p. omega (arith, few))

pub returns : goal.returns
returns c =
    by_cases c.loop-m.best refl ∙ sym (top_bend c.args.lines.now c.loop-m.best
    (rw (all_seen c.loop-m.auto.m-end c.loop-m-test.false) at c.loop-m.invariant))
  where
    all_seen : c.loop-m.m ≤ 12 → 12 ≤ c.loop-m.m → c.loop-m.m ≡ 12
    all_seen p q = omega (arith, p, q)

    by_cases : (o : Option (ℕ × Sides)) → c.loop-m.best ≡ o → c.map.result ≡ told c.loop-m.best
    by_cases (Some t) e = search (rules, e)
    by_cases None e = search (rules, e)

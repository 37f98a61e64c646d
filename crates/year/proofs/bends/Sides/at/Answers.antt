-- Both sides are pools of the table's lines.
use Rattle.wire.proofs.Usual.{◌∙◌, ◌+◌, ◌-◌, arith}
use Rattle.year.specs.Ledger.{month_count}
use Rattle.year.specs.Bends.{sides_at}
use Rattle.year.proofs.Sums.{pool_same}
use Rattle.year.proofs.bends.Sides.at.Goals as goal

pub returns : goal.returns
unfolding sides_at
returns c =
    let L = c.args.lines.now in
    let m = c.args.m + 1 in
    let upto = c.pool_of.ensures ∙ pool_same L 0 m (omega (arith, c.requires, c.told-lines)) in
    let later = c.pool_of-2.ensures ∙ pool_same L m (month_count - m) (omega (arith, c.requires, c.told-lines)) in
    λ i. record { upto = upto i; later = later i }

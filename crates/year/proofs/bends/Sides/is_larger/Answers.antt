-- Each product has 64 bits, and the products say which difference is larger.
use Rattle.std.proofs.Common.{arith}
use Rattle.year.specs.Bends.{larger}
use Rattle.year.proofs.Sums.{over_le, under_le, cross_le}
use Rattle.year.proofs.bends.Sides.is_larger.Goals as goal

pub overflow_mul-result : goal.overflow_mul-result
overflow_mul-result c = grind (arith, over_le, under_le, cross_le)

pub overflow_mul-result-2 : goal.overflow_mul-result-2
overflow_mul-result-2 c = grind (arith, over_le, under_le, cross_le)

pub returns : goal.returns
unfolding larger
returns c = grind arith

-- `NumType::settle` compares magnitudes, which is the order of ℤ by the laws. Assumes nothing.
use Rattle.std.proofs.Common.{arith}
use Rattle.numbers.proofs.Laws.{settles_below, settles_neg, settles_above, settles_pos}
use Rattle.numbers.proofs.NumType.settle.Goals as goal

pub returns-then-low_mag-m : goal.returns-then-low_mag-m
returns-then-low_mag-m c = rw c.if-v.true (settles_below c.args.self c.args.v.mag (omega arith))

pub returns-else-low_mag-m : goal.returns-else-low_mag-m
returns-else-low_mag-m c = rw c.if-v.true (settles_neg c.args.self c.args.v.mag (omega arith))

pub returns-then-high_mag-m : goal.returns-then-high_mag-m
returns-then-high_mag-m c = rw c.if-v.false (settles_above c.args.self c.args.v.mag (omega arith))

pub returns-else-high_mag-m : goal.returns-else-high_mag-m
returns-else-high_mag-m c = rw c.if-v.false (settles_pos c.args.self c.args.v.mag (omega arith))

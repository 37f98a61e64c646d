-- `numbers::compute` meets its contract: its exact result, settled.
use Rattle.std.proofs.Common.{arith}
use Rattle.numbers.proofs.Operands.{small, settles}
use Rattle.numbers.proofs.compute.Goals as goal

pub exact-requires : goal.exact-requires
exact-requires c = (
  small c.args.ta c.args.a c.load.ensures (omega arith),
  small c.args.tb c.args.b c.load-2.ensures (omega arith),
)

pub returns : goal.returns
returns c =
    let a = c.args in
    settles a.op a.ta a.a a.tb a.b a.t c.exact.result c.load.ensures c.load-2.ensures c.exact.ensures
    c.settle.ensures

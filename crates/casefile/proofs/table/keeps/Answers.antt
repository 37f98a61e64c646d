-- What the rule counts on gives the bounds that its test asks for.
use Rattle.wire.proofs.Usual.{arith}
use Rattle.casefile.proofs.Facts.{groups_are_few, inputs_whole, blocks_whole}
use Rattle.casefile.proofs.table.keeps.Goals as goal

pub orders_ok-requires : goal.orders_ok-requires
orders_ok-requires c =
    (blocks_whole c.args.bodies.blocks.now (c.requires.blocks (rw c.in-Orders.is (omega arith)))).few

pub channels_ok-requires : goal.channels_ok-requires
channels_ok-requires c =
    (blocks_whole c.args.bodies.blocks.now (c.requires.blocks (rw c.in-Channels.is (omega arith)))).few

pub trace_ok-requires-clause-groups_bound : goal.trace_ok-requires-clause-groups_bound
trace_ok-requires-clause-groups_bound c =
    groups_are_few c.args.bodies.groups.now (c.requires.groups (rw c.in-Trace.is (omega arith)))

pub trace_ok-requires-clause-inputs_bound : goal.trace_ok-requires-clause-inputs_bound
trace_ok-requires-clause-inputs_bound c =
    (inputs_whole c.args.bodies.inputs.now (c.requires.inputs (rw c.in-Trace.is (omega arith)))).few

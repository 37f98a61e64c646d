-- The block's record and bytes are those of the definition.
use Rattle.evaluator.proofs.Checking.{block_is}
use Rattle.evaluator.proofs.checks.cell_formed.Goals as goal

pub returns : goal.returns
returns c =
    block_is c.args.layout.now.groups c.args.layout.now.blocks.now c.args.state.now c.args.b c.record-r.ensures
    c.place.ensures c.part-bytes.ensures c.kind_of.ensures c.parameters_of.ensures c.well_formed-2.ensures

-- The counts, field by field.
use Rattle.std.proofs.Common.{rules}
use Rattle.project.specs.Project.{counts_of, input_count, block_count, output_count}
use Rattle.project.proofs.counts_of.Goals as goal

pub returns : goal.returns
unfolding counts_of input_count block_count output_count
returns c = search rules

-- The counts are those of the bodies.
use Rattle.std.proofs.Common.{rules}
use Rattle.project.specs.Project.{input_count, block_count}
use Rattle.casefile.specs.Rules.{link_known}
use Rattle.casefile.proofs.links.link_known.Goals as goal

pub returns-in-1 : goal.returns-in-1
unfolding link_known input_count block_count
returns-in-1 c = search rules

pub returns-in-2 : goal.returns-in-2
unfolding link_known input_count block_count
returns-in-2 c = search rules

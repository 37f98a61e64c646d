-- The size, and 0 for bodies that no file has.
use Rattle.std.proofs.Common.{rules}
use Rattle.project.specs.Project.{group_count, input_count, record_size, size_counted}
use Rattle.project.proofs.size_counted.Goals as goal

pub returns-then-groups-inputs : goal.returns-then-groups-inputs
unfolding size_counted record_size group_count input_count
returns-then-groups-inputs c = search rules

pub returns-else-groups-inputs : goal.returns-else-groups-inputs
unfolding size_counted
returns-else-groups-inputs c = search rules

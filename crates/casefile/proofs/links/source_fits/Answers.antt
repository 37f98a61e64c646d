-- The type of what the link names, and the group of an external input.
use Rattle.std.proofs.lemmas.Grind.{common_steps}
use Rattle.wire.proofs.Usual.{arith}
use Rattle.casefile.specs.Rules.{source_fits, source_typed, source_grouped}
use Rattle.casefile.proofs.links.source_fits.Goals as goal

pub returns-in-None : goal.returns-in-None
unfolding source_fits source_typed source_grouped
returns-in-None c = grind (arith, common_steps)

pub returns-in-Some-External : goal.returns-in-Some-External
unfolding source_fits source_typed source_grouped
returns-in-Some-External c = grind (arith, common_steps)

pub returns-in-Some-Output : goal.returns-in-Some-Output
unfolding source_fits source_typed source_grouped
returns-in-Some-Output c = grind (arith, common_steps)

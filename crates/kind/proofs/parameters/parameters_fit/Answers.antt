-- Where the definition asks that a run of bytes is 0, the code asks it of four at a time.
use Rattle.std.proofs.Common.{rules}
use Rattle.kind.specs.Parameters.{parameters_fit}
use Rattle.kind.proofs.Zeros.{zeros4, zeros8, zeros12, and_assoc}
use Rattle.kind.proofs.parameters.parameters_fit.Goals as goal

pub returns-in-Some-Decouple : goal.returns-in-Some-Decouple
unfolding parameters_fit
returns-in-Some-Decouple c = search (rules, zeros12)

pub returns-in-Some-Twohand : goal.returns-in-Some-Twohand
unfolding parameters_fit
returns-in-Some-Twohand c = search (rules, zeros4)

pub returns-in-Some-Arithmetic : goal.returns-in-Some-Arithmetic
unfolding parameters_fit
returns-in-Some-Arithmetic c = search (rules, zeros8, and_assoc)

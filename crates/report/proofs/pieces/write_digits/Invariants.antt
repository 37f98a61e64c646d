-- After each turn the digits behind those of `rest` stand at their places; those of `rest` go to the first k places.
use Rattle.wire.proofs.Usual.{length}
use Rattle.io.specs.Digits.{last_digits}
use Rattle.report.proofs.Puts.{Behind}
use Rattle.report.proofs.pieces.write_digits.Given as goal

abbrev pub invariant-loop-k : goal.invariant-loop-k
invariant-loop-k g l =
    Behind l.initial.places 0 (last_digits g.row.BASE (length l.initial.places) l.n) l.places l.k
    (last_digits g.row.BASE l.k l.rest)

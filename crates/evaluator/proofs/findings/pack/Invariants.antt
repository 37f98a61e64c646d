-- `evaluator::findings::pack` meets its contract: after the turn of block b the findings of the first b + 1 blocks are
-- packed (`Packing`).
use Rattle.block.specs.Finding.{finding_size}
use Rattle.evaluator.specs.Asks.{note_in, is_noted}
use Rattle.wire.proofs.Packing.{Kept}
use Rattle.evaluator.proofs.findings.pack.Given as goal

abbrev pub invariant-loop-b : goal.invariant-loop-b
invariant-loop-b l =
    Kept finding_size (is_noted l.initial.findings) (note_in l.initial.findings) l.initial.findings l.findings l.k l.b

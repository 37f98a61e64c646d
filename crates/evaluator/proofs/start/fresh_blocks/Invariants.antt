-- `evaluator::start::fresh_blocks` meets its contract: after b turns the first b blocks have their fresh bytes.
use Rattle.wire.proofs.Usual.{◌≡◌, ℕ}
use Rattle.wire.proofs.Records.{gathered}
use Rattle.block.specs.State.{state_size, fresh_bytes}
use Rattle.evaluator.proofs.start.fresh_blocks.Given as goal

abbrev pub invariant-loop-b : goal.invariant-loop-b
invariant-loop-b l =
    (l.bytes ≡ fresh_bytes)
    × (l.cells ≡ gathered state_size (λ (b : ℕ). fresh_bytes) l.initial.cells l.b)

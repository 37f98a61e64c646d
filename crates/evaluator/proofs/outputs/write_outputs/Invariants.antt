-- After the turn of output o the first o + 1 words are written.
use Rattle.wire.proofs.Usual.{◌≡◌, ℕ, length}
use Rattle.wire.proofs.Records.{gathered}
use Rattle.wire.specs.Words.{bytes4}
use Rattle.project.specs.Project.{word_size}
use Rattle.evaluator.specs.Asks.{output_shown}
use Rattle.evaluator.proofs.outputs.write_outputs.Given as goal

abbrev pub invariant-loop-o : goal.invariant-loop-o
invariant-loop-o l =
    l.outputs
    ≡ gathered word_size
    (λ (o : ℕ). bytes4 (output_shown l.layout.groups l.layout.blocks.now l.rows l.state o))
    l.initial.outputs
    (length l.yielded)

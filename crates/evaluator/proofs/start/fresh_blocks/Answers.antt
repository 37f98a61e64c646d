-- Each turn writes one block's fresh bytes behind those of the blocks before.
use Rattle.wire.proofs.Usual.{◌≡◌, ◌∙◌, List, ℕ, ◌*◌, arith, length, sets}
use Rattle.wire.proofs.Records.{gathered_none, gathered_more}
use Rattle.block.specs.State.{fresh_bytes, state_size}
use Rattle.evaluator.proofs.FreshFormed.{fresh_long}
use Rattle.evaluator.proofs.start.fresh_blocks.Goals as goal

abbrev bytes : ℕ → List ℕ
bytes b = fresh_bytes

long : (b : ℕ) → length (bytes b) ≡ state_size
long b = fresh_long

pub loop-b-init : goal.loop-b-init
loop-b-init c = (c.fresh-bytes.ensures, gathered_none state_size bytes _)

pub loop-b-preserved : goal.loop-b-preserved
loop-b-preserved c =
    let b = c.loop-b.b in
    let l = c.loop-b.invariant in (
      l.0,
      c.put.ensures
          ∙ (λ i. sets (l.1 i) (state_size * b) (l.0 i))
          ∙ gathered_more state_size bytes c.args.cells.now b long (omega (arith, c.requires, c.loop-b-test.true)),
    )

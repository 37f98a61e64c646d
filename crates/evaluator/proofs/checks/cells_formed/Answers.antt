-- The loop stops at a block that is not well formed, or has passed each.
use Rattle.wire.proofs.Usual.{sym, arith}
use Rattle.wire.proofs.Places.{bad, fails_all, all_true}
use Rattle.evaluator.proofs.checks.cells_formed.Goals as goal

pub returns-then-not-cell_formed : goal.returns-then-not-cell_formed
returns-then-not-cell_formed c =
    sym (fails_all _ _ c.loop-b.b (omega (arith, c.loop-b-test.true, c.args.layout.now.whole.count))
    (bad c.cell_formed.ensures c.if-not-cell_formed.true))

pub returns : goal.returns
returns c = sym (all_true _ _ (λ j l. c.loop-b.invariant j (omega (arith, l, c.args.layout.now.whole.count))))

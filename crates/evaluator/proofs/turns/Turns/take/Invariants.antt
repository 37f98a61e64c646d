-- Each turn of the loop takes the state and the findings from one stage to the next (`Running`).
use Rattle.evaluator.proofs.Running.{Held}
use Rattle.evaluator.proofs.turns.Turns.take.Given as goal

abbrev pub invariant-loop-b : goal.invariant-loop-b
invariant-loop-b l =
    Held l.self.layout.groups l.self.layout.blocks.now l.self.rec.now l.self.phases.now l.initial.state
    l.self.layout.count l.state l.findings l.some l.b-index

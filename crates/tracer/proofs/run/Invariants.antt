-- Before each turn the calls that are left are a run from the present state, and a turn takes the first of them.
use Rattle.wire.proofs.Usual.{◌≡◌, ◌*◌, ◌≤◌, length}
use Rattle.tracer.proofs.Turning.{Here}
use Rattle.tracer.proofs.run.Given as goal

abbrev pub invariant-loop-done : goal.invariant-loop-done
invariant-loop-done l =
    (l.total ≤ 64 * l.done)
    × (length l.state ≡ length l.initial.state)
    × (l.findings ≡ l.initial.findings)
    × (length l.text ≡ length l.initial.text)
    × Here l.file l.n l.done l.total l.state

-- The loop passes rules that hold.
use Rattle.wire.proofs.Places.{Passed}
use Rattle.casefile.specs.Refusal.{rule_count}
use Rattle.casefile.proofs.Refusals.{holds_at}
use Rattle.casefile.proofs.check.Given as goal

abbrev pub invariant-loop-r : goal.invariant-loop-r
invariant-loop-r l = Passed (holds_at l.file) rule_count l.r-index

-- `evaluator::groups::decide` meets its contract: after the turn of group g the bytes and phases of the groups below g
-- + 1 are decided (`Deciding`).
use Rattle.evaluator.proofs.Deciding.{Deciding}
use Rattle.evaluator.proofs.groups.decide.Given as goal

abbrev pub invariant-loop-g : goal.invariant-loop-g
invariant-loop-g l =
    Deciding l.errors l.groups l.rec l.initial.state l.h l.state l.phases l.g

-- The step of DECOUPLE, in the phase RUN and in the others.
use Rattle.std.proofs.Common.{rules}
use Rattle.block.specs.Step.{decouple_bytes, decouple_step}
use Rattle.block.specs.State.{encode, enters_from}
use Rattle.block.proofs.step.decouple_step.Goals as goal

pub returns-then-phase-eq-PHASE_RUN-clause-left : goal.returns-then-phase-eq-PHASE_RUN-clause-left
unfolding decouple_bytes decouple_step encode enters_from
returns-then-phase-eq-PHASE_RUN-clause-left c = search rules

pub returns-then-phase-eq-PHASE_RUN-clause-enters : goal.returns-then-phase-eq-PHASE_RUN-clause-enters
unfolding decouple_bytes decouple_step encode enters_from
returns-then-phase-eq-PHASE_RUN-clause-enters c = search rules

pub returns-else-phase-eq-PHASE_RUN-clause-left : goal.returns-else-phase-eq-PHASE_RUN-clause-left
unfolding decouple_bytes decouple_step encode enters_from
returns-else-phase-eq-PHASE_RUN-clause-left c = search rules

pub returns-else-phase-eq-PHASE_RUN-clause-enters : goal.returns-else-phase-eq-PHASE_RUN-clause-enters
unfolding decouple_bytes decouple_step encode enters_from
returns-else-phase-eq-PHASE_RUN-clause-enters c = search rules

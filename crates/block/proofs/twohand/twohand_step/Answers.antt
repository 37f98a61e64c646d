-- `block::twohand_step` meets its contract: outside phase RUN it enters ERROR if its fault is present.
use Rattle.std.proofs.Common.{rules, sym, ne_eqb}
use Rattle.block.specs.State.{diagnosis_of, decode}
use Rattle.block.specs.Twohand.{twohand_fault}
use Rattle.block.specs.Step.{twohand_step, twohand_bytes}
use Rattle.block.proofs.Enters.{answer_enters}
use Rattle.block.proofs.twohand.twohand_step.Goals as goal

pub returns-clause-enters : goal.returns-clause-enters
unfolding twohand_bytes twohand_step decode
returns-clause-enters c =
    let s = c.args.s.now in
    rw (
      ne_eqb c.args.phase 1 c.if-phase-eq-PHASE_RUN.false,
      c.is_error-was.ensures,
      c.twohand_fault-fault.ensures,
      c.diagnosis_of-d.ensures,
    ) (sym (answer_enters (twohand_fault c.args.p.now (diagnosis_of s) c.args.x) (diagnosis_of s) s))

pub returns-then-phase-eq-PHASE_RUN-clause-left : goal.returns-then-phase-eq-PHASE_RUN-clause-left
unfolding twohand_bytes twohand_step decode
returns-then-phase-eq-PHASE_RUN-clause-left c = search rules

pub returns-then-phase-eq-PHASE_RUN-clause-enters : goal.returns-then-phase-eq-PHASE_RUN-clause-enters
unfolding twohand_bytes twohand_step decode
returns-then-phase-eq-PHASE_RUN-clause-enters c = search rules

pub returns-clause-left : goal.returns-clause-left
unfolding twohand_bytes twohand_step decode
returns-clause-left c = search rules

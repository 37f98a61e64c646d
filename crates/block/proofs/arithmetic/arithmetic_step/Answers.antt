-- `block::arithmetic_step` meets its contract: an arm for a result and one for none says whether the step enters ERROR.
use Rattle.std.proofs.Common.{rules, refl, sym, ◌≡◌, ◌∙◌, eqb, true, Err}
use Rattle.numbers.specs.Results.{diagnosis}
use Rattle.numbers.specs.declared.OutOfRange.{OutOfRange}
use Rattle.numbers.specs.declared.OutOfRange.TheVariants.{Below, Above}
use Rattle.block.specs.Arithmetic.{out_of_range}
use Rattle.block.specs.State.{decode, diagnosis_of}
use Rattle.block.specs.Step.{arithmetic_step, arithmetic_bytes}
use Rattle.block.proofs.Enters.{fails_enters, holds-enters}
use Rattle.block.proofs.arithmetic.arithmetic_step.Goals as goal

-- a result out of range is a fault
present : (e : OutOfRange) → out_of_range (Err e) ≡ true
present Below = refl
present Above = refl

pub returns-in-Ok-clause-enters : goal.returns-in-Ok-clause-enters
unfolding arithmetic_bytes arithmetic_step decode
returns-in-Ok-clause-enters c =
    rw (sym c.result_of.ensures ∙ c.in-Ok.is)
    (sym (holds-enters (eqb c.args.phase 1) c.in-Ok.w c.args.s.now))

pub returns-in-Err-clause-enters : goal.returns-in-Err-clause-enters
unfolding arithmetic_bytes arithmetic_step decode
returns-in-Err-clause-enters c =
    let s = c.args.s.now in
    rw (sym c.result_of.ensures ∙ c.in-Err.is, present c.in-Err.out)
    (c.fails.ensures.enters
    ∙ sym (fails_enters (eqb c.args.phase 1) (diagnosis (Err c.in-Err.out)) (diagnosis_of s) s))

pub returns-in-Ok-clause-left : goal.returns-in-Ok-clause-left
unfolding arithmetic_bytes arithmetic_step decode
returns-in-Ok-clause-left c = search rules

pub returns-in-Err-clause-left : goal.returns-in-Err-clause-left
unfolding arithmetic_bytes arithmetic_step decode
returns-in-Err-clause-left c = search rules

-- `hagglethwait::hagglethwait_cycle` meets its contract: a count of findings is small, and so is itself as C's number.
use Rattle.wire.proofs.Usual.{sym, ap, ◌∙◌, arith}
use Rattle.evaluator.proofs.Few.{few_found}
use Rattle.hagglethwait.specs.Calls.{answer_number}
use Rattle.hagglethwait.proofs.Signs.{count_fits, count_is}
use Rattle.hagglethwait.proofs.hagglethwait_cycle.Goals as goal

pub overflow_cast-result : goal.overflow_cast-result
overflow_cast-result c =
    let e = sym c.in-Ok.is ∙ c.cycle.ensures.answered in
    count_fits _ (omega (arith, few_found _ _ _ _ e))

pub returns-in-Ok-clause-answered : goal.returns-in-Ok-clause-answered
returns-in-Ok-clause-answered c =
    let e = sym c.in-Ok.is ∙ c.cycle.ensures.answered in
    count_is _ (omega (arith, few_found _ _ _ _ e)) ∙ ap answer_number e

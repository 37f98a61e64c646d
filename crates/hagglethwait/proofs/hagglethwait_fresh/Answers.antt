-- The number is that of the answer.
use Rattle.wire.proofs.Usual.{sym, ap, ◌∙◌}
use Rattle.evaluator.specs.Answer.{number_in}
use Rattle.evaluator.proofs.FreshFormed.{fresh_number_is}
use Rattle.hagglethwait.proofs.hagglethwait_fresh.Goals as goal

pub returns-in-Ok-clause-answered : goal.returns-in-Ok-clause-answered
returns-in-Ok-clause-answered c =
    ap number_in (sym c.in-Ok.is ∙ c.fresh.ensures.answered) ∙ fresh_number_is c.args.file.now c.args.state.now

pub returns-in-Err-clause-answered : goal.returns-in-Err-clause-answered
returns-in-Err-clause-answered c =
    c.number.ensures
    ∙ ap number_in (sym c.in-Err.is ∙ c.fresh.ensures.answered)
    ∙ fresh_number_is c.args.file.now c.args.state.now

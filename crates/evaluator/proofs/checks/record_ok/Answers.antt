-- The sizes first, then each group and each word; all of them are what the test of a record asks.
use Rattle.std.proofs.Common.{rules}
use Rattle.project.specs.Project.{record_size}
use Rattle.evaluator.specs.Answer.{record_ok}
use Rattle.evaluator.proofs.checks.record_ok.Goals as goal

pub returns-then-rec-c : goal.returns-then-rec-c
unfolding record_size record_ok
returns-then-rec-c c = search rules

pub controls_ok-requires-clause-rec_len : goal.controls_ok-requires-clause-rec_len
unfolding record_size
controls_ok-requires-clause-rec_len c = search rules

pub words_ok-requires-clause-inputs_len : goal.words_ok-requires-clause-inputs_len
unfolding record_size
words_ok-requires-clause-inputs_len c = search rules

pub returns : goal.returns
unfolding record_ok
returns c = search rules

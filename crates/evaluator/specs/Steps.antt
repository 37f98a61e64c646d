-- A cycle inside a trace, whose file is checked once (01, "The trace program"): the record is tested, and a good one
-- runs a cycle. G, I and B are the bodies of the groups, the inputs and the blocks, R the record, S a well-formed
-- state.
use Rattle.std.specs.Prelude.{ℕ, cond, List, Result, Ok, Err}
use Rattle.evaluator.specs.Cycle.{new_state, new_findings, finding_count}
use Rattle.evaluator.specs.Answer.{record_ok}
use Rattle.evaluator.specs.declared.Refusal.{Refusal}
use Rattle.evaluator.specs.declared.Refusal.TheVariants.{Record}

-- 01, "Turned down", 12, and "One cycle": what it answers, and what it leaves of the state and of the findings D
unfoldable pub step_answer : List ℕ → List ℕ → List ℕ → List ℕ → List ℕ → Result ℕ Refusal
step_answer G I B R S = cond (record_ok G I R) (Ok (finding_count G B R S)) (Err Record)

unfoldable pub step_state : List ℕ → List ℕ → List ℕ → List ℕ → List ℕ → List ℕ
step_state G I B R S = cond (record_ok G I R) (new_state G B R S) S

unfoldable pub step_findings : List ℕ → List ℕ → List ℕ → List ℕ → List ℕ → List ℕ → List ℕ
step_findings G I B R S D = cond (record_ok G I R) (new_findings G B R S) D

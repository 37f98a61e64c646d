-- What a trace is (01, "The trace program"): a run of cycle calls over the records of the file, each once and in their
-- order, from the fresh state. What it tells of them ends at the first that is turned down. F is the file.
use Rattle.std.specs.Prelude.{ℕ, zero, suc, ◌+◌, List, [], ◌∷◌, replicate, Result, Ok, Err}
use Rattle.casefile.specs.Bodies.{project_of, record_count, record_of}
use Rattle.casefile.specs.declared.table.Rule.{Rule}
use Rattle.casefile.specs.Refusal.{verdict}
use Rattle.evaluator.specs.State.{outputs_length, findings_length}
use Rattle.evaluator.specs.Answer.{Lent, Left, lends, number_in}
use Rattle.evaluator.specs.Runs.{run}
use Rattle.evaluator.specs.Fresh.{fresh_for}
use Rattle.evaluator.specs.declared.Refusal.{Refusal}
use Rattle.evaluator.specs.declared.Refusal.TheVariants.{File}
use Rattle.tracer.specs.declared.Ran.{Ran}

-- ---- the run

-- 01, "The trace program": m records of the file, from record k on
unfoldable pub records_from : List ℕ → ℕ → ℕ → List (List ℕ)
records_from F k zero = []
records_from F k (suc m) = record_of F k ∷ records_from F (k + 1) m

-- 01, "The trace program": it starts fresh; the outputs and the findings are zeros
unfoldable pub fresh_lent : List ℕ → Lent
fresh_lent F =
    lends (fresh_for (project_of F)) (replicate (outputs_length (project_of F).outputs) 0)
    (replicate (findings_length (project_of F).blocks) 0)

-- 01, "The trace program": what each call answers and leaves, of all cycles
unfoldable pub calls : List ℕ → List Left
calls F = run F (records_from F 0 (record_count F)) (fresh_lent F)

-- ---- how it ends

-- 01, "The trace program": a call that was turned down ends the trace; after one that found k it goes on
abbrev pub goes_on : {A : Type 0} → Result ℕ Refusal → (Refusal → A) → (ℕ → A) → A
goes_on (Ok k) ends on = on k
goes_on (Err r) ends on = ends r

-- 01, "The trace program": the last line has the counts of cycles and findings, or says that a record was turned down.
-- The calls come after c cycles with n findings
abbrev pub all_ran : ℕ → ℕ → Result Ran Refusal
all_ran c n = Ok (record { cycles = c; findings = n })

unfoldable pub ended : ℕ → ℕ → List Left → Result Ran Refusal
ended c n [] = all_ran c n
ended c n (l ∷ ls) = goes_on l.answer (λ r. Err r) (λ k. ended (c + 1) (n + k) ls)

unfoldable pub run_end : List ℕ → Result Ran Refusal
run_end F = ended 0 0 (calls F)

-- 01, "The trace program": or that the file was turned down
abbrev pub unless_refused : Result (Unit {0}) Rule → Result Ran Refusal → Result Ran Refusal
unless_refused (Ok u) e = e
unless_refused (Err r) e = Err (File r)

unfoldable pub end_of : List ℕ → Result Ran Refusal
end_of F = unless_refused (verdict F) (run_end F)

-- 01, "The trace program": the number that an end stands for, 0 where all cycles have run
abbrev pub end_number : Result Ran Refusal → ℕ
end_number e = number_in e

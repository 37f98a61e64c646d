-- The sizes of a project's buffers, and the fresh state in a buffer that is lent for it (01, "Turned down: numbers and
-- order", 10 and Sizes; 01, "Block state", Fresh). F is the file, P its project, S the buffer.
use Rattle.std.specs.Prelude.{ℕ, cond, List, [], ◌∷◌, ◌++◌, eqb, length, replicate, Result, Ok, Err}
use Rattle.wire.specs.Records.{gather}
use Rattle.wire.specs.Tables.{Row, row, first}
use Rattle.project.specs.Project.{Project, group_count, block_count}
use Rattle.casefile.specs.Bodies.{project_of}
use Rattle.casefile.specs.declared.table.Rule.{Rule}
use Rattle.casefile.specs.Refusal.{file_table, verdict, number_of}
use Rattle.block.specs.State.{fresh_bytes}
use Rattle.evaluator.specs.State.{state_head, state_length, outputs_length, findings_length}
use Rattle.evaluator.specs.declared.Sizes.{Sizes}
use Rattle.evaluator.specs.declared.Refusal.{Refusal}
use Rattle.evaluator.specs.declared.Refusal.TheVariants.{Sizes as WrongSize}
use Rattle.evaluator.specs.Answer.{checked_then}

-- 01, "Turned down", Sizes: those of an accepted file's buffers; any other file is turned down
abbrev pub sizes_for : Project → Sizes
sizes_for P = record {
  state = state_length P.groups P.blocks;
  outputs = outputs_length P.outputs;
  findings = findings_length P.blocks;
}

abbrev pub sizes_at : Result (Unit {0}) Rule → Project → Result Sizes Rule
sizes_at (Ok u) P = Ok (sizes_for P)
sizes_at (Err r) P = Err r

unfoldable pub sizes_of : List ℕ → Result Sizes Rule
sizes_of F = sizes_at (verdict F) (project_of F)

-- 01, "Turned down": the number that an answer stands for, 0 for accepted
abbrev pub sizes_number : Result Sizes Rule → ℕ
sizes_number z = number_of z

-- 01, "Block state", Fresh: group 0, code 2, the rest 0
unfoldable pub fresh_for : Project → List ℕ
fresh_for P = replicate (state_head (group_count P.groups)) 0 ++ gather (block_count P.blocks) (λ b. fresh_bytes)

-- 01, "Turned down": the file's rules, and then 10, the buffer is of the exact size
unfoldable pub fresh_table : List ℕ → List ℕ → List Row
fresh_table F S =
    file_table F ++ row 10 (eqb (length S) (state_length (project_of F).groups (project_of F).blocks)) ∷ []

unfoldable pub fresh_number : List ℕ → List ℕ → ℕ
fresh_number F S = first (fresh_table F S)

-- 01, "Turned down": the first of these rules that is not kept
unfoldable pub fresh_verdict : List ℕ → List ℕ → Result (Unit {0}) Refusal
fresh_verdict F S =
    checked_then (verdict F)
    (cond (eqb (length S) (state_length (project_of F).groups (project_of F).blocks)) (Ok tt) (Err WrongSize))

-- 01, "Block state", Fresh: what then stands in the buffer; "Turned down": refused, nothing is written
unfoldable pub fresh_left : List ℕ → List ℕ → List ℕ
fresh_left F S = cond (eqb (fresh_number F S) 0) (fresh_for (project_of F)) S

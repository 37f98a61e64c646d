-- What the answers of the product's calls are as C's numbers, what a call leaves in the numbers that it is lent, and
-- how large the buffers may be (01, "Turned down: numbers and order").
use Rattle.std.specs.Prelude.{ℕ, ◌+◌, ◌*◌, List, ℤ, pos, neg_ℤ, Result, Ok, Err}
use Rattle.project.specs.Project.{word_size}
use Rattle.block.specs.State.{state_size}
use Rattle.block.specs.Finding.{finding_size}
use Rattle.evaluator.specs.State.{state_head}
use Rattle.casefile.specs.declared.table.Rule.{Rule}
use Rattle.evaluator.specs.declared.Refusal.{Refusal}
use Rattle.evaluator.specs.declared.Sizes.{Sizes}
use Rattle.evaluator.specs.Answer.{Left, refusal_number, lends, cycle_of}

-- 01, "Turned down": a cycle call takes file, one record, state, outputs, findings
abbrev pub call_of : List ℕ → List ℕ → List ℕ → List ℕ → List ℕ → Left
call_of file rec state outputs findings = cycle_of file rec (lends state outputs findings)

-- DECISIONS 38: the count of findings, 0 or more, or minus the refusal's number
abbrev pub answer_number : Result ℕ Refusal → ℤ
answer_number (Ok k) = pos k
answer_number (Err r) = neg_ℤ (pos (refusal_number r))

-- 01, "Turned down", Sizes: what is left in the number lent for a buffer's size, which was x; refused, nothing is
-- written
abbrev pub state_said : Result Sizes Rule → ℕ → ℕ
state_said (Ok z) x = z.state
state_said (Err r) x = x

abbrev pub outputs_said : Result Sizes Rule → ℕ → ℕ
outputs_said (Ok z) x = z.outputs
outputs_said (Err r) x = x

abbrev pub findings_said : Result Sizes Rule → ℕ → ℕ
findings_said (Ok z) x = z.findings
findings_said (Err r) x = x

-- ---- how large, as include/hagglethwait.h says it

-- 01, "Turned down", 3, 5 and 8: an accepted file has at most 8 groups, 64 blocks and 64 external outputs
abbrev pub most_groups : ℕ
most_groups = 8

abbrev pub most_blocks : ℕ
most_blocks = 64

abbrev pub most_outputs : ℕ
most_outputs = 64

-- 01, "Turned down", Sizes: so a state has at most 1,032 bytes, the outputs 256 and the findings 1,024
abbrev pub most_state : ℕ
most_state = state_head most_groups + state_size * most_blocks

abbrev pub most_output_bytes : ℕ
most_output_bytes = word_size * most_outputs

abbrev pub most_finding_bytes : ℕ
most_finding_bytes = finding_size * most_blocks

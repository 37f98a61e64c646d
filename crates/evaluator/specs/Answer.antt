-- What a cycle call answers and leaves in the buffers lent to it (01, "Turned down: numbers and order"). G, I, B and O
-- are the bodies of the groups, the inputs, the blocks and the outputs, h is how many groups there are, R the record, P
-- the project, F the file.
use Rattle.std.specs.Prelude.{ℕ, Bool, ◌&&◌, cond, List, [], ◌∷◌, ◌++◌, eqb, leb, length, Result, Ok, Err}
use Rattle.wire.specs.Places.{all}
use Rattle.wire.specs.Tables.{Row, row, first}
use Rattle.kind.specs.Devices.{control_rule}
use Rattle.project.specs.Project.{Project, device, group_count, run_linked, input_count, input_type, record_size}
use Rattle.casefile.specs.Bodies.{project_of}
use Rattle.casefile.specs.declared.table.Rule.{Rule}
use Rattle.casefile.specs.Refusal.{file_table, verdict, refusal_of}
use Rattle.block.specs.Shows.{word_ok}
use Rattle.evaluator.specs.State.{state_length, outputs_length, findings_length, state_formed}
use Rattle.evaluator.specs.Groups.{elapsed, control_byte, input_word}
use Rattle.evaluator.specs.Cycle.{new_state, new_outputs, new_findings, finding_count}
use Rattle.evaluator.specs.declared.Refusal.{Refusal}
use Rattle.evaluator.specs.declared.Refusal.TheVariants.{File, Sizes, State, Record}

-- ---- 12: the record

-- 01, "The case file", T: a group byte has the bits that the device allows; where Run is not linked, bit 0 must be 0
unfoldable pub control_ok : List ℕ → List ℕ → ℕ → Bool
control_ok G R g = control_rule (device G) (run_linked G g) (control_byte R g)

-- 01, "The case file", T: sign- or zero-extended by type; BOOL 0 or 1
unfoldable pub input_fits : ℕ → List ℕ → List ℕ → ℕ → Bool
input_fits h I R i = word_ok (input_type I i) (input_word h R i)

-- 01, "The case file", T: the elapsed time is 1 to 1,000
unfoldable pub record_ok : List ℕ → List ℕ → List ℕ → Bool
record_ok G I R =
    eqb (length R) (record_size G I)
    && leb 1 (elapsed R)
    && leb (elapsed R) 1000
    && all (control_ok G R) (group_count G)
    && all (input_fits (group_count G) I R) (input_count I)

-- ---- the call

-- 01, "Turned down": a cycle call takes file, one record, state, outputs, findings. What it is lent
pub record Lent : Type 0 where
  pub state : List ℕ
  pub outputs : List ℕ
  pub findings : List ℕ

abbrev pub lends : List ℕ → List ℕ → List ℕ → Lent
lends state outputs findings = record { state = state; outputs = outputs; findings = findings }

-- 01, "Turned down", 10: the buffers are of the exact size
unfoldable pub sizes_ok : Project → Lent → Bool
sizes_ok P L =
    eqb (length L.state) (state_length P.groups P.blocks)
    && eqb (length L.outputs) (outputs_length P.outputs)
    && eqb (length L.findings) (findings_length P.blocks)

-- 01, "Turned down": the rules of a call in their order, the file's and then 10 to 12
abbrev pub call_rows : Project → List ℕ → Lent → List Row
call_rows P R L =
    row 10 (sizes_ok P L)
    ∷ row 11 (state_formed P.groups P.blocks L.state)
    ∷ row 12 (record_ok P.groups P.inputs R)
    ∷ []

unfoldable pub call_table : List ℕ → List ℕ → Lent → List Row
call_table F R L = file_table F ++ call_rows (project_of F) R L

-- 01, "Turned down": the number of the first rule that is not kept, 0 where each is
unfoldable pub refusal : List ℕ → List ℕ → Lent → ℕ
refusal F R L = first (call_table F R L)

-- 01, "Turned down": the number of a refusal, and that of an answer, 0 for accepted
abbrev pub refusal_number : Refusal → ℕ
refusal_number (File r) = refusal_of r
refusal_number Sizes = 10
refusal_number State = 11
refusal_number Record = 12

abbrev pub number_in : {A : Type 0} → Result A Refusal → ℕ
number_in (Ok x) = 0
number_in (Err r) = refusal_number r

-- 01, "Turned down": the first of a call's rules that is not kept: one of the file's, and of an accepted file t
abbrev pub checked_then : Result (Unit {0}) Rule → Result (Unit {0}) Refusal → Result (Unit {0}) Refusal
checked_then (Ok u) t = t
checked_then (Err r) t = Err (File r)

abbrev pub call_tested : Project → List ℕ → Lent → Result (Unit {0}) Refusal
call_tested P R L =
    cond (sizes_ok P L)
    (cond (state_formed P.groups P.blocks L.state) (cond (record_ok P.groups P.inputs R) (Ok tt) (Err Record))
    (Err State))
    (Err Sizes)

unfoldable pub call_verdict : List ℕ → List ℕ → Lent → Result (Unit {0}) Refusal
call_verdict F R L = checked_then (verdict F) (call_tested (project_of F) R L)

-- what a call answers and leaves in the three buffers
pub record Left : Type 0 where
  pub answer : Result ℕ Refusal
  pub lent : Lent

-- 01, "Turned down": accepted, it returns the count of findings; refused, it writes nothing and returns the refusal
abbrev pub leaves : Result (Unit {0}) Refusal → Project → List ℕ → Lent → Left
leaves (Ok u) P R L = record {
  answer = Ok (finding_count P.groups P.blocks R L.state);
  lent = record {
    state = new_state P.groups P.blocks R L.state;
    outputs = new_outputs P.groups P.blocks P.outputs R L.state;
    findings = new_findings P.groups P.blocks R L.state;
  };
}
leaves (Err r) P R L = record { answer = Err r; lent = L }

-- a call over a file, by its project
unfoldable pub cycle_of : List ℕ → List ℕ → Lent → Left
cycle_of F R L = leaves (call_verdict F R L) (project_of F) R L

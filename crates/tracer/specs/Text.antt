-- What a trace prints (01, "The trace program"): for each cycle the lines of its findings, and the last line. F is the
-- file, B its body of blocks, c a cycle's number from 1, D the findings that a cycle left.
use Rattle.std.specs.Prelude.{ℕ, zero, suc, ◌+◌, ◌≡◌, List, [], ◌∷◌, ◌++◌, drop, Option, Some, None}
use Rattle.std.specs.Prelude.{Result, Ok, Err}
use Rattle.numbers.specs.Types.{type_of}
use Rattle.numbers.specs.declared.NumType.{NumType}
use Rattle.numbers.specs.declared.NumType.TheVariants.{Uint32}
use Rattle.kind.specs.Kinds.{family_of}
use Rattle.kind.specs.declared.Family.{Family}
use Rattle.kind.specs.declared.Family.TheVariants.{Decouple, Twohand, Arithmetic}
use Rattle.kind.specs.Ports.{type_in}
use Rattle.project.specs.Project.{row_of, kind_of, parameters_of}
use Rattle.casefile.specs.Bodies.{project_of}
use Rattle.block.specs.declared.FindingRecord.{FindingRecord}
use Rattle.block.specs.Finding.{finding_size, finding_in}
use Rattle.evaluator.specs.declared.Refusal.{Refusal}
use Rattle.evaluator.specs.Answer.{Left, refusal_number}
use Rattle.report.specs.Lines.{finding_line, end_line, refused_line}
use Rattle.tracer.specs.declared.Ran.{Ran}
use Rattle.tracer.specs.Traced.{calls, goes_on, end_of}

-- ---- a line

-- 01, "The trace program": inputs are signed by type. An arithmetic block's parameters have the types of its inputs;
-- all else is unsigned (DECISIONS 24)
abbrev pub shown_as : Option Family → ℕ → List ℕ → ℕ → NumType
shown_as (Some Decouple) k P p = Uint32
shown_as (Some Twohand) k P p = Uint32
shown_as (Some Arithmetic) k P p = type_of (type_in k P p)
shown_as None k P p = Uint32

-- that of input port p of block b
abbrev pub shown_type : List ℕ → ℕ → ℕ → NumType
shown_type B b p = shown_as (family_of (kind_of B b)) (kind_of B b) (parameters_of B b) p

-- 01, "The trace program": `finding`, cycle, block, text ID, diagnosis, both inputs
unfoldable pub line_of : List ℕ → ℕ → FindingRecord → List ℕ
line_of B c f =
    finding_line c f.block f.text f.diagnosis
    (shown_type B f.block 0) f.first (shown_type B f.block 1) f.second

-- 01, "The trace program": the lines of a cycle's first k findings, in their order
unfoldable pub lines_of : List ℕ → ℕ → ℕ → List ℕ → List ℕ
lines_of B c zero D = []
lines_of B c (suc k) D = lines_of B c k D ++ line_of B c (finding_in (row_of finding_size k D))

-- 01, "The trace program": at the end `end`, cycles, findings; or `refused` and the number
abbrev pub last_line : Result Ran Refusal → List ℕ
last_line (Ok e) = end_line e.cycles e.findings
last_line (Err r) = refused_line (refusal_number r)

-- ---- all of them

-- 01, "The trace program": what each cycle prints, all its findings and no others; nothing from the first on that is
-- turned down. The calls come after c cycles
unfoldable pub texts_from : List ℕ → ℕ → List Left → List (List ℕ)
texts_from B c [] = []
texts_from B c (l ∷ ls) =
    goes_on l.answer (λ _. []) (λ k. lines_of B (c + 1) k l.lent.findings ∷ texts_from B (c + 1) ls)

unfoldable pub texts : List ℕ → List (List ℕ)
texts F = texts_from (project_of F).blocks 0 (calls F)

-- general: texts one after the other
unfoldable pub joined : List (List ℕ) → List ℕ
joined [] = []
joined (t ∷ ts) = t ++ joined ts

-- 01, "The trace program": everything that is printed: `refused` and the number come after what was already found
unfoldable pub trace_text : List ℕ → List ℕ
trace_text F = joined (texts F) ++ last_line (end_of F)

-- T is what cycle c prints
pub record Told (F : List ℕ) (c : ℕ) (T : List ℕ) : Type 0 where
  pub before : ℕ
  pub later : List (List ℕ)
  pub number : c ≡ before + 1
  pub here : drop before (texts F) ≡ T ∷ later

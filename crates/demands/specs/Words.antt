-- One answer, and no second (01, "What the reviewer must be able to rely on": any second answer meeting the same words
-- is proved equal): the words of the public functions that answer with more than a number or write into what they are
-- lent, over plain lists and numbers, and what it is to have one answer. proofs/Second.antt has it of each function.
use Rattle.std.specs.Prelude.{ℕ, ◌≡◌, Bool, List, Float, Result}
use Rattle.std.proofs.lemmas.List.Edits.{sets}
use Rattle.casefile.specs.Bodies.{body_g, body_i, body_b, body_o, body_t, body_in}
use Rattle.block.specs.State.{enters_from}
use Rattle.report.specs.Lines.{Printed}
use Rattle.evaluator.specs.declared.Refusal.{Refusal}
use Rattle.evaluator.specs.Answer.{Lent, cycle_of}
use Rattle.evaluator.specs.Fresh.{sizes_of, sizes_number, fresh_left}
use Rattle.evaluator.specs.Steps.{step_answer, step_state, step_findings}
use Rattle.hagglethwait.specs.Calls.{state_said, outputs_said, findings_said}
use Rattle.hagglethwait.specs.Ledgers.{findings_left, dismissed_left, rates_left, bends_left}
use Rattle.year.specs.Ledger.{ledger_number}
use Rattle.year.specs.Year.{year_of}

-- ---- the words, by the names of the contracts' clauses; x is what comes out

-- general: one equation, what comes out, an answer or the bytes of a buffer, is a definition of what went in
abbrev pub Gives : {X : Type 0} → X → X → Type 0
Gives defined x = x ≡ defined

-- 01, "One cycle": a step of `block` that makes `made` of a block's bytes, which were `old`
pub record TurnWords (made old : List ℕ) (x : record { answer : Bool; bytes : List ℕ }) : Type 0 where
  pub left : x.bytes ≡ sets old 0 made
  pub enters : x.answer ≡ enters_from old made

-- 01, "The trace program": a line of `report`, in a buffer whose bytes were `old`
abbrev pub LineWords : List ℕ → List ℕ → record { answer : ℕ; bytes : List ℕ } → Type 0
LineWords line old x = Printed line old x.bytes x.answer

-- 01, "Turned down": `evaluator::cycle`, and the call for C, which tells the answer as a number
pub record CycleWords {N : Type 0} (tells : Result ℕ Refusal → N) (F R : List ℕ) (L : Lent)
    (x : record { answer : N; lent : Lent }) : Type 0 where
  pub answered : x.answer ≡ tells (cycle_of F R L).answer
  pub left : x.lent.state ≡ (cycle_of F R L).lent.state
  pub shown : x.lent.outputs ≡ (cycle_of F R L).lent.outputs
  pub told : x.lent.findings ≡ (cycle_of F R L).lent.findings

-- 01, "Block state", Fresh: `evaluator::fresh`, which answers `fresh_verdict`, and the call for C, which answers
-- `fresh_number`, into a buffer whose bytes were `old`
pub record FreshWords {N : Type 0} (answer : List ℕ → List ℕ → N) (F old : List ℕ)
    (x : record { answer : N; bytes : List ℕ }) : Type 0 where
  pub answered : x.answer ≡ answer F old
  pub left : x.bytes ≡ fresh_left F old

-- 01, "The case file": `casefile::Bodies::of`, which hands out the bodies of the file F
pub record BodiesWords (F : List ℕ)
    (x : record { groups : List ℕ; inputs : List ℕ; blocks : List ℕ; outputs : List ℕ; trace : List ℕ })
    : Type 0 where
  pub groups : x.groups ≡ body_in F body_g
  pub inputs : x.inputs ≡ body_in F body_i
  pub blocks : x.blocks ≡ body_in F body_b
  pub outputs : x.outputs ≡ body_in F body_o
  pub trace : x.trace ≡ body_in F body_t

-- 01, "The trace program": `evaluator::unchecked::step`, a cycle inside a trace
pub record StepWords (G I B R S D : List ℕ)
    (x : record { answer : Result ℕ Refusal; state : List ℕ; findings : List ℕ }) : Type 0 where
  pub answered : x.answer ≡ step_answer G I B R S
  pub left : x.state ≡ step_state G I B R S
  pub told : x.findings ≡ step_findings G I B R S D

-- 01, "Turned down", Sizes: `hagglethwait_sizes`, which is lent the numbers s, o and d
pub record SizesWords (F : List ℕ) (s o d : ℕ)
    (x : record { answer : ℕ; state : ℕ; outputs : ℕ; findings : ℕ }) : Type 0 where
  pub answered : x.answer ≡ sizes_number (sizes_of F)
  pub stated : x.state ≡ state_said (sizes_of F) s
  pub shown : x.outputs ≡ outputs_said (sizes_of F) o
  pub told : x.findings ≡ findings_said (sizes_of F) d

-- 02, W4: `hagglethwait_ledger`, which is lent what L holds
pub record Columns : Type 0 where
  pub findings : List ℕ
  pub dismissed : List ℕ
  pub rates : List Float
  pub bends : List ℕ

abbrev pub columns : List ℕ → List ℕ → List Float → List ℕ → Columns
columns f d r b = record { findings = f; dismissed = d; rates = r; bends = b }

pub record LedgerWords (F : List ℕ) (L : Columns) (x : record { answer : ℕ; lent : Columns }) : Type 0 where
  pub answered : x.answer ≡ ledger_number F
  pub found : x.lent.findings ≡ findings_left (year_of F) L.findings
  pub gone : x.lent.dismissed ≡ dismissed_left (year_of F) L.dismissed
  pub rated : x.lent.rates ≡ rates_left (year_of F) L.rates
  pub bent : x.lent.bends ≡ bends_left (year_of F) L.bends

-- ---- one answer

-- 01, "What the reviewer must be able to rely on": a contract P, of lifetimes, the arguments a, the result r and the
-- arguments at exit s, says the words of what is seen of s and r, and any second s and r that meet it show the same
pub record OneAnswer {K : Type 0} {A R S : K → Type 0} {X : Type 0}
    (P : (κs : K) → A κs → R κs → S κs → Type 0)
    (Words : (κs : K) → A κs → X → Type 0) (seen : (κs : K) → S κs → R κs → X) : Type 0 where
  pub says : (κs : K) (a : A κs) (r : R κs) (s : S κs) → P κs a r s → Words κs a (seen κs s r)
  pub second :
      (κs : K) (a : A κs) (r r' : R κs) (s s' : S κs) → P κs a r s → P κs a r' s' →
      seen κs s r ≡ seen κs s' r'

-- general: a function of so many arguments, of their list, at any lifetimes
abbrev pub of1 {ℓ} : {K A : Type 0} {Z : Type ℓ} → (A → Z) → K → A × Unit {0} → Z
of1 f κs a = f a.0

abbrev pub of2 {ℓ} : {K A B : Type 0} {Z : Type ℓ} → (A → B → Z) → K → A × (B × Unit {0}) → Z
of2 f κs a = of1 (f a.0) κs a.1

abbrev pub of3 {ℓ} : {K A B C : Type 0} {Z : Type ℓ} →
    (A → B → C → Z) → K → A × (B × (C × Unit {0})) → Z
of3 f κs a = of2 (f a.0) κs a.1

abbrev pub of4 {ℓ} : {K A B C D : Type 0} {Z : Type ℓ} →
    (A → B → C → D → Z) → K → A × (B × (C × (D × Unit {0}))) → Z
of4 f κs a = of3 (f a.0) κs a.1

abbrev pub of5 {ℓ} : {K A B C D E : Type 0} {Z : Type ℓ} →
    (A → B → C → D → E → Z) → K → A × (B × (C × (D × (E × Unit {0})))) → Z
of5 f κs a = of4 (f a.0) κs a.1

abbrev pub of6 {ℓ} : {K A B C D E F : Type 0} {Z : Type ℓ} →
    (A → B → C → D → E → F → Z) → K → A × (B × (C × (D × (E × (F × Unit {0}))))) → Z
of6 f κs a = of5 (f a.0) κs a.1

abbrev pub of9 {ℓ} : {K A B C D E F G H I : Type 0} {Z : Type ℓ} →
    (A → B → C → D → E → F → G → H → I → Z) → K →
    A × (B × (C × (D × (E × (F × (G × (H × (I × Unit {0})))))))) → Z
of9 f κs a = of6 (f a.0 a.1.0 a.1.1.0) κs a.1.1.1

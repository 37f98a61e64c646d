-- The turns of a trace: before each, the calls that are left are a run from what the last one left; a record that is
-- taken goes on with the next, and another ends the trace. Assumes nothing.
use Rattle.wire.proofs.Usual.{◌≡◌, refl, sym, ap, ◌∙◌, Bool, true, false, cond, List, [], ◌∷◌, ℕ, suc}
use Rattle.wire.proofs.Usual.{◌+◌, ◌-◌, ◌≤◌, ◌<◌, arith, length, replicate, drop, length-replicate}
use native.Mathlib.Nat.{sub-zero}
use lib.Seq.{drop-drop}
use Rattle.std.specs.Prelude.{Result, Ok, Err}
use Rattle.casefile.specs.Bodies.{project_of, record_count, record_of}
use Rattle.casefile.specs.Refusal.{verdict}
use Rattle.evaluator.specs.declared.Refusal.{Refusal}
use Rattle.evaluator.specs.declared.Refusal.TheVariants.{Record}
use Rattle.evaluator.specs.State.{outputs_length, findings_length, state_formed}
use Rattle.evaluator.specs.Cycle.{finding_count, new_findings}
use Rattle.evaluator.specs.Answer.{Lent, Left, record_ok, sizes_ok, cycle_of}
use Rattle.evaluator.specs.Runs.{run}
use Rattle.evaluator.specs.Fresh.{fresh_for}
use Rattle.evaluator.specs.Steps.{step_answer, step_state, step_findings}
use Rattle.evaluator.proofs.FreshFormed.{fresh_length, fresh_state_formed}
use Rattle.evaluator.proofs.Stepping.{Stepped, stepped, sizes_are}
use Rattle.evaluator.proofs.Few.{few_found, none_found}
use Rattle.tracer.specs.declared.Ran.{Ran}
use Rattle.tracer.specs.Traced.{records_from, fresh_lent, calls, goes_on, all_ran, ended, run_end}
use Rattle.tracer.specs.Text.{lines_of, texts_from, texts, Told}
use Rattle.tracer.proofs.Starting.{taken_of}

-- before cycle k of n, with the state S and the count of findings t so far
pub record Here (F : List ℕ) (n k t : ℕ) (S : List ℕ) : Type 0 where
  pub lent : Lent
  pub state : S ≡ lent.state
  pub sizes : sizes_ok (project_of F) lent ≡ true
  pub formed : state_formed (project_of F).groups (project_of F).blocks lent.state ≡ true
  pub left : drop k (calls F) ≡ run F (records_from F k (n - k)) lent
  pub ends : ended k t (drop k (calls F)) ≡ run_end F
  pub told : drop k (texts F) ≡ texts_from (project_of F).blocks k (drop k (calls F))

pub formed_here : {F : List ℕ} {n k t : ℕ} {S : List ℕ} → Here F n k t S →
    state_formed (project_of F).groups (project_of F).blocks S ≡ true
formed_here h = rw h.state h.formed

-- at the start
pub begins : (F : List ℕ) (n : ℕ) {S : List ℕ} → verdict F ≡ Ok tt → n ≡ record_count F →
    S ≡ fresh_for (project_of F) → Here F n 0 0 S
unfolding fresh_lent calls run_end texts
begins F n z e s =
    let P = project_of F in
    record {
      lent = fresh_lent F;
      state = s;
      sizes =
          sizes_are P (fresh_lent F) (fresh_length P) (length-replicate {A = ℕ} (outputs_length P.outputs) 0)
          (length-replicate {A = ℕ} (findings_length P.blocks) 0);
      formed = fresh_state_formed P (taken_of F z).sound;
      left = ap (λ (m : ℕ). run F (records_from F 0 m) (fresh_lent F)) (sym (sub-zero n ∙ e));
      ends = refl;
      told = refl;
    }

-- after the last
pub ran : {F : List ℕ} {n k t : ℕ} {S : List ℕ} → Here F n k t S → n ≡ k → all_ran n t ≡ run_end F
unfolding ended run records_from
ran {F} {n} {k} {t} h e = ap (λ (m : ℕ). all_ran m t) e ∙ sym (ap (ended k t) none) ∙ h.ends
  where
    none : drop k (calls F) ≡ []
    none =
        let no : n - k ≡ 0 = omega (arith, e) in
        h.left ∙ ap (λ (m : ℕ). run F (records_from F k m) h.lent) no

-- what the findings were before does not matter to a step that takes its record
found_some : (b : Bool) (m : ℕ) {n : ℕ} → Ok n ≡ cond b (Ok m) (Err Record) →
    (X D Y : List ℕ) → cond b X D ≡ cond b X Y
found_some true m e X D Y = refl
found_some false m e X D Y = absurd (cc)

-- the call of cycle k, and what comes after it, where L is lent to it
abbrev pub call : List ℕ → ℕ → Lent → Left
call F k L = cycle_of F (record_of F k) L

abbrev pub later : List ℕ → ℕ → ℕ → Lent → List Left
later F n k L = run F (records_from F (k + 1) (n - (k + 1))) (call F k L).lent

-- a step answered a, and left the state S and the findings D: what the call l does
pub record Turned (l : Left) (a : Result ℕ Refusal) (S D : List ℕ) : Type 0 where
  pub answer : a ≡ l.answer
  pub state : S ≡ l.lent.state
  pub findings : {m : ℕ} → a ≡ Ok m → D ≡ l.lent.findings

-- cycle k
module _ {F : List ℕ} {n k t : ℕ} {S : List ℕ} (z : verdict F ≡ Ok tt) (h : Here F n k t S) where
  made : Stepped (project_of F) (record_of F k) h.lent (call F k h.lent)
  made = stepped F (record_of F k) h.lent z h.sizes h.formed

  -- by a step over bodies and a record that are the file's
  pub turned : {G I B R : List ℕ} → G ≡ (project_of F).groups → I ≡ (project_of F).inputs →
      B ≡ (project_of F).blocks →
      R ≡ record_of F k → {a : Result ℕ Refusal} {S1 D1 : List ℕ} (D : List ℕ) → a ≡ step_answer G I B R S →
      S1 ≡ step_state G I B R S → D1 ≡ step_findings G I B R S D → Turned (call F k h.lent) a S1 D1
  unfolding step_answer step_findings
  turned {G} {I} {B} {R} g i b r D e s d = record {
    answer = e ∙ (λ j. step_answer (g j) (i j) (b j) (r j) (h.state j)) ∙ sym made.answer;
    state = s ∙ (λ j. step_state (g j) (i j) (b j) (r j) (h.state j)) ∙ sym made.state;
    findings = λ y.
        d ∙ found_some (record_ok G I R) (finding_count G B R S) (sym y ∙ e) (new_findings G B R S) D
        h.lent.findings
        ∙ (λ j. step_findings (g j) (i j) (b j) (r j) (h.state j) h.lent.findings) ∙ sym made.findings;
  }

module _ {F : List ℕ} {n k t : ℕ} {S : List ℕ} (h : Here F n k t S) (l : k < n) where
  pub unrolled : drop k (calls F) ≡ call F k h.lent ∷ later F n k h.lent
  unfolding run records_from
  unrolled =
      let one : n - k ≡ suc (n - (k + 1)) = omega arith in
      h.left ∙ ap (λ (m : ℕ). run F (records_from F k m) h.lent) one

  rest : drop (k + 1) (calls F) ≡ later F n k h.lent
  rest = sym (drop-drop 1 k (calls F)) ∙ ap (drop 1) unrolled

  -- what the trace ends with, where the call answers a
  abbrev end_by : Result ℕ Refusal → Result Ran Refusal
  end_by a = goes_on a (λ r. Err r) (λ x. ended (k + 1) (t + x) (later F n k h.lent))

  ends_by : {a : Result ℕ Refusal} → a ≡ (call F k h.lent).answer → end_by a ≡ run_end F
  unfolding ended
  ends_by e = ap end_by e ∙ sym (ap (ended k t) unrolled) ∙ h.ends

  -- what is printed from this cycle on
  abbrev texts_with : Result ℕ Refusal → List (List ℕ)
  texts_with a =
      let B = (project_of F).blocks in
      goes_on a (λ _. []) (λ m. lines_of B (k + 1) m (call F k h.lent).lent.findings
      ∷ texts_from B (k + 1) (later F n k h.lent))

  texts_by : {a : Result ℕ Refusal} → a ≡ (call F k h.lent).answer → drop k (texts F) ≡ texts_with a
  unfolding texts_from
  texts_by e = h.told ∙ ap (texts_from (project_of F).blocks k) unrolled ∙ sym (ap texts_with e)

  -- the lines of a record that is taken
  pub tells : {a : Result ℕ Refusal} {m : ℕ} {S1 D1 B : List ℕ} → a ≡ Ok m →
      Turned (call F k h.lent) a S1 D1 → B ≡ (project_of F).blocks → {c : ℕ} → c ≡ k + 1 →
      Told F c (lines_of B c m D1)
  tells {m = m} e u b i =
      let rest = texts_from (project_of F).blocks (k + 1) (later F n k h.lent) in
      record {
        before = k;
        later = rest;
        number = i;
        here = texts_by (sym e ∙ u.answer) ∙ sym (λ j. lines_of (b j) (i j) m (u.findings e j) ∷ rest);
      }

  -- it has few findings, and where it has none zeros
  pub finds_few : {a : Result ℕ Refusal} {m : ℕ} {S1 D1 : List ℕ} → a ≡ Ok m →
      Turned (call F k h.lent) a S1 D1 → m ≤ 64
  finds_few {m = m} e u = few_found F (record_of F k) h.lent m (sym e ∙ u.answer)

  pub finds_none : {a : Result ℕ Refusal} {m : ℕ} {S1 D1 : List ℕ} → a ≡ Ok m →
      Turned (call F k h.lent) a S1 D1 → m ≡ 0 → D1 ≡ replicate (length D1) 0
  finds_none {D1 = D1} e u z =
      let n = findings_length (project_of F).blocks in
      let zeros : D1 ≡ replicate n 0 =
      u.findings e ∙ none_found F (record_of F k) h.lent (sym (e ∙ ap Ok z) ∙ u.answer) in
      zeros ∙ ap (λ (m : ℕ). replicate m 0) (sym (ap length zeros ∙ length-replicate {A = ℕ} n 0))

  -- a record that is taken
  pub continues : verdict F ≡ Ok tt → {a : Result ℕ Refusal} {m : ℕ} {S1 D1 : List ℕ} → a ≡ Ok m →
      Turned (call F k h.lent) a S1 D1 → Here F n (k + 1) (t + m) S1
  continues z {a} {m} e u = record {
    lent = (call F k h.lent).lent;
    state = u.state;
    sizes = (made z h).sizes;
    formed = (made z h).formed;
    left = rest;
    ends = ap (ended (k + 1) (t + m)) rest ∙ ends_by (sym e ∙ u.answer);
    told =
        sym (drop-drop 1 k (texts F)) ∙ ap (drop 1) (texts_by (sym e ∙ u.answer))
        ∙ sym (ap (texts_from (project_of F).blocks (k + 1)) rest);
  }

  -- one that is turned down
  pub stops : {a : Result ℕ Refusal} {r : Refusal} {S1 D1 : List ℕ} → a ≡ Err r → Turned (call F k h.lent) a S1 D1 →
      Err r ≡ run_end F
  stops e u = ends_by (sym e ∙ u.answer)

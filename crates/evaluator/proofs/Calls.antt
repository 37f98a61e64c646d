-- What a cycle call answers, by the first row of its table that is not kept. Assumes nothing.
use Rattle.wire.proofs.Usual.{◌≡◌, refl, sym, ap, ◌∙◌, Bool, true, false, cond, ◌&&◌, List, [], ◌∷◌, ◌++◌, ℕ, ◌<◌}
use Rattle.wire.proofs.Usual.{eqb, length, eqb-true}
use Rattle.std.proofs.Common.{lit<}
use lib.Dec.{leb}
use Rattle.std.specs.Prelude.{Result, Ok, Err}
use Rattle.std.specs.Result.{IsErrAnd}
use Rattle.wire.specs.Places.{all}
use Rattle.wire.specs.Tables.{Row, row, first}
use Rattle.wire.proofs.Places.{both_left, both_right}
use Rattle.wire.proofs.Tables.{first_zero, first_kept, first_broken}
use Rattle.project.specs.declared.Counts.{Counts}
use Rattle.project.specs.Project.{Project, group_count, input_count, record_size, counts_in}
use Rattle.casefile.specs.declared.table.Rule.{Rule}
use Rattle.casefile.specs.Bodies.{project_of}
use Rattle.casefile.specs.Refusal.{file_table, verdict, number_of, refusal_of}
use Rattle.casefile.proofs.Refusals.{file_numbered, number_is, number_zero, refusal_some as file_some}
use Rattle.casefile.proofs.Accepted.{accepted}
use Rattle.evaluator.specs.declared.Refusal.{Refusal}
use Rattle.evaluator.specs.declared.Refusal.TheVariants.{File, Sizes, State, Record}
use Rattle.evaluator.specs.State.{state_length, outputs_length, findings_length, state_formed}
use Rattle.evaluator.specs.Groups.{elapsed}
use Rattle.evaluator.specs.Cycle.{new_state, new_outputs, new_findings, finding_count}
use Rattle.evaluator.specs.Answer.{control_ok, input_fits, record_ok, Lent, lends, sizes_ok, call_rows, call_table}
use Rattle.evaluator.specs.Answer.{refusal, refusal_number, number_in, checked_then, call_tested, call_verdict}
use Rattle.evaluator.specs.Answer.{leaves, cycle_of}
use Rattle.evaluator.specs.Asks.{Few, Admitted}
use Rattle.evaluator.proofs.Checking.{Taken, taken, few, groups_counted, blocks_counted, outputs_counted}

-- a record that is one of the project's has its size
pub sized : (G I R : List ℕ) → record_ok G I R ≡ true → length R ≡ record_size G I
unfolding record_ok
sized G I R e =
    let a = eqb (length R) (record_size G I) in
    let b = leb 1 (elapsed R) in
    let c = leb (elapsed R) 1000 in
    let d = all (control_ok G R) (group_count G) in
    let f = all (input_fits (group_count G) I R) (input_count I) in
    eqb-true _ _ (both_left a b (both_left (a && b) c (both_left (a && b && c) d (both_left (a && b && c && d) f e))))

-- ---- the rules of a call, of the project P

-- by whether each is kept
abbrev tested : Bool → Bool → Bool → Result (Unit {0}) Refusal
tested a b c = cond a (cond b (cond c (Ok tt) (Err Record)) (Err State)) (Err Sizes)

module _ (P : Project) (R : List ℕ) (L : Lent) where
  pub tested_sizes : sizes_ok P L ≡ false → Err Sizes ≡ call_tested P R L
  tested_sizes a = rw a

  pub tested_state : sizes_ok P L ≡ true → state_formed P.groups P.blocks L.state ≡ false →
      Err State ≡ call_tested P R L
  tested_state a b = rw (a, b)

  pub tested_record : sizes_ok P L ≡ true → state_formed P.groups P.blocks L.state ≡ true →
      record_ok P.groups P.inputs R ≡ false → Err Record ≡ call_tested P R L
  tested_record a b c = rw (a, b, c)

  pub tested_none : sizes_ok P L ≡ true → state_formed P.groups P.blocks L.state ≡ true →
      record_ok P.groups P.inputs R ≡ true → Ok tt ≡ call_tested P R L
  tested_none a b c = rw (a, b, c)

  -- the number of the first that is not kept
  tested_number : number_in (call_tested P R L) ≡ first (call_rows P R L)
  unfolding first
  tested_number = go (sizes_ok P L) (state_formed P.groups P.blocks L.state) (record_ok P.groups P.inputs R)
    where
      go : (a b c : Bool) →
          number_in (tested a b c)
          ≡ first (row 10 a ∷ row 11 b ∷ row 12 c ∷ [])
      go true true true = refl
      go true true false = refl
      go true false c = refl
      go false b c = refl

  -- what holds of a call that is not turned down
  pub record Passed : Type 0 where
    pub sizes : sizes_ok P L ≡ true
    pub state : state_formed P.groups P.blocks L.state ≡ true
    pub given : record_ok P.groups P.inputs R ≡ true

  -- and that nothing else does
  pub passed_all : call_tested P R L ≡ Ok tt → Passed
  passed_all = go (sizes_ok P L) (state_formed P.groups P.blocks L.state) (record_ok P.groups P.inputs R) refl refl refl
    where
      go : (a b c : Bool) → sizes_ok P L ≡ a → state_formed P.groups P.blocks L.state ≡ b →
          record_ok P.groups P.inputs R ≡ c →
          tested a b c ≡ Ok tt → Passed
      go true true true e f g h = record { sizes = e; state = f; given = g }
      go true true false e f g h = absurd (cc)
      go true false c e f g h = absurd (cc)
      go false b c e f g h = absurd (cc)

-- what was tested is what a cycle asks
pub admitted : (P : Project) (R : List ℕ) (L : Lent) (c : Counts) → c ≡ counts_in P → Taken P →
    Passed P R L → Admitted c P.groups P.blocks P.outputs R L.state L.outputs L.findings
unfolding sizes_ok record_size
admitted P R L c e t p =
    let s = eqb (length L.state) (state_length P.groups P.blocks) in
    let o = eqb (length L.outputs) (outputs_length P.outputs) in
    let d = eqb (length L.findings) (findings_length P.blocks) in
    record {
      inputs = input_count P.inputs;
      sound = t.sound;
      shown = t.shown;
      groups = groups_counted e t;
      blocks = blocks_counted e t;
      rows = outputs_counted e t;
      given = sized P.groups P.inputs R p.given;
      state = eqb-true _ _ (both_left s o (both_left (s && o) d p.sizes));
      outputs = eqb-true _ _ (both_right s o (both_left (s && o) d p.sizes));
      findings = eqb-true _ _ (both_right (s && o) d p.sizes);
      formed = p.state;
    }

-- ---- a file and then more

-- no refusal has the number 0
pub refusal_some : (r : Refusal) → 0 < refusal_number r
refusal_some (File r) = file_some r
refusal_some Sizes = lit< tt
refusal_some State = lit< tt
refusal_some Record = lit< tt

-- the number of an answer is the file's, and of an accepted file t's
pub checked_number : (F : List ℕ) (t : Result (Unit {0}) Refusal) (rs : List Row) → number_in t ≡ first rs →
    number_in (checked_then (verdict F) t) ≡ first (file_table F ++ rs)
checked_number F t rs e = go (verdict F) refl
  where
    go : (v : Result (Unit {0}) Rule) → verdict F ≡ v → number_in (checked_then v t) ≡ first (file_table F ++ rs)
    go (Ok u) h =
        let z : first (file_table F) ≡ 0 = sym (number_is F) ∙ ap number_of h in
        e ∙ sym (first_kept (file_table F) rs ((first_zero (file_table F) (file_numbered F)).0 z))
    go (Err r) h =
        let n : refusal_of r ≡ first (file_table F) = sym (ap number_of h) ∙ number_is F in
        n
        ∙ sym (first_broken (file_table F) rs (λ z.
        let never : Err r ≡ Ok tt = sym h ∙ number_zero F z in
        absurd (cc)))

-- of a file that is turned down it is the file's
pub checked_file : (F : List ℕ) {v : Result (Unit {0}) Rule} {r : Rule} (t : Result (Unit {0}) Refusal) →
    v ≡ verdict F → v ≡ Err r → Err (File r) ≡ checked_then (verdict F) t
checked_file F t checked is = ap (λ (w : Result (Unit {0}) Rule). checked_then w t) (sym is ∙ checked)

-- what `?` hands on
pub handed_on : {A E : Type 0} {x : Result A E} {r : E} → IsErrAnd x (λ e. e ≡ r) → x ≡ Err r
handed_on {x = Ok a} h = absurd h
handed_on {x = Err e} h = ap Err h

-- and one that is not is accepted
pub file_ok : (F : List ℕ) {v : Result (Unit {0}) Rule} → v ≡ verdict F → v ≡ Ok tt → verdict F ≡ Ok tt
file_ok F checked is = sym checked ∙ is

pub file_taken : (F : List ℕ) {v : Result (Unit {0}) Rule} → v ≡ verdict F → v ≡ Ok tt → Taken (project_of F)
file_taken F checked is = taken F (accepted F (file_ok F checked is))

-- so its counts are small
pub file_few : (F : List ℕ) {v : Result (Unit {0}) Rule} {k : Counts} → v ≡ verdict F → v ≡ Ok tt →
    k ≡ counts_in (project_of F) → Few k
file_few F checked is e = few e (file_taken F checked is)

-- where the whole is accepted, the file is, and t
pub checked_both : (v : Result (Unit {0}) Rule) {t : Result (Unit {0}) Refusal} → checked_then v t ≡ Ok tt →
    (v ≡ Ok tt) × (t ≡ Ok tt)
checked_both (Ok u) h = (refl, h)
checked_both (Err r) h = absurd (cc)

-- ---- a call

module _ (F R : List ℕ) (L : Lent) where
  -- of an accepted file, P is the project
  pub verdict_tested : verdict F ≡ Ok tt → (P : Project) → P ≡ project_of F →
      call_tested P R L ≡ call_verdict F R L
  unfolding call_verdict
  verdict_tested z P e = rw z (ap (λ (p : Project). call_tested p R L) e)

  -- the number of a call's answer
  pub call_number : number_in (call_verdict F R L) ≡ refusal F R L
  unfolding call_verdict refusal call_table
  call_number = checked_number F (call_tested P R L) (call_rows P R L) (tested_number P R L)
    where
      P : Project
      P = project_of F

  -- a call that is turned down
  pub call_refused : (r : Refusal) → call_verdict F R L ≡ Err r →
      cycle_of F R L ≡ record { answer = Err r; lent = L }
  unfolding cycle_of
  call_refused r e = rw e

  module _ (e : call_verdict F R L ≡ Ok tt) where
    pub call_done : cycle_of F R L ≡ leaves (Ok tt) (project_of F) R L
    unfolding cycle_of
    call_done = rw e

    -- the file is accepted, and every test was passed
    both : (verdict F ≡ Ok tt) × (call_tested (project_of F) R L ≡ Ok tt)
    unfolding call_verdict
    both = checked_both (verdict F) e

    pub call_taken : Taken (project_of F)
    call_taken = taken F (accepted F both.0)

    pub call_passed : Passed (project_of F) R L
    call_passed = passed_all (project_of F) R L both.1

  -- a call that ran the cycle over the bodies of P
  pub call_made : (P : Project) (S O D : List ℕ) (n : ℕ) → call_verdict F R L ≡ Ok tt → P ≡ project_of F →
      n ≡ finding_count P.groups P.blocks R L.state →
      S ≡ new_state P.groups P.blocks R L.state →
      O ≡ new_outputs P.groups P.blocks P.outputs R L.state →
      D ≡ new_findings P.groups P.blocks R L.state →
      cycle_of F R L ≡ record { answer = Ok n; lent = lends S O D }
  call_made P S O D n e p c s o d =
      call_done e ∙ sym (ap (λ (q : Project). leaves (Ok tt) q R L) p)
      ∙ sym (λ i. record { answer = Ok (c i); lent = lends (s i) (o i) (d i) })

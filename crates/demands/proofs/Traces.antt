-- A whole trace is the cycle call folded over the records of T from the fresh state, up to the first that is turned
-- down, so that what the demands say of a call holds of each cycle of a trace; its end has the first number that is not
-- 0 of the file's and the calls'; and renumbering changes no byte of what it prints. Assumes nothing.
use Rattle.wire.proofs.Usual.{◌≡◌, refl, sym, ap, ap₂, ◌∙◌, List, [], ◌∷◌, ◌++◌, ℕ, zero, suc, ◌+◌, ◌<◌}
use Rattle.wire.proofs.Usual.{◌*◌, ◌/◌, arith, length, replicate}
use Rattle.wire.specs.Records.{gather}
use Rattle.project.specs.Project.{Project, row_of, group_count, record_size}
use Rattle.project.specs.Alike.{Alike}
use Rattle.project.proofs.Alike.{blocks_same, kind_same, parameters_same}
use Rattle.std.specs.Prelude.{Result, Ok, Err}
use Rattle.casefile.specs.declared.table.Rule.{Rule}
use Rattle.casefile.specs.Bodies.{body_g, body_i, body_t, body_in, project_of, record_count, record_of}
use Rattle.casefile.specs.Refusal.{verdict, number_of, refusal_of}
use Rattle.casefile.proofs.Refusals.{refusal_some as file_some}
use Rattle.kind.specs.Kinds.{family_of}
use Rattle.block.specs.State.{fresh_bytes}
use Rattle.block.specs.declared.FindingRecord.{FindingRecord}
use Rattle.block.specs.Finding.{finding_size, finding_in}
use Rattle.evaluator.specs.declared.Refusal.{Refusal}
use Rattle.evaluator.specs.declared.Refusal.TheVariants.{File}
use Rattle.evaluator.specs.State.{state_head, outputs_length, findings_length}
use Rattle.evaluator.specs.Answer.{Lent, Left, lends, call_verdict, leaves, cycle_of, number_in}
use Rattle.evaluator.specs.Answer.{refusal_number}
use Rattle.evaluator.specs.Cycle.{finding_count}
use Rattle.evaluator.specs.Runs.{run}
use Rattle.evaluator.specs.Fresh.{fresh_for}
use Rattle.evaluator.proofs.Calls.{refusal_some, checked_file, call_refused}
use Rattle.report.specs.Lines.{finding_line, refused_line}
use Rattle.tracer.specs.declared.Ran.{Ran}
use Rattle.tracer.specs.Traced.{records_from, fresh_lent, calls, goes_on, ended, run_end, unless_refused, end_number}
use Rattle.tracer.specs.Traced.{end_of}
use Rattle.tracer.specs.Text.{shown_as, line_of, lines_of, last_line, texts_from, texts, joined, trace_text}
use Rattle.demands.specs.Demands.{Demand3, Printout, trace_over, first_number, numbers_of, Traces}
use Rattle.demands.proofs.Demand3.{demand3}

-- ---- the fold

module _ (F : List ℕ) where
  -- what is told of a call, and of the rest after it
  abbrev stops : Refusal → Printout
  stops r = record { end = Err r; text = [] }

  abbrev goes : List ℕ → Printout → Printout
  goes lines rest = record { end = rest.end; text = lines ++ rest.text }

  end_by : (a : Result ℕ Refusal) (lines : ℕ → List ℕ) (e : ℕ → Result Ran Refusal) (rest : ℕ → Printout) →
      ((k : ℕ) → e k ≡ (rest k).end) →
      goes_on a (λ r. Err r) e ≡ (goes_on a stops (λ k. goes (lines k) (rest k))).end
  end_by (Ok k) lines e rest h = h k
  end_by (Err r) lines e rest h = refl

  text_by : (a : Result ℕ Refusal) (lines : ℕ → List ℕ) (ts : List (List ℕ)) (rest : ℕ → Printout) →
      ((k : ℕ) → joined ts ≡ (rest k).text) →
      joined (goes_on a (λ _. []) (λ k. lines k ∷ ts)) ≡ (goes_on a stops (λ k. goes (lines k) (rest k))).text
  unfolding joined
  text_by (Ok k) lines ts rest h = ap (λ (t : List ℕ). lines k ++ t) (h k)
  text_by (Err r) lines ts rest h = refl

  over_end : (Rs : List (List ℕ)) (L : Lent) (c n : ℕ) → ended c n (run F Rs L) ≡ (trace_over F Rs L c n).end
  unfolding ended run trace_over
  over_end [] L c n = refl
  over_end (R ∷ Rs) L c n =
      let l = cycle_of F R L in
      end_by l.answer (λ k. lines_of (project_of F).blocks (c + 1) k l.lent.findings)
      (λ k. ended (c + 1) (n + k) (run F Rs l.lent)) (λ k. trace_over F Rs l.lent (c + 1) (n + k))
      (λ k. over_end Rs l.lent (c + 1) (n + k))

  over_text : (Rs : List (List ℕ)) (L : Lent) (c n : ℕ) →
      joined (texts_from (project_of F).blocks c (run F Rs L)) ≡ (trace_over F Rs L c n).text
  unfolding texts_from joined run trace_over
  over_text [] L c n = refl
  over_text (R ∷ Rs) L c n =
      let l = cycle_of F R L in
      text_by l.answer (λ k. lines_of (project_of F).blocks (c + 1) k l.lent.findings)
      (texts_from (project_of F).blocks (c + 1) (run F Rs l.lent))
      (λ k. trace_over F Rs l.lent (c + 1) (n + k)) (λ k. over_text Rs l.lent (c + 1) (n + k))

  abbrev whole : Printout
  whole = trace_over F (records_from F 0 (record_count F)) (fresh_lent F) 0 0

  folded : verdict F ≡ Ok tt → (end_of F ≡ whole.end) × (trace_text F ≡ whole.text ++ last_line whole.end)
  unfolding end_of run_end calls texts trace_text
  folded ok =
      let Rs = records_from F 0 (record_count F) in
      let e : end_of F ≡ whole.end =
      ap (λ (v : Result (Unit {0}) Rule). unless_refused v (run_end F)) ok ∙ over_end Rs (fresh_lent F) 0 0 in
      (e, ap₂ (λ (t : List ℕ) (x : Result Ran Refusal). t ++ last_line x) (over_text Rs (fresh_lent F) 0 0) e)

-- ---- a file that is turned down

module _ (F : List ℕ) (r : Rule) (e : verdict F ≡ Err r) where
  stopped : end_of F ≡ Err (File r)
  unfolding end_of
  stopped = ap (λ (v : Result (Unit {0}) Rule). unless_refused v (run_end F)) e

  -- its first call, where there is one, is turned down, so no cycle prints anything
  no_text : (m : ℕ) (L : Lent) → texts_from (project_of F).blocks 0 (run F (records_from F 0 m) L) ≡ []
  unfolding texts_from run records_from call_verdict
  no_text zero L = refl
  no_text (suc m) L =
      let R = record_of F 0 in
      ap (λ (l : Left). texts_from (project_of F).blocks 0 (l ∷ run F (records_from F 1 m) (cycle_of F R L).lent))
      (call_refused F R L (File r) (sym (checked_file F _ refl e)))

  refused_by : (end_number (end_of F) ≡ refusal_of r) × (trace_text F ≡ refused_line (refusal_of r))
  unfolding trace_text texts calls joined
  refused_by = (
    ap end_number stopped,
    ap₂ (λ (ts : List (List ℕ)) (x : Result Ran Refusal). joined ts ++ last_line x)
        (no_text (record_count F) (fresh_lent F)) stopped,
  )

refused : (F : List ℕ) (n : ℕ) → number_of (verdict F) ≡ suc n →
    (end_number (end_of F) ≡ suc n) × (trace_text F ≡ refused_line (suc n))
refused F n h = go (verdict F) refl
  where
    go : (v : Result (Unit {0}) Rule) → verdict F ≡ v →
        (end_number (end_of F) ≡ suc n) × (trace_text F ≡ refused_line (suc n))
    go (Ok u) e =
        let none : 0 ≡ suc n = sym (ap number_of e) ∙ h in
        absurd (omega (arith, none))
    go (Err r) e =
        let number : refusal_of r ≡ suc n = sym (ap number_of e) ∙ h in
        let by = refused_by F r e in
        (by.0 ∙ number, by.1 ∙ ap refused_line number)

-- ---- the number of the end

-- a number that is not 0 is the first
number_first : (m : ℕ) (ns : List ℕ) → 0 < m → m ≡ first_number (m ∷ ns)
unfolding first_number
number_first zero ns l = absurd (omega (arith, l))
number_first (suc m) ns l = refl

-- so is that of a call that is turned down
end_number_is : (v : Result (Unit {0}) Refusal) (P : Project) (R : List ℕ) (L : Lent) (e : ℕ → Result Ran Refusal)
    (ns : List ℕ) → ((k : ℕ) → end_number (e k) ≡ first_number ns) →
    end_number (goes_on (leaves v P R L).answer (λ r. Err r) e)
    ≡ first_number (number_in (leaves v P R L).answer ∷ ns)
unfolding first_number
end_number_is (Ok u) P R L e ns h = h (finding_count P.groups P.blocks R L.state)
end_number_is (Err r) P R L e ns h = number_first (refusal_number r) ns (refusal_some r)

run_number : (F : List ℕ) (Rs : List (List ℕ)) (L : Lent) (c n : ℕ) →
    end_number (ended c n (run F Rs L)) ≡ first_number (numbers_of (run F Rs L))
unfolding ended run first_number cycle_of
run_number F [] L c n = refl
run_number F (R ∷ Rs) L c n =
    let later = run F Rs (cycle_of F R L).lent in
    end_number_is (call_verdict F R L) (project_of F) R L (λ k. ended (c + 1) (n + k) later) (numbers_of later)
    (λ k. run_number F Rs (cycle_of F R L).lent (c + 1) (n + k))

unless_number : (v : Result (Unit {0}) Rule) (e : Result Ran Refusal) (ns : List ℕ) → end_number e ≡ first_number ns →
    end_number (unless_refused v e) ≡ first_number (number_of v ∷ ns)
unfolding first_number
unless_number (Ok u) e ns h = h
unless_number (Err r) e ns h = number_first (refusal_of r) ns (file_some r)

number : (F : List ℕ) → end_number (end_of F) ≡ first_number (number_of (verdict F) ∷ numbers_of (calls F))
unfolding end_of run_end calls
number F =
    unless_number (verdict F) (run_end F) (numbers_of (calls F))
    (run_number F (records_from F 0 (record_count F)) (fresh_lent F) 0 0)

-- ---- two files that are alike

-- the lines of a cycle ask of a block what is alike
module _ {P P' : Project} (alike : Alike P P') where
  line_same : (c : ℕ) (f : FindingRecord) → line_of P.blocks c f ≡ line_of P'.blocks c f
  unfolding line_of
  line_same c f =
      let b = f.block in
      let k = kind_same alike b in
      let p = parameters_same alike b in
      λ i. finding_line c b f.text f.diagnosis (shown_as (family_of (k i)) (k i) (p i) 0) f.first
      (shown_as (family_of (k i)) (k i) (p i) 1) f.second

  lines_same : (c k : ℕ) (D : List ℕ) → lines_of P.blocks c k D ≡ lines_of P'.blocks c k D
  unfolding lines_of
  lines_same c zero D = refl
  lines_same c (suc k) D =
      ap₂ (λ (x y : List ℕ). x ++ y) (lines_same c k D) (line_same c (finding_in (row_of finding_size k D)))

  texts_by : (a : Result ℕ Refusal) (x y : ℕ → List ℕ) (xs ys : List (List ℕ)) →
      ((k : ℕ) → x k ≡ y k) → xs ≡ ys →
      goes_on a (λ _. []) (λ k. x k ∷ xs) ≡ goes_on a (λ _. []) (λ k. y k ∷ ys)
  texts_by (Ok k) x y xs ys h e = ap₂ (λ (t : List ℕ) (ts : List (List ℕ)). t ∷ ts) (h k) e
  texts_by (Err r) x y xs ys h e = refl

  texts_same : (c : ℕ) (ls : List Left) → texts_from P.blocks c ls ≡ texts_from P'.blocks c ls
  unfolding texts_from
  texts_same c [] = refl
  texts_same c (l ∷ ls) =
      texts_by l.answer (λ k. lines_of P.blocks (c + 1) k l.lent.findings)
      (λ k. lines_of P'.blocks (c + 1) k l.lent.findings) (texts_from P.blocks (c + 1) ls)
      (texts_from P'.blocks (c + 1) ls) (λ k. lines_same (c + 1) k l.lent.findings) (texts_same (c + 1) ls)

module _ (F F' : List ℕ) (ok : verdict F ≡ Ok tt) (ok' : verdict F' ≡ Ok tt)
    (alike : Alike (project_of F) (project_of F')) (same : body_in F body_t ≡ body_in F' body_t) where
  size_same : record_size (body_in F body_g) (body_in F body_i) ≡ record_size (body_in F' body_g) (body_in F' body_i)
  unfolding project_of
  size_same = ap₂ record_size alike.groups alike.inputs

  record_same : (k : ℕ) → record_of F k ≡ record_of F' k
  unfolding record_of
  record_same k = ap₂ (λ (w : ℕ) (T : List ℕ). row_of w k T) size_same same

  count_same : record_count F ≡ record_count F'
  unfolding record_count
  count_same = ap₂ (λ (T : List ℕ) (w : ℕ). length T / w) same size_same

  records_same : (k m : ℕ) → records_from F k m ≡ records_from F' k m
  unfolding records_from
  records_same k zero = refl
  records_same k (suc m) =
      ap₂ (λ (r : List ℕ) (rs : List (List ℕ)). r ∷ rs) (record_same k) (records_same (k + 1) m)

  fresh_same : fresh_lent F ≡ fresh_lent F'
  unfolding fresh_lent fresh_for findings_length
  fresh_same =
      let n = blocks_same alike in
      λ i. lends
      (replicate (state_head (group_count (alike.groups i))) 0 ++ gather (n i) (λ b. fresh_bytes))
      (replicate (outputs_length (alike.outputs i)) 0) (replicate (finding_size * n i) 0)

  calls_same : calls F ≡ calls F'
  unfolding calls Demand3
  calls_same =
      demand3 F F' ok ok' alike (records_from F 0 (record_count F)) (fresh_lent F)
      ∙ (λ i. run F' ((records_same 0 (record_count F) ∙ ap (records_from F' 0) count_same) i) (fresh_same i))

  renumbered : (end_of F ≡ end_of F') × (trace_text F ≡ trace_text F')
  unfolding end_of run_end trace_text texts
  renumbered =
      let e : end_of F ≡ end_of F' =
      ap₂ (λ (v : Result (Unit {0}) Rule) (ls : List Left). unless_refused v (ended 0 0 ls)) (ok ∙ sym ok')
      calls_same in (
        e,
        ap₂ (λ (ts : List (List ℕ)) (x : Result Ran Refusal). joined ts ++ last_line x)
            (texts_same alike 0 (calls F) ∙ ap (texts_from (project_of F').blocks 0) calls_same) e,
      )

pub traces : Traces
traces = record {
  refused = refused;
  folded = folded;
  number = number;
  renumbered = renumbered;
}

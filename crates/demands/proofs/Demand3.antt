-- Demand 3: two accepted files whose projects are alike give the same runs. All that a cycle reads of a block but its
-- execution number is the same in both, and the execution numbers matter along links alone (`agree`). Assumes nothing.
use Rattle.wire.proofs.Usual.{◌≡◌, refl, sym, ap, ap₂, ◌∙◌, subst, Bool, not, ◌&&◌, List, [], ◌∷◌, ◌++◌, ℕ}
use Rattle.wire.proofs.Usual.{◌*◌, ◌<◌, eqb}
use mathlib.Core.Path.{fun_ext}
use Rattle.wire.specs.Words.{bytes4}
use Rattle.wire.specs.Records.{gather}
use Rattle.wire.specs.Places.{all}
use Rattle.wire.proofs.Places.{all_same}
use Rattle.wire.proofs.Records.{gather_same}
use Rattle.project.specs.Project.{Project, group_count, block_count, group_of, order_of, link_of, output_count}
use Rattle.project.specs.Project.{output_block}
use Rattle.project.specs.Project.{output_port, device}
use Rattle.casefile.specs.Sound.{Sound, Shown}
use Rattle.project.specs.Alike.{Alike}
use Rattle.project.proofs.Alike.{blocks_same, kind_same, group_same, parameters_same, link_same}
use Rattle.std.specs.Prelude.{cond, Result, Ok, Err}
use Rattle.casefile.specs.Bodies.{project_of}
use Rattle.casefile.specs.Refusal.{verdict}
use Rattle.block.specs.Formed.{well_formed}
use Rattle.block.specs.State.{is_error, enters_from}
use Rattle.block.specs.Shows.{shows}
use Rattle.block.specs.Finding.{finding_size}
use Rattle.evaluator.specs.declared.Refusal.{Refusal}
use Rattle.evaluator.specs.declared.Refusal.TheVariants.{Sizes, State, Record}
use Rattle.evaluator.specs.Net.{reads, seen}
use Rattle.evaluator.specs.State.{cell, state_length, findings_length, head_formed, cell_formed, state_formed}
use Rattle.evaluator.specs.Groups.{erred_in, has_error, group_from, new_group, phase_of, phase}
use Rattle.wire.specs.Packed.{hits, packed}
use Rattle.evaluator.specs.Cycle.{wires, turned_from, net, ran, new_block, words_read, new_head, new_state, output_word}
use Rattle.evaluator.specs.Cycle.{new_outputs, enters, finding_for, finding, finding_count, new_findings}
use Rattle.evaluator.specs.Answer.{Lent, Left, sizes_ok, record_ok, call_tested, call_verdict, leaves}
use Rattle.evaluator.specs.Answer.{cycle_of}
use Rattle.evaluator.specs.Runs.{run}
use Rattle.casefile.proofs.Accepted.{accepted}
use Rattle.evaluator.proofs.Agree.{Same, agree, reads_same, ltb_iff}
use Rattle.wire.proofs.Packing.{packed_same, hits_same}
use Rattle.evaluator.proofs.Checking.{Taken, taken}
use Rattle.evaluator.proofs.Calls.{verdict_tested}
use Rattle.demands.specs.Demands.{Demand3}

-- ---- blocks that are alike, beside the same groups, inputs and outputs

module _ (G I O : List ℕ) (P P' : Project) (alike : Alike P P') {n : ℕ}
    (g : Sound G P.blocks n) (g' : Sound G P'.blocks n) (w : Shown P.blocks O) where
  abbrev h : ℕ
  h = group_count G

  abbrev B : List ℕ
  B = P.blocks

  abbrev B' : List ℕ
  B' = P'.blocks

  count : block_count B ≡ block_count B'
  count = blocks_same alike

  -- ---- the tests of a call

  sizes_same : (L : Lent) → sizes_ok (record { groups = G; inputs = I; blocks = B; outputs = O }) L
      ≡ sizes_ok (record { groups = G; inputs = I; blocks = B'; outputs = O }) L
  unfolding sizes_ok state_length findings_length
  sizes_same L = rw count

  cell_formed_same : (S : List ℕ) (b : ℕ) → cell_formed h B S b ≡ cell_formed h B' S b
  unfolding cell_formed
  cell_formed_same S b = λ i. well_formed (kind_same alike b i) (parameters_same alike b i) (cell h S b)

  formed_same : (S : List ℕ) → state_formed G B S ≡ state_formed G B' S
  unfolding state_formed
  formed_same S =
      ap (λ (t : Bool). all (head_formed S) h && t)
      (all_same (cell_formed h B S) (cell_formed h B' S) (block_count B) (λ b _. cell_formed_same S b)
      ∙ ap (all (cell_formed h B' S)) count)

  -- ---- one cycle

  module _ (R S : List ℕ) where
    erred_same : (k : ℕ) → has_error h B S k ≡ has_error h B' S k
    unfolding has_error erred_in
    erred_same k =
        ap not
        (all_same (λ b. not (erred_in h B S k b)) (λ b. not (erred_in h B' S k b)) (block_count B)
        (λ b l i. not (eqb (group_same alike b i) k && is_error (cell h S b)))
        ∙ ap (all (λ b. not (erred_in h B' S k b))) count)

    new_group_same : (k : ℕ) → new_group G B R S k ≡ new_group G B' R S k
    unfolding new_group
    new_group_same k = ap (λ (t : Bool). group_from (device G) t R S k) (erred_same k)

    phase_same : (k : ℕ) → phase G B R S k ≡ phase G B' R S k
    unfolding phase
    phase_same k = ap (λ (x : ℕ). phase_of G R x k) (new_group_same k)

    turned_same : (ph b : ℕ) (s : List ℕ) (f : ℕ → ℕ) →
        turned_from B R ph b s f ≡ turned_from B' R ph b s f
    unfolding turned_from
    turned_same ph b s f = rw (kind_same alike b, group_same alike b, parameters_same alike b)

    step_same : (b : ℕ) (s : List ℕ) (f : ℕ → ℕ) →
        turned_from B R (phase G B R S (group_of B b)) b s f
        ≡ turned_from B' R (phase G B' R S (group_of B' b)) b s f
    step_same b s f =
        turned_same (phase G B R S (group_of B b)) b s f
        ∙ ap (λ (ph : ℕ). turned_from B' R ph b s f)
        (phase_same (group_of B b) ∙ ap (phase G B' R S) (group_same alike b))

    nets : Same (λ b. b < block_count B) (net h B R (phase G B R S)) (net h B' R (phase G B' R S)) (order_of B)
        (order_of B')
        (cell h S) (cell h S)
    unfolding net wires
    nets = record {
      olds = λ b _. refl;
      links = λ b p _. link_same alike b p;
      givens = λ b p i _ _. refl;
      shown = λ a q s _ i. shows (kind_same alike a i) (parameters_same alike a i) q s;
      steps = λ b s f _. step_same b s f;
      closed = λ b p a q l e. g.output b p a q l e;
      before =
          λ b p a q l e. ltb_iff (order_of B a) (order_of B b) (order_of B' a) (order_of B' b)
          (alike.along b p a q l e);
    }

    block_same : (b : ℕ) → b < block_count B → new_block G B R S b ≡ new_block G B' R S b
    unfolding new_block ran
    block_same b l =
        agree (λ b. b < block_count B) (net h B R (phase G B R S)) (net h B' R (phase G B' R S))
        (order_of B) (order_of B')
        (cell h S) (cell h S) nets (block_count B) (block_count B') b l (g.order_below b l)
        (g'.order_below b (rw count at l))

    words_same : (b : ℕ) → b < block_count B → words_read G B R S b ≡ words_read G B' R S b
    unfolding words_read net wires
    words_same b l =
        fun_ext (λ p.
        reads_same (λ b. b < block_count B) (net h B R (phase G B R S)) (net h B' R (phase G B' R S)) (order_of B)
        (order_of B') (cell h S) (cell h S) nets b p l (new_block G B R S) (new_block G B' R S)
        (λ a k _ _. block_same a k)
        (link_of B b p) refl
        ∙ ap (reads (wires h B' R) (seen (order_of B') (cell h S) (new_block G B' R S) b)) (link_same alike b p))

    head_same : new_head G B R S ≡ new_head G B' R S
    unfolding new_head
    head_same =
        gather_same h (λ k. new_group G B R S k ∷ []) (λ k. new_group G B' R S k ∷ [])
        (λ k _ i. new_group_same k i ∷ [])

    state_same : new_state G B R S ≡ new_state G B' R S
    unfolding new_state
    state_same =
        ap₂ (λ (x y : List ℕ). x ++ y) head_same
        (gather_same (block_count B) (new_block G B R S) (new_block G B' R S) block_same
        ∙ ap (λ (n : ℕ). gather n (new_block G B' R S)) count)

    output_same : (o : ℕ) → o < output_count O → output_word G B O R S o ≡ output_word G B' O R S o
    unfolding output_word
    output_same o l =
        let a = output_block O o in
        λ i. shows (kind_same alike a i) (parameters_same alike a i) (output_port O o) (block_same a (w.block o l) i)

    outputs_same : new_outputs G B O R S ≡ new_outputs G B' O R S
    unfolding new_outputs
    outputs_same =
        gather_same (output_count O) (λ o. bytes4 (output_word G B O R S o)) (λ o. bytes4 (output_word G B' O R S o))
        (λ o l. ap bytes4 (output_same o l))

    enters_same : (b : ℕ) → b < block_count B → enters G B R S b ≡ enters G B' R S b
    unfolding enters
    enters_same b l = ap (enters_from (cell h S b)) (block_same b l)

    finding_same : (b : ℕ) → b < block_count B → finding G B R S b ≡ finding G B' R S b
    unfolding finding finding_for
    finding_same b l = ap₂ (finding_for B b) (words_same b l) (block_same b l) ∙ by_record
      where
        by_record : finding_for B b (words_read G B' R S b) (new_block G B' R S b)
            ≡ finding_for B' b (words_read G B' R S b) (new_block G B' R S b)
        by_record = rw (kind_same alike b, group_same alike b, parameters_same alike b)

    count_same : finding_count G B R S ≡ finding_count G B' R S
    unfolding finding_count
    count_same =
        hits_same (block_count B) (enters G B R S) (enters G B' R S) enters_same
        ∙ ap (λ (n : ℕ). hits n (enters G B' R S)) count

    findings_same : new_findings G B R S ≡ new_findings G B' R S
    unfolding new_findings
    findings_same =
        packed_same (finding_size * block_count B) (block_count B) (enters G B R S) (enters G B' R S) (finding G B R S)
        (finding G B' R S) enters_same (λ b l _. finding_same b l)
        ∙ ap (λ (n : ℕ). packed (finding_size * n) n (enters G B' R S) (finding G B' R S)) count

  -- ---- a call

  tested_same : (R : List ℕ) (L : Lent) →
      call_tested (record { groups = G; inputs = I; blocks = B; outputs = O }) R L
      ≡ call_tested (record { groups = G; inputs = I; blocks = B'; outputs = O }) R L
  tested_same R L = λ i.
      cond (sizes_same L i)
      (cond (formed_same L.state i) (cond (record_ok G I R) (Ok tt) (Err Record)) (Err State))
      (Err Sizes)

  leaves_same : (R : List ℕ) (L : Lent) (v : Result (Unit {0}) Refusal) →
      leaves v (record { groups = G; inputs = I; blocks = B; outputs = O }) R L
      ≡ leaves v (record { groups = G; inputs = I; blocks = B'; outputs = O }) R L
  leaves_same R L (Ok u) = λ i. record {
    answer = Ok (count_same R L.state i);
    lent = record {
      state = state_same R L.state i;
      outputs = outputs_same R L.state i;
      findings = findings_same R L.state i;
    };
  }
  leaves_same R L (Err r) = refl

-- ---- two files

-- the project with other blocks
abbrev with_blocks : Project → List ℕ → Project
with_blocks P B = record { groups = P.groups; inputs = P.inputs; blocks = B; outputs = P.outputs }

module _ (F F' : List ℕ) (ok : verdict F ≡ Ok tt) (ok' : verdict F' ≡ Ok tt)
    (alike : Alike (project_of F) (project_of F')) where
  abbrev P : Project
  P = project_of F

  abbrev P' : Project
  P' = project_of F'

  t : Taken P
  t = taken F (accepted F ok)

  -- the other project is this one with its own blocks
  other : with_blocks P P'.blocks ≡ P'
  other = λ i. record {
    groups = alike.groups i;
    inputs = alike.inputs i;
    blocks = P'.blocks;
    outputs = alike.outputs i;
  }

  t' : Taken (with_blocks P P'.blocks)
  t' = subst Taken (sym other) (taken F' (accepted F' ok'))

  verdict_same : (R : List ℕ) (L : Lent) → call_verdict F R L ≡ call_verdict F' R L
  verdict_same R L =
      sym (verdict_tested F R L ok P refl)
      ∙ tested_same P.groups P.inputs P.outputs P P' alike t.sound t'.sound t.shown R L
      ∙ verdict_tested F' R L ok' (with_blocks P P'.blocks) other

  cycle_same : (R : List ℕ) (L : Lent) → cycle_of F R L ≡ cycle_of F' R L
  unfolding cycle_of
  cycle_same R L =
      leaves_same P.groups P.inputs P.outputs P P' alike t.sound t'.sound t.shown R L
      (call_verdict F R L)
      ∙ ap₂ (λ (v : Result (Unit {0}) Refusal) (p : Project). leaves v p R L) (verdict_same R L) other

  run_same : (Rs : List (List ℕ)) (L : Lent) → run F Rs L ≡ run F' Rs L
  unfolding run
  run_same [] L = refl
  run_same (R ∷ Rs) L =
      ap₂ (λ (x : Left) (xs : List Left). x ∷ xs) (cycle_same R L)
      (run_same Rs (cycle_of F R L).lent ∙ ap (λ (x : Left). run F' Rs x.lent) (cycle_same R L))

pub demand3 : Demand3
unfolding Demand3
demand3 F F' ok ok' alike = run_same F F' ok ok' alike

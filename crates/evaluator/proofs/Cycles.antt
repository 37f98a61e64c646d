-- One cycle of an accepted project as the code runs it, and as the definitions say it: the groups decide first, then
-- the blocks run in a state whose group bytes are new already, in the phases that a list has. Assumes nothing.
use Rattle.wire.proofs.Usual.{◌≡◌, refl, sym, ap, ap₂, ◌∙◌, Bool, true, false, cond, List, ◌++◌, ℕ, zero}
use Rattle.wire.proofs.Usual.{suc}
use Rattle.wire.proofs.Usual.{◌*◌, ◌<◌, zero-add, arith, ltb, length, take, drop, replicate}
use native.Mathlib.Nat.{add_comm, mul-zero, mul-suc}
use lib.ListN.{replicate-append-replicate}
use lib.Seq.{take_at, drop_at}
use Rattle.wire.specs.Words.{byte_at}
use Rattle.wire.specs.Records.{gather}
use Rattle.wire.specs.Places.{all}
use Rattle.wire.proofs.Places.{all_each, both_right}
use Rattle.wire.proofs.Records.{slot_past, gather_at, gather_same, length-gather}
use Rattle.project.specs.Project.{device, group_count, block_count, kind_of, group_of, order_of, parameters_of, row_of}
use Rattle.casefile.specs.Sound.{Sound}
use Rattle.block.specs.State.{state_size, enters_from, is_error}
use Rattle.block.specs.Formed.{well_formed}
use Rattle.block.specs.Finding.{finding_size, is_finding}
use Rattle.block.proofs.Enters.{entered_error}
use Rattle.block.proofs.Kept.{step_keeps, step_found}
use Rattle.evaluator.specs.Net.{words, seen}
use Rattle.evaluator.specs.State.{state_head, cell, state_length, head_formed, cell_formed, state_formed}
use Rattle.evaluator.specs.Groups.{group_from, phase_of, new_group, phase}
use Rattle.wire.specs.Packed.{hits, packed}
use Rattle.evaluator.specs.Cycle.{wires, net, turned_from, ran, new_block, words_read, new_head, new_state, enters}
use Rattle.evaluator.specs.Cycle.{finding_for, finding, finding_count, new_findings}
use Rattle.evaluator.specs.Asks.{error_list, says_error, group_with, Decided, ran_with, enters_with, found_with}
use Rattle.evaluator.specs.Asks.{slot_with, note_in, is_noted, Noted}
use Rattle.evaluator.proofs.Agree.{agree, fixed}
use Rattle.evaluator.proofs.Stage.{words_local}
use Rattle.evaluator.proofs.Deciding.{row-length, error_at}
use Rattle.wire.proofs.Packing.{packed_same, hits_same, packed_none, hits_none}
use Rattle.evaluator.proofs.Running.{slot-length, turned-length, empty}

-- records of zeros are zeros
zeros_gathered : (w n : ℕ) → gather n (λ b. replicate w 0) ≡ replicate (w * n) 0
unfolding gather
zeros_gathered w zero = ap (λ (k : ℕ). replicate k 0) (sym (mul-zero w))
zeros_gathered w (suc n) =
    ap (λ (t : List ℕ). replicate w 0 ++ t) (zeros_gathered w n) ∙ replicate-append-replicate w (w * n) 0
    ∙ ap (λ (k : ℕ). replicate k 0) (add_comm w (w * n) ∙ sym (mul-suc w n))

-- ---- the state after a cycle

module _ {n : ℕ} (G B R S : List ℕ) (g : Sound G B n) where
  -- each block's step
  pub new_stepped : (b : ℕ) → b < block_count B →
      new_block G B R S b ≡ turned_from B R (phase G B R S (group_of B b)) b (cell (group_count G) S b)
      (words_read G B R S b)
  unfolding new_block ran net words_read
  new_stepped b l =
      fixed (net (group_count G) B R (phase G B R S)) (order_of B) (cell (group_count G) S) (block_count B) b
      (g.order_below b l)

  -- a block's bytes after a cycle are as many as before
  pub block_length : (b : ℕ) → b < block_count B → length (new_block G B R S b) ≡ state_size
  block_length b l = ap length (new_stepped b l) ∙ turned-length B R (phase G B R S (group_of B b)) b _ _

  -- a block that was well formed is so after the cycle
  was_formed : state_formed G B S ≡ true → (b : ℕ) → b < block_count B →
      well_formed (kind_of B b) (parameters_of B b) (cell (group_count G) S b) ≡ true
  unfolding state_formed cell_formed
  was_formed formed =
      all_each (cell_formed (group_count G) B S) (block_count B)
      (both_right (all (head_formed S) (group_count G)) (all (cell_formed (group_count G) B S) (block_count B)) formed)

  pub block_formed : state_formed G B S ≡ true → (b : ℕ) → b < block_count B →
      well_formed (kind_of B b) (parameters_of B b) (new_block G B R S b) ≡ true
  unfolding turned_from
  block_formed formed b l =
      ap (well_formed (kind_of B b) (parameters_of B b)) (new_stepped b l)
      ∙ step_keeps (kind_of B b) (parameters_of B b) _ _ _ _ _ _ (was_formed formed b l)

  -- the state's head
  pub head_long : length (new_head G B R S) ≡ state_head (group_count G)
  unfolding new_head
  head_long = row-length (group_count G) (new_group G B R S) ∙ sym (zero-add (group_count G))

-- the state whose group bytes are new
abbrev pub decided_state : List ℕ → List ℕ → List ℕ → List ℕ → List ℕ
decided_state G B R S = new_head G B R S ++ drop (state_head (group_count G)) S

module _ {n : ℕ} (G B E R S H : List ℕ) (g : Sound G B n) (marks : E ≡ error_list (group_count G) B S)
    (long : length S ≡ state_length G B) (formed : state_formed G B S ≡ true)
    (d : Decided E G R S (group_count G) H) where
  abbrev h : ℕ
  h = group_count G

  abbrev S' : List ℕ
  S' = decided_state G B R S

  -- each group comes to the byte and the phase that the definitions say
  pub group_is : (k : ℕ) → k < h → group_with E G R S k ≡ new_group G B R S k
  unfolding new_group
  group_is k q =
      ap (λ (t : Bool). group_from (device G) t R S k)
      (ap (λ (t : List ℕ). says_error t k) marks ∙ error_at h B S k (omega (arith, g.few_groups)))

  phase_is : (k : ℕ) → k < h → byte_at H k ≡ phase G B R S k
  unfolding phase
  phase_is k q = d.each k q ∙ ap (λ (v : ℕ). phase_of G R v k) (group_is k q)

  -- the blocks run from their old bytes
  cells_same : (b : ℕ) → cell h S' b ≡ cell h S b
  unfolding cell
  cells_same b =
      slot_past (state_head h) state_size b S'
      ∙ ap (λ (t : List ℕ). take state_size (drop (state_size * b) t))
      (drop_at (new_head G B R S) (drop (state_head h) S) (state_head h) (head_long G B R S g))
      ∙ sym (slot_past (state_head h) state_size b S)

  -- each block comes to the state that the definitions say
  pub ran_new : (b : ℕ) → b < block_count B → ran_with h B R H S' b ≡ new_block G B R S b
  unfolding ran_with ran new_block net wires
  ran_new b l =
      agree (λ b. b < block_count B) (net h B R (byte_at H)) (net h B R (phase G B R S)) (order_of B) (order_of B)
      (cell h S')
      (cell h S) (record {
        olds = λ b _. cells_same b;
        links = λ b p _. refl;
        givens = λ b p i _ _. refl;
        shown = λ a q s _. refl;
        steps = λ b s f l. ap (λ (ph : ℕ). turned_from B R ph b s f) (phase_is (group_of B b) (g.group b l));
        closed = g.output;
        before = λ b p a q _ _. refl;
      }) (block_count B) (block_count B) b l (g.order_below b l) (g.order_below b l)

  -- and reads what they say
  words_new : (b : ℕ) → b < block_count B →
      words (wires h B R) (seen (order_of B) (cell h S') (ran_with h B R H S') b) b ≡ words_read G B R S b
  unfolding words_read wires
  words_new b l =
      words_local (wires h B R) (seen (order_of B) (cell h S') (ran_with h B R H S') b)
      (seen (order_of B) (cell h S) (new_block G B R S) b) b
      (λ p a q e i. cond (ltb (order_of B a) (order_of B b)) (ran_new a (g.output b p a q l e) i) (cells_same a i))

  pub enters_new : (b : ℕ) → b < block_count B → enters_with h B R H S' b ≡ enters G B R S b
  unfolding enters_with enters
  enters_new b l = ap₂ enters_from (cells_same b) (ran_new b l)

  found_new : (b : ℕ) → b < block_count B → found_with h B R H S' b ≡ finding G B R S b
  unfolding found_with finding
  found_new b l = ap₂ (finding_for B b) (words_new b l) (ran_new b l)

  -- the whole state
  pub state_new : take (state_head h) S' ++ gather (block_count B) (ran_with h B R H S') ≡ new_state G B R S
  unfolding new_state
  state_new =
      ap₂ (λ (x y : List ℕ). x ++ y)
      (take_at (new_head G B R S) (drop (state_head h) S) (state_head h) (head_long G B R S g))
      (gather_same (block_count B) (ran_with h B R H S') (new_block G B R S) ran_new)

  -- ---- the findings

  -- the records of all blocks
  abbrev notes : List ℕ
  notes = gather (block_count B) (slot_with h B R H S')

  -- what the finding of a block that enters 4 says is a finding
  finding_told : (b : ℕ) → b < block_count B → enters G B R S b ≡ true → is_finding (finding G B R S b) ≡ true
  unfolding finding finding_for enters turned_from
  finding_told b l e =
      let step = new_stepped G B R S g b l in
      let entered = entered_error (cell h S b) (new_block G B R S b) e in
      ap (λ (s : List ℕ). is_finding (finding_for B b (words_read G B R S b) s)) step
      ∙ step_found b (group_of B b) (kind_of B b) (parameters_of B b) _ _ _ _ _ _ _ (cell h S b)
      (was_formed G B R S g formed b l) (sym (ap is_error step) ∙ entered)

  note_is : (b : ℕ) → b < block_count B → note_in notes b ≡ slot_with h B R H S' b
  unfolding row_of
  note_is b l = gather_at finding_size (block_count B) (slot_with h B R H S') (λ k _. slot-length h B R H S' k) b l

  slot_cases : (b : ℕ) → b < block_count B → (t : Bool) → enters G B R S b ≡ t →
      is_finding (slot_with h B R H S' b) ≡ t
  unfolding slot_with
  slot_cases b l true e = rw (enters_new b l ∙ e) (ap is_finding (found_new b l) ∙ finding_told b l e)
  slot_cases b l false e = rw (enters_new b l ∙ e)

  noted-enters : (b : ℕ) → b < block_count B → is_noted notes b ≡ enters G B R S b
  unfolding is_noted
  noted-enters b l = ap is_finding (note_is b l) ∙ slot_cases b l (enters G B R S b) refl

  slot_found : (b : ℕ) → b < block_count B → enters G B R S b ≡ true →
      slot_with h B R H S' b ≡ finding G B R S b
  unfolding slot_with
  slot_found b l e = rw (enters_new b l ∙ e) (found_new b l)

  slot_empty : (b : ℕ) → b < block_count B → enters G B R S b ≡ false →
      slot_with h B R H S' b ≡ replicate finding_size 0
  unfolding slot_with
  slot_empty b l e = rw (enters_new b l ∙ e)

  -- the records of all blocks can be packed
  pub all_noted : Noted notes (block_count B)
  all_noted = record {
    long = length-gather finding_size (block_count B) (slot_with h B R H S') (λ k _. slot-length h B R H S' k);
    few = g.few_blocks;
    empty = λ b l e. note_is b l ∙ slot_empty b l (sym (noted-enters b l) ∙ e);
  }

  -- and then are the findings
  pub findings_new : packed (finding_size * block_count B) (block_count B) (is_noted notes) (note_in notes)
      ≡ new_findings G B R S
  unfolding new_findings
  findings_new =
      packed_same (finding_size * block_count B) (block_count B) _ _ _ _ noted-enters
      (λ b l e. note_is b l ∙ slot_found b l e)

  pub count_new : hits (block_count B) (is_noted notes) ≡ finding_count G B R S
  unfolding finding_count
  count_new = hits_same (block_count B) _ _ noted-enters

  -- where no block enters 4 there are none
  module _ (none : (b : ℕ) → b < block_count B → enters_with h B R H S' b ≡ false) where
    quiet : (b : ℕ) → b < block_count B → enters G B R S b ≡ false
    quiet b l = sym (enters_new b l) ∙ none b l

    pub findings_none : notes ≡ new_findings G B R S
    unfolding new_findings
    findings_none =
        gather_same (block_count B) (slot_with h B R H S') empty (λ b l. slot_empty b l (quiet b l))
        ∙ zeros_gathered finding_size (block_count B)
        ∙ sym (packed_none (finding_size * block_count B) (block_count B) (enters G B R S) (finding G B R S) quiet)

    pub count_none : 0 ≡ finding_count G B R S
    unfolding finding_count
    count_none = sym (hits_none (block_count B) (enters G B R S) quiet)

-- What the loop over the execution numbers keeps, and what it comes to: the state and the findings by block number
-- stand at one stage. Assumes nothing.
use Rattle.wire.proofs.Usual.{◌≡◌, refl, sym, ap, ap₂, ◌∙◌, subst, Bool, true, false, cond, ◌≢◌, List, ◌++◌}
use Rattle.wire.proofs.Usual.{ℕ, ◌+◌, ◌*◌, ◌≤◌, ◌<◌, zero-add, ℕ_discrete, arith, length, take, replicate}
use Rattle.wire.proofs.Usual.{length-replicate, sets}
use Rattle.std.specs.Prelude.{Some}
use lib.ListN.{get_or-replicate}
use lib.Seq.{ext_get_or}
use Rattle.wire.specs.Words.{byte_at}
use Rattle.wire.specs.Records.{slot, gather}
use Rattle.wire.proofs.Records.{apart, slot_get_or, length-slot, head_put}
use Rattle.project.specs.declared.Source.TheVariants.{Output}
use Rattle.project.specs.Project.{order_of, block_count, group_of, kind_of, parameters_of}
use Rattle.block.specs.State.{enters_from, state_size}
use Rattle.block.specs.Finding.{finding_size}
use Rattle.block.proofs.Bytes.{finding-length}
use Rattle.block.proofs.Steps.{step_length}
use Rattle.evaluator.specs.Net.{words, seen, after}
use Rattle.evaluator.specs.State.{cell, state_head}
use Rattle.evaluator.specs.Cycle.{wires, net, turned_from, ran, finding_for, first_of, second_of}
use Rattle.evaluator.specs.Asks.{Running, phase_at, turned, entering, noted, ran_with, enters_with, found_with}
use Rattle.evaluator.specs.Asks.{slot_with, words_at}
use Rattle.evaluator.proofs.Agree.{fixed}
use Rattle.evaluator.proofs.Stage.{stage, stage_words, stage_old, stage_turn}
use Rattle.evaluator.proofs.Buffers.{Staged, staged_start, staged_put, staged_keep, staged_end}

-- the lengths of a finding's record and of a block's state
pub found_length : (B : List ℕ) (b : ℕ) (f : ℕ → ℕ) (s : List ℕ) →
    length (finding_for B b f s) ≡ finding_size
unfolding finding_for
found_length B b f s = finding-length b (group_of B b) (kind_of B b) (first_of B b f) (second_of B b f) s

cond-length : (t : Bool) (x y : List ℕ) (n : ℕ) → length x ≡ n → length y ≡ n → length (cond t x y) ≡ n
cond-length true x y n e f = e
cond-length false x y n e f = f

pub slot-length : (h : ℕ) (B R H S : List ℕ) (b : ℕ) → length (slot_with h B R H S b) ≡ finding_size
unfolding slot_with found_with
slot-length h B R H S b = cond-length (enters_with h B R H S b) _ _ finding_size (found_length B b _ _) refl

-- what the record of a block says, by whether it enters 4
slot_yes : (h : ℕ) (B R H S : List ℕ) (b : ℕ) → enters_with h B R H S b ≡ true →
    slot_with h B R H S b ≡ found_with h B R H S b
unfolding slot_with
slot_yes h B R H S b e = rw e

slot_not : (h : ℕ) (B R H S : List ℕ) (b : ℕ) → enters_with h B R H S b ≡ false →
    slot_with h B R H S b ≡ replicate finding_size 0
unfolding slot_with
slot_not h B R H S b e = rw e

-- a record of a buffer of zeros
zeros_slot : (w m b : ℕ) → b < m → slot 0 w b (replicate (w * m) 0) ≡ replicate w 0
zeros_slot w m b l =
    ext_get_or 0 (slot 0 w b (replicate (w * m) 0)) (replicate w 0) (long ∙ sym (length-replicate {A = ℕ} w 0))
    (λ j q.
    slot_get_or 0 w b (replicate (w * m) 0) j (rw long at q)
    ∙ get_or-replicate (w * m) (0 + w * b + j) 0 0 (inside j (rw long at q))
    ∙ sym (get_or-replicate w j 0 0 (rw long at q)))
  where
    long : length (slot 0 w b (replicate (w * m) 0)) ≡ w
    long = length-slot 0 w b (replicate (w * m) 0) (omega (arith, apart w b m l, length-replicate {A = ℕ} (w * m) 0))

    inside : (j : ℕ) → j < w → 0 + w * b + j < w * m
    inside j q = omega (arith, apart w b m l)

pub turned-length : (B R : List ℕ) (ph b : ℕ) (s : List ℕ) (f : ℕ → ℕ) →
    length (turned_from B R ph b s f) ≡ state_size
unfolding turned_from
turned-length B R ph b s f = step_length (kind_of B b) (parameters_of B b) ph _ _ _ _ s

-- no finding
abbrev pub empty : ℕ → List ℕ
empty b = replicate finding_size 0

-- after the turns of the numbers below e: the state S and the findings D by block number, from S₀ and no finding
pub record Held (h : ℕ) (B R H S₀ : List ℕ) (n : ℕ) (S D : List ℕ) (some : Bool) (e : ℕ) : Type 0 where
  pub within : e ≤ n
  pub head : take (state_head h) S ≡ take (state_head h) S₀
  pub cells : Staged (state_head h) state_size n (order_of B) (cell h S₀) (ran_with h B R H S₀) e S
  pub notes : Staged 0 finding_size n (order_of B) empty (slot_with h B R H S₀) e D
  pub none : some ≡ false → (b : ℕ) → b < n → order_of B b < e → enters_with h B R H S₀ b ≡ false

module _ (h : ℕ) (B R H K S₀ D₀ : List ℕ) (n : ℕ) (r : Running h B R H K S₀ D₀ n) where
  -- the state is cut behind its group bytes
  cell-slot : (S : List ℕ) (b : ℕ) → slot (state_head h) state_size b S ≡ cell h S b
  unfolding cell
  cell-slot S b = refl

  pub ran_length : (b : ℕ) → b < n → length (ran_with h B R H S₀ b) ≡ state_size
  unfolding ran_with ran net
  ran_length b l =
      ap length (fixed (net h B R (byte_at H)) (order_of B) (cell h S₀) (block_count B) b
      (rw (← r.count) (r.below b l)))
      ∙ turned-length B R (byte_at H (group_of B b)) b _ _

  pub held_start : Held h B R H S₀ n S₀ D₀ false 0
  held_start = record {
    within = omega arith;
    head = refl;
    cells =
        staged_start (state_head h) state_size n (order_of B) (cell h S₀) (ran_with h B R H S₀) S₀
        (r.standing.state ∙ ap (λ (k : ℕ). state_head h + state_size * k) (sym r.count))
        (λ b l. cell-slot S₀ b);
    notes =
        staged_start 0 finding_size n (order_of B) empty (slot_with h B R H S₀) D₀
        (ap length r.clean ∙ length-replicate {A = ℕ} (finding_size * n) 0 ∙ sym (zero-add (finding_size * n)))
        (λ b l. ap (slot 0 finding_size b) r.clean ∙ zeros_slot finding_size n b l);
    none = λ _ b l k. absurd (omega arith);
  }

  -- the turn of the block b that has the number e
  module _ (S D : List ℕ) (some : Bool) (e b : ℕ) (k : Held h B R H S₀ n S D some e) (l : b < n)
      (at : order_of B b ≡ e) where
    here : (a : ℕ) → a < block_count B →
        cell h S a
        ≡ stage (order_of B) (cell h S₀) (after (block_count B) (net h B R (byte_at H)) (order_of B) (cell h S₀)) e a
    unfolding ran_with ran
    here a q = sym (cell-slot S a) ∙ k.cells.cells a (rw r.count q)

    linked : (p a q : ℕ) → (net h B R (byte_at H)).wires.link b p ≡ Some (Output a q) → a < block_count B
    unfolding net wires
    linked p a q g = ((r.due b l).linked.links p).output a q g

    others : (a : ℕ) → a < n → a ≢ b → order_of B a ≢ e
    others a q d g = r.apart a b q l d (g ∙ sym at)

    inside : b < block_count B
    inside = rw (← r.count) l

    early : order_of B b < block_count B
    early = rw (← r.count) (r.below b l)

    same_cell : cell h S b ≡ cell h S₀ b
    same_cell =
        stage_old (net h B R (byte_at H)) (order_of B) (cell h S₀) (block_count B) e b (cell h S) here linked inside
        at early

    same_words : words_at h B R S b ≡ words (wires h B R) (seen (order_of B) (cell h S₀) (ran_with h B R H S₀) b) b
    unfolding ran_with ran net
    same_words =
        stage_words (net h B R (byte_at H)) (order_of B) (cell h S₀) (block_count B) e b (cell h S) here linked inside
        at early

    pub turned_ran : turned h B R (phase_at B H b) S b ≡ ran_with h B R H S₀ b
    unfolding turned turned_from ran_with ran net
    turned_ran =
        stage_turn (net h B R (byte_at H)) (order_of B) (cell h S₀) (block_count B) e b (cell h S) here linked inside
        at early

    pub entering_ran : entering h B R (phase_at B H b) S b ≡ enters_with h B R H S₀ b
    unfolding entering enters_with
    entering_ran = ap₂ enters_from same_cell turned_ran

    noted_ran : noted h B R (phase_at B H b) S b D
        ≡ cond (enters_with h B R H S₀ b) (sets D (finding_size * b) (found_with h B R H S₀ b)) D
    unfolding noted found_with
    noted_ran = λ i. cond (entering_ran i) (sets D (finding_size * b) (finding_for B b (same_words i) (turned_ran i))) D

    notes_next : (t : Bool) → enters_with h B R H S₀ b ≡ t →
        Staged 0 finding_size n (order_of B) empty (slot_with h B R H S₀) (e + 1) (noted h B R (phase_at B H b) S b D)
    notes_next true q =
        subst (Staged 0 finding_size n (order_of B) empty (slot_with h B R H S₀) (e + 1))
        ((λ i. sets D (zero-add (finding_size * b) i) (slot_yes h B R H S₀ b q i)) ∙ sym (noted_ran ∙ rw q))
        (staged_put 0 finding_size n (order_of B) empty (slot_with h B R H S₀) e b D k.notes l at others
        (slot-length h B R H S₀ b))
    notes_next false q =
        subst (Staged 0 finding_size n (order_of B) empty (slot_with h B R H S₀) (e + 1))
        (sym (noted_ran ∙ rw q))
        (staged_keep 0 finding_size n (order_of B) empty (slot_with h B R H S₀) e b D k.notes l at others
        (slot_not h B R H S₀ b q))

    -- what the loop has after the turn; `next` is whether some block has entered 4 by now
    pub held_turn : (S' D' : List ℕ) (next : Bool) → e < n →
        S' ≡ sets S (state_head h + state_size * b) (turned h B R (phase_at B H b) S b) →
        D' ≡ noted h B R (phase_at B H b) S b D →
        (next ≡ false → (some ≡ false) × (entering h B R (phase_at B H b) S b ≡ false)) →
        Held h B R H S₀ n S' D' next (e + 1)
    held_turn S' D' next i p q none = record {
      within = omega arith;
      head =
          ap (take (state_head h)) put ∙ head_put (state_head h) state_size b (ran_with h B R H S₀ b) S (ran_length b l)
          ∙ k.head;
      cells =
          subst (Staged (state_head h) state_size n (order_of B) (cell h S₀) (ran_with h B R H S₀) (e + 1)) (sym put)
          (staged_put (state_head h) state_size n (order_of B) (cell h S₀) (ran_with h B R H S₀) e b S k.cells l at
          others
          (ran_length b l));
      notes =
          subst (Staged 0 finding_size n (order_of B) empty (slot_with h B R H S₀) (e + 1)) (sym q)
          (notes_next (enters_with h B R H S₀ b) refl);
      none = λ z a m g. missed z a m g (ℕ_discrete a b);
    }
      where
        put : S' ≡ sets S (state_head h + state_size * b) (ran_with h B R H S₀ b)
        put = p ∙ ap (sets S (state_head h + state_size * b)) turned_ran

        missed : next ≡ false → (a : ℕ) → a < n → order_of B a < e + 1 → Dec (a ≡ b) →
            enters_with h B R H S₀ a ≡ false
        missed z a m g (yes d) =
            subst (λ (c : ℕ). enters_with h B R H S₀ c ≡ false) (sym d) (sym entering_ran ∙ (none z).1)
        missed z a m g (no d) = let other = others a m d in k.none (none z).0 a m (omega (arith, other))

  -- when all have run
  pub held_state : (S D : List ℕ) (some : Bool) → Held h B R H S₀ n S D some n →
      S ≡ take (state_head h) S₀ ++ gather n (ran_with h B R H S₀)
  held_state S D some k =
      staged_end (state_head h) state_size n (order_of B) (cell h S₀) (ran_with h B R H S₀) S k.cells r.below
      ∙ ap (λ (t : List ℕ). t ++ gather n (ran_with h B R H S₀)) k.head

  pub held_findings : (S D : List ℕ) (some : Bool) → Held h B R H S₀ n S D some n →
      D ≡ gather n (slot_with h B R H S₀)
  held_findings S D some k =
      staged_end 0 finding_size n (order_of B) empty (slot_with h B R H S₀) D k.notes r.below

  pub held_none : (S D : List ℕ) (some : Bool) → Held h B R H S₀ n S D some n → some ≡ false →
      (b : ℕ) → b < n → enters_with h B R H S₀ b ≡ false
  held_none S D some k z b l = k.none z b l (r.below b l)

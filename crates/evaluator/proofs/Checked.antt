-- A checked call: what follows from an accepted project, its counts and buffers of their sizes for each part of a
-- cycle. Assumes nothing.
use Rattle.wire.proofs.Usual.{◌≡◌, refl, sym, ap, ap₂, ◌∙◌, subst, Bool, true, false, cond, not, ◌&&◌, ◌≢◌}
use Rattle.wire.proofs.Usual.{List, [], ◌∷◌, ◌++◌, ℕ, ◌+◌, ◌*◌, ◌≤◌, ◌<◌, zero-add, arith, length, take, drop}
use Rattle.wire.proofs.Usual.{replicate, length-append, length-drop}
use mathlib.Core.Logic.{⊎_elim}
use lib.ListN.{get_or-append}
use Rattle.wire.specs.Words.{byte_at, bytes4}
use Rattle.wire.specs.Records.{gather}
use Rattle.wire.specs.Places.{all}
use Rattle.wire.proofs.Places.{all_each, all_true, both_left}
use Rattle.wire.proofs.Records.{lt_or_gt, slot-gather, gather_same, length-gather}
use Rattle.kind.specs.Devices.{is_err_ack}
use Rattle.project.specs.declared.Counts.{Counts}
use Rattle.casefile.specs.Sound.{Sound}
use Rattle.project.specs.Project.{block_count, block_size, device, group_count, head_size, kind_of, order_of}
use Rattle.project.specs.Project.{output_block}
use Rattle.project.specs.Project.{output_count, output_port, parameters_of, word_size}
use Rattle.casefile.proofs.Execution.{block_at_is, block_at_lt}
use Rattle.block.specs.Finding.{finding_size}
use Rattle.block.specs.State.{state_size}
use Rattle.block.specs.Formed.{well_formed}
use Rattle.evaluator.specs.Asks.{Standing, Due, Ranked, Running, order_list, group_with, Grouped}
use Rattle.evaluator.specs.Asks.{Admitted, Begun, Decided, Noted, Ordered, Ready, enters_with}
use Rattle.evaluator.specs.Asks.{is_noted}
use Rattle.evaluator.specs.Asks.{note_in, output_shown, ran_with, slot_with}
use Rattle.evaluator.specs.State.{cell, cell_formed, findings_length, group_byte, group_formed, head_formed}
use Rattle.evaluator.specs.State.{is_acknowledged, is_held, outputs_length, state_formed, state_head, state_length}
use Rattle.evaluator.specs.Groups.{control_byte, group_from, group_next, has_error, new_group, pends}
use Rattle.evaluator.specs.Cycle.{finding_count, new_block, new_findings, new_head, new_outputs, new_state}
use Rattle.evaluator.specs.Cycle.{output_word, port_shows}
use Rattle.wire.specs.Packed.{hits, packed}
use Rattle.evaluator.proofs.Cycles.{block_formed, block_length, count_new, count_none, decided_state}
use Rattle.evaluator.proofs.Cycles.{findings_new, findings_none, group_is, head_long, state_new, all_noted}
use Rattle.evaluator.proofs.Ranking.{order_ranked}
use Rattle.evaluator.proofs.Deciding.{row_at_is, row-length}

-- ---- a group's byte stays well formed

next_formed : (p a b c : Bool) (old : ℕ) → group_formed old ≡ true →
    group_formed (cond p 1 (cond a 3 (cond (b && c) 0 old))) ≡ true
next_formed true a b c old h = refl
next_formed false true b c old h = refl
next_formed false false true true old h = refl
next_formed false false true false old h = h
next_formed false false false c old h = h

group_is_formed : (G B R S : List ℕ) (g : ℕ) → group_formed (group_byte S g) ≡ true →
    group_formed (new_group G B R S g) ≡ true
unfolding new_group group_from group_next
group_is_formed G B R S g f =
    let v = control_byte R g in
    let old = group_byte S g in
    next_formed (pends (device G) v (has_error (group_count G) B S g)) (is_held old && is_err_ack v)
    (is_held old && is_acknowledged old) (not (is_err_ack v)) old f

-- ---- what the checks say, for each part

module _ {G B : List ℕ} {n h c : ℕ} (g : Sound G B n) (heads : h ≡ group_count G)
    (count : c ≡ block_count B) where
  pub standing : (S : List ℕ) → length S ≡ state_length G B → Standing B S h
  unfolding state_length
  standing S s = record {
    long = g.long;
    few_blocks = g.few_blocks;
    few = rw heads g.few_groups;
    state = s ∙ ap (λ (k : ℕ). state_head k + state_size * block_count B) (sym heads);
  }

  pub grouped : Grouped B c
  grouped = record {
    count = count;
    few = rw count g.few_blocks;
    groups = λ b q. omega (arith, g.group b (rw count at q), g.few_groups);
  }

  orders_apart : (a b : ℕ) → a < block_count B → b < block_count B → a ≢ b → order_of B a ≢ order_of B b
  orders_apart a b p q n x =
      ⊎_elim (λ k. g.order_other a b k q x) (λ k. g.order_other b a k p (sym x)) (lt_or_gt a b n)

  pub ordered : Ordered B c
  ordered = record {
    count = count;
    long = g.long ∙ ap (λ (n : ℕ). block_size * n) (sym count);
    few = rw count g.few_blocks;
    below = λ b q. rw count (g.order_below b (rw count at q));
    apart = λ a b p q. orders_apart a b (rw count at p) (rw count at q);
    lands = λ e q. (rw count (block_at_lt g e (rw count at q)), block_at_is g e (rw count at q));
  }

  -- a block's turn
  pub due : (R H : List ℕ) (b : ℕ) → length R ≡ head_size + group_count G + word_size * n → length H ≡ 8 →
      b < block_count B → Due h B R H b
  due R H b r e l = record {
    inside = l;
    group = rw heads (g.group b l);
    linked = record {
      links = λ p. record {
        external = λ i x. omega (arith, r, heads, g.external b p i l x);
        output = λ a q x. g.output b p a q l x;
      };
      long = omega (arith, r, heads);
    };
    phases = e;
  }

-- ---- the parts of a cycle

module _ {c : Counts} {G B K E R S D : List ℕ} (r : Ready c G B K E R S D) where
  abbrev t : Begun c r.inputs G B K E S D
  t = r.begun

  heads : c.groups ≡ group_count G
  heads = t.groups

  count : c.blocks ≡ block_count B
  count = t.blocks

  pub few_heads : c.groups ≤ 8
  few_heads = rw heads t.sound.few_groups

  pub heads_fit : state_head c.groups ≤ length S
  unfolding state_length
  heads_fit = omega (arith, t.size, heads)

  -- when the groups have decided
  module _ (H S1 : List ℕ)
      (s : S1 ≡ gather c.groups (λ g. group_with E G R S g ∷ []) ++ drop (state_head c.groups) S)
      (d : Decided E G R S c.groups H) where
    in_phases : Decided E G R S (group_count G) H
    in_phases = subst (λ (k : ℕ). Decided E G R S k H) heads d

    is_decided : S1 ≡ decided_state G B R S
    unfolding new_head
    is_decided =
        s ∙ ap (λ (k : ℕ). gather k (λ g. group_with E G R S g ∷ []) ++ drop (state_head k) S) heads
        ∙ ap (λ (x : List ℕ). x ++ drop (state_head (group_count G)) S)
        (gather_same (group_count G) (λ g. group_with E G R S g ∷ []) (λ g. new_group G B R S g ∷ [])
        (λ g q i. group_is G B E R S H t.sound t.errors t.size t.formed in_phases g q i ∷ []))

    decided_long : length S1 ≡ length S
    decided_long =
        ap length s ∙ length-append (gather c.groups (λ g. group_with E G R S g ∷ []))
        (drop (state_head c.groups) S)
        ∙ omega (arith, row-length c.groups (group_with E G R S), length-drop (state_head c.groups) S, heads_fit)

    pub running : Running c.groups B R H K S1 D c.blocks
    unfolding findings_length
    running = record {
      standing = standing t.sound heads count S1 (decided_long ∙ t.size);
      count = count;
      due = λ b k. due t.sound heads count R H b r.given d.long (rw count at k);
      below = o.below;
      apart = o.apart;
      ranked =
          subst (λ (l : List ℕ). Ranked B c.blocks l) (sym t.order)
          (subst (λ (k : ℕ). Ranked B k (order_list B)) (sym count) (order_ranked t.sound));
      clean = t.clean ∙ ap (λ (k : ℕ). replicate (finding_size * k) 0) (sym count);
    }
      where
        o : Ordered B c.blocks
        o = ordered t.sound heads count

    -- when the blocks have run
    pub ran_state : (S2 : List ℕ) →
        S2 ≡ take (state_head c.groups) S1 ++ gather c.blocks (ran_with c.groups B R H S1) →
        S2 ≡ new_state G B R S
    ran_state S2 e =
        e ∙ (λ i. take (state_head (heads i)) (is_decided i)
        ++ gather (count i) (ran_with (heads i) B R H (is_decided i)))
        ∙ state_new G B E R S H t.sound t.errors t.size t.formed in_phases

    module _ (D2 : List ℕ) (f : D2 ≡ gather c.blocks (slot_with c.groups B R H S1)) where
      by_block : D2 ≡ gather (block_count B) (slot_with (group_count G) B R H (decided_state G B R S))
      by_block = f ∙ (λ i. gather (count i) (slot_with (heads i) B R H (is_decided i)))

      pub packable : Noted D2 c.blocks
      packable =
          subst (λ (l : List ℕ). Noted l c.blocks) (sym by_block)
          (rw count (all_noted G B E R S H t.sound t.errors t.size t.formed in_phases))

      pub all_findings : (D3 : List ℕ) → D3 ≡ packed (finding_size * c.blocks) c.blocks (is_noted D2)
          (note_in D2) → D3 ≡ new_findings G B R S
      all_findings D3 e =
          e ∙ (λ i. packed (finding_size * count i) (count i) (is_noted (by_block i)) (note_in (by_block i)))
          ∙ findings_new G B E R S H t.sound t.errors t.size t.formed in_phases

      pub all_count : (k : ℕ) → k ≡ hits c.blocks (is_noted D2) → k ≡ finding_count G B R S
      all_count k e =
          e ∙ (λ i. hits (count i) (is_noted (by_block i)))
          ∙ count_new G B E R S H t.sound t.errors t.size t.formed in_phases

      module _ (quiet : (b : ℕ) → b < c.blocks → enters_with c.groups B R H S1 b ≡ false) where
        none_at : (b : ℕ) → b < block_count B → enters_with (group_count G) B R H (decided_state G B R S) b ≡ false
        none_at b k = (λ i. enters_with (sym heads i) B R H (sym is_decided i) b) ∙ quiet b (rw count k)

        pub no_findings : D2 ≡ new_findings G B R S
        no_findings =
            by_block ∙ findings_none G B E R S H t.sound t.errors t.size t.formed in_phases none_at

        pub no_count : 0 ≡ finding_count G B R S
        no_count = count_none G B E R S H t.sound t.errors t.size t.formed in_phases none_at

-- ---- the new state

module _ {n : ℕ} (G B R S : List ℕ) (g : Sound G B n) where
  -- a block's bytes in it
  pub new_cell : (b : ℕ) → b < block_count B → cell (group_count G) (new_state G B R S) b ≡ new_block G B R S b
  unfolding cell new_state
  new_cell b q =
      slot-gather (state_head (group_count G)) state_size (block_count B) (new_head G B R S) (new_block G B R S)
      (head_long G B R S g) (λ k p. block_length G B R S g k p) b q

  pub new_long : length (new_state G B R S) ≡ state_length G B
  unfolding new_state state_length
  new_long =
      length-append (new_head G B R S) (gather (block_count B) (new_block G B R S))
      ∙ ap₂ (λ (x y : ℕ). x + y) (head_long G B R S g)
      (length-gather state_size (block_count B) (new_block G B R S) (λ k p. block_length G B R S g k p))

  -- a group's byte in it
  new_group_is : (k : ℕ) → k < group_count G → group_byte (new_state G B R S) k ≡ new_group G B R S k
  unfolding new_state new_head
  new_group_is k q =
      ap (byte_at (new_state G B R S)) (zero-add k)
      ∙ get_or-append (new_head G B R S) (gather (block_count B) (new_block G B R S)) 0 k
      (omega (arith, head_long G B R S g))
      ∙ row_at_is (group_count G) (new_group G B R S) k q

  -- 01, "What the reviewer must be able to rely on": it is well formed
  pub new_formed : state_formed G B S ≡ true → state_formed G B (new_state G B R S) ≡ true
  unfolding state_formed cell_formed
  new_formed h =
      let heads =
      all_each (head_formed S) (group_count G)
      (both_left (all (head_formed S) (group_count G)) (all (cell_formed (group_count G) B S) (block_count B)) h)
      in
      ap₂ (λ (x y : Bool). x && y)
      (all_true (head_formed (new_state G B R S)) (group_count G)
      (λ k q. ap group_formed (new_group_is k q) ∙ group_is_formed G B R S k (heads k q)))
      (all_true (cell_formed (group_count G) B (new_state G B R S)) (block_count B)
      (λ b q. ap (well_formed (kind_of B b) (parameters_of B b)) (new_cell b q) ∙ block_formed G B R S g h b q))

-- ---- a whole call

module _ {c : Counts} {G B W R S O D : List ℕ} (m : Admitted c G B W R S O D) where
  pub in_place : (T : List ℕ) → length T ≡ state_length G B → Standing B T c.groups
  in_place T e = standing m.sound m.groups m.blocks T e

  pub in_order : Ordered B (block_count B)
  in_order = ordered m.sound m.groups refl

  pub outputs_long : length O ≡ word_size * output_count W
  unfolding outputs_length
  outputs_long = m.outputs

  -- the words that the new state shows are those of the cycle
  pub shown_new : (T P : List ℕ) → T ≡ new_state G B R S →
      P ≡ gather (output_count W) (λ o. bytes4 (output_shown c.groups B W T o)) → P ≡ new_outputs G B W R S
  unfolding new_outputs output_word output_shown
  shown_new T P t p =
      p ∙ (λ i. gather (output_count W) (λ o. bytes4 (output_shown (m.groups i) B W (t i) o)))
      ∙ gather_same (output_count W) (λ o. bytes4 (output_shown (group_count G) B W (new_state G B R S) o))
      (λ o. bytes4 (output_word G B W R S o))
      (λ o q.
      ap (λ (s : List ℕ). bytes4 (port_shows B (output_block W o) (output_port W o) s))
      (new_cell G B R S m.sound (output_block W o) (m.shown.block o q)))

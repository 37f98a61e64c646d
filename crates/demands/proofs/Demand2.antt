-- Demand 2: an accepted cycle leaves exactly what the definitions say. The buffers and the count are the call's
-- definition; each block's step is the fixed point of the cycle (`fixed`); the state that is left is well formed, since
-- a step keeps a block so and a group's byte becomes 0, 1, 3 or stays. Assumes nothing.
use Rattle.wire.proofs.Usual.{◌≡◌, refl, sym, ap, ◌∙◌, Bool, true, cond, List, [], ◌++◌, append-nil, ℕ}
use Rattle.wire.proofs.Usual.{zero, suc, ◌+◌, ◌-◌, ◌*◌, ◌≤◌, ◌<◌, ℕ_discrete, dec_lt, arith, length, take, drop}
use Rattle.wire.proofs.Usual.{replicate, length-replicate}
use Rattle.std.specs.Prelude.{Result, Ok, Err}
use mathlib.Core.List.{append_assoc}
use native.Mathlib.Nat.{not-suc-le-zero}
use lib.ListN.{get_or-replicate, get_or-eq_default}
use lib.Seq.{take_at, drop_at, get_or-append-add}
use Rattle.wire.specs.Words.{byte_at}
use Rattle.wire.specs.Records.{slot}
use Rattle.wire.proofs.Records.{slot_past}
use Rattle.wire.proofs.Packing.{entries-length}
use Rattle.project.specs.Project.{input_count, group_count, block_count, group_of, order_of}
use Rattle.casefile.specs.Sound.{Sound}
use Rattle.casefile.specs.Bodies.{project_of}
use Rattle.casefile.proofs.Accepted.{accepted}
use Rattle.block.specs.Finding.{finding_size}
use Rattle.evaluator.specs.declared.Refusal.{Refusal}
use Rattle.evaluator.specs.Net.{words, seen}
use Rattle.evaluator.specs.State.{cell, state_formed}
use Rattle.evaluator.specs.Groups.{phase}
use Rattle.wire.specs.Packed.{entries, hits, packed}
use Rattle.evaluator.specs.Cycle.{net, ran, turned_from, wires, new_block, words_read, new_findings, enters}
use Rattle.evaluator.specs.Cycle.{finding_for}
use Rattle.evaluator.specs.Cycle.{finding, finding_count}
use Rattle.evaluator.specs.Answer.{Lent, Left, call_verdict, leaves, cycle_of}
use Rattle.evaluator.proofs.Agree.{unique}
use Rattle.evaluator.proofs.Cycles.{new_stepped}
use Rattle.evaluator.proofs.Checked.{new_formed}
use Rattle.evaluator.proofs.Checking.{taken}
use Rattle.evaluator.proofs.Calls.{call_refused, call_done, call_taken, call_passed}
use Rattle.evaluator.proofs.Running.{found_length}
use Rattle.evaluator.proofs.FreshFormed.{fresh_state_formed}
use Rattle.demands.specs.Demands.{CycledBy, Demand2}

-- ---- the blocks' new bytes

-- nothing else meets the equation of the steps
new_only : {n : ℕ} (G B R S : List ℕ) → Sound G B n → (new : ℕ → List ℕ) →
    ((b : ℕ) → b < block_count B →
    new b
    ≡ turned_from B R (phase G B R S (group_of B b)) b (cell (group_count G) S b)
    (words (wires (group_count G) B R) (seen (order_of B) (cell (group_count G) S) new b) b)) →
    (b : ℕ) → b < block_count B → new b ≡ new_block G B R S b
unfolding new_block ran net wires
new_only G B R S g new h b l =
    unique (λ b. b < block_count B) (net (group_count G) B R (phase G B R S)) (order_of B) (cell (group_count G) S) new
    (λ b p a q l x. g.output b p a q l x) h (block_count B) b l (g.order_below b l)

-- ---- the findings in their buffer

module _ (w : ℕ) (hit : ℕ → Bool) (f : ℕ → List ℕ) (long : (b : ℕ) → length (f b) ≡ w) where
  -- the entries from that of place b on
  record From (n b : ℕ) : Type 0 where
    rest : List ℕ
    parts : entries n hit f ≡ entries b hit f ++ (f b ++ rest)

  entries_from : (n b : ℕ) → b < n → hit b ≡ true → From n b
  unfolding entries
  entries_from zero b l h = absurd (not-suc-le-zero l)
  entries_from (suc n) b l h = go (λ q. entries_from n b q h) (ℕ_discrete b n)
    where
      go : (b < n → From n b) → Dec (b ≡ n) → From (suc n) b
      go r (yes e) = record {
        rest = [];
        parts =
            ap (λ (k : ℕ). entries k hit f ++ cond (hit k) (f k) []) (sym e)
            ∙ ap (λ (t : Bool). entries b hit f ++ cond t (f b) []) h
            ∙ ap (λ (t : List ℕ). entries b hit f ++ t) (sym (append-nil (f b)));
      }
      go r (no e) =
          let c = r (omega (arith, e)) in
          let last = cond (hit n) (f n) [] in
          record {
            rest = c.rest ++ last;
            parts =
                ap (λ (t : List ℕ). t ++ last) c.parts ∙ append_assoc (entries b hit f) (f b ++ c.rest) last
                ∙ ap (λ (t : List ℕ). entries b hit f ++ t) (append_assoc (f b) c.rest last);
          }

  -- the entry of a place that is hit stands after those of the places before it
  packed_at : (size n b : ℕ) → b < n → hit b ≡ true → slot 0 w (hits b hit) (packed size n hit f) ≡ f b
  unfolding packed
  packed_at size n b l h =
      slot_past 0 w (hits b hit) (packed size n hit f)
      ∙ ap (λ (t : List ℕ). take w (drop (w * hits b hit) t)) whole
      ∙ ap (take w) (drop_at (entries b hit f) (f b ++ (c.rest ++ zeros)) (w * hits b hit)
      (entries-length w hit f b (λ j _. long j)))
      ∙ take_at (f b) (c.rest ++ zeros) w (long b)
    where
      c : From n b
      c = entries_from n b l h

      zeros : List ℕ
      zeros = replicate (size - length (entries n hit f)) 0

      whole : packed size n hit f ≡ entries b hit f ++ (f b ++ (c.rest ++ zeros))
      whole =
          ap (λ (t : List ℕ). t ++ zeros) c.parts ∙ append_assoc (entries b hit f) (f b ++ c.rest) zeros
          ∙ ap (λ (t : List ℕ). entries b hit f ++ t) (append_assoc (f b) c.rest zeros)

  -- past the entries there are zeros
  packed_past : (size n i : ℕ) → w * hits n hit ≤ i → byte_at (packed size n hit f) i ≡ 0
  unfolding packed
  packed_past size n i l =
      let m = size - length (entries n hit f) in
      let j = i - length (entries n hit f) in
      let at : i ≡ length (entries n hit f) + j = omega (arith, entries-length w hit f n (λ b _. long b)) in
      ap (byte_at (packed size n hit f)) at ∙ get_or-append-add (entries n hit f) (replicate m 0) j 0 ∙ zero_at_is m j
    where
      zero_at_is : (m j : ℕ) → byte_at (replicate m 0) j ≡ 0
      zero_at_is m j = go (dec_lt j m)
        where
          go : Dec (j < m) → byte_at (replicate m 0) j ≡ 0
          go (yes q) = get_or-replicate m j 0 0 q
          go (no q) = get_or-eq_default (replicate m 0) 0 (omega (arith, q, length-replicate {A = ℕ} m 0))

-- ---- an accepted call

module _ (F R : List ℕ) (L : Lent) where
  not_refused : (k : ℕ) → (cycle_of F R L).answer ≡ Ok k → call_verdict F R L ≡ Ok tt
  not_refused k e = go (call_verdict F R L) refl
    where
      go : (v : Result (Unit {0}) Refusal) → call_verdict F R L ≡ v → call_verdict F R L ≡ Ok tt
      go (Ok u) z = z
      go (Err r) z =
          let turned : Err r ≡ Ok k = sym (ap (λ (l : Left). l.answer) (call_refused F R L r z)) ∙ e in
          absurd (cc)

  cycled : (k : ℕ) → (cycle_of F R L).answer ≡ Ok k → CycledBy F R L (project_of F) k
  unfolding finding_count new_findings finding finding_for words_read
  cycled k e = record {
    state = ap (λ (l : Left). l.lent.state) done;
    outputs = ap (λ (l : Left). l.lent.outputs) done;
    findings = ap (λ (l : Left). l.lent.findings) done;
    counted = counted;
    stepped = new_stepped G B R S sound;
    read = λ b. refl;
    only = new_only G B R S sound;
    found = λ b l h.
        ap (λ (t : Left). slot 0 finding_size (hits b (enters G B R S)) t.lent.findings) done
        ∙ packed_at finding_size (enters G B R S) (finding G B R S) (λ b. found_length B b _ _)
        (finding_size * block_count B) (block_count B) b l h;
    unused = λ i l.
        ap (λ (t : Left). byte_at t.lent.findings i) done
        ∙ packed_past finding_size (enters G B R S) (finding G B R S) (λ b. found_length B b _ _)
        (finding_size * block_count B) (block_count B) i (rw counted at l);
    formed =
        ap (λ (l : Left). state_formed G B l.lent.state) done
        ∙ new_formed G B R S sound (call_passed F R L accepts).state;
  }
    where
      G : List ℕ
      G = (project_of F).groups

      B : List ℕ
      B = (project_of F).blocks

      S : List ℕ
      S = L.state

      accepts : call_verdict F R L ≡ Ok tt
      accepts = not_refused k e

      done : cycle_of F R L ≡ leaves (Ok tt) (project_of F) R L
      done = call_done F R L accepts

      counted : k ≡ hits (block_count B) (enters G B R S)
      counted =
          let same : Ok k ≡ Ok (hits (block_count B) (enters G B R S)) =
          sym e ∙ ap (λ (l : Left). l.answer) done
          in cc

      sound : Sound G B (input_count (project_of F).inputs)
      sound = (call_taken F R L accepts).sound

pub demand2 : Demand2
demand2 = record { cycles = cycled; fresh = λ F a. fresh_state_formed (project_of F) (taken F (accepted F a)).sound }

-- What the code reads of the blocks, the record and the state, said by the definitions of a cycle. Assumes nothing.
use Rattle.wire.proofs.Usual.{◌≡◌, sym, ap, ◌∙◌, List, ℕ, ◌+◌, ◌-◌, ◌*◌, ◌≤◌, ◌<◌, arith, length, take, drop}
use Rattle.std.specs.Prelude.{Option, Some}
use native.Mathlib.Nat.{add-sub_cancel_left}
use Rattle.wire.specs.Words.{le32}
use Rattle.wire.specs.Records.{slot}
use Rattle.wire.proofs.Records.{word_within}
use Rattle.project.specs.declared.Source.{Source}
use Rattle.project.specs.declared.Source.TheVariants.{External, Output}
use Rattle.project.specs.Project.{row_of, block_size, block_count, block_record, word_size, head_size, link_in}
use Rattle.block.specs.State.{state_size}
use Rattle.evaluator.specs.Net.{reads}
use Rattle.evaluator.specs.Groups.{input_word}
use Rattle.evaluator.specs.State.{cell, state_head}
use Rattle.evaluator.specs.Cycle.{wires, port_shows}
use Rattle.evaluator.specs.Asks.{Sized, Whole, words_at}

-- a part by where it starts and ends
pub part_is : (s : List ℕ) (at size : ℕ) → take (at + size - at) (drop at s) ≡ take size (drop at s)
part_is s at size = ap (λ (k : ℕ). take k (drop at s)) (add-sub_cancel_left at size)

-- block b's record in the body of blocks
pub record_is : (B : List ℕ) (b : ℕ) →
    take (block_size * b + block_size - block_size * b) (drop (block_size * b) B) ≡ block_record B b
unfolding row_of
record_is B b = part_is B (block_size * b) block_size

-- its bytes in the state, from `at` on, and that they are there
abbrev pub lent_from : ℕ → List ℕ → List ℕ
lent_from at S = take (at + state_size - at) (drop at S)

pub cell_is : (h : ℕ) (S : List ℕ) (b : ℕ) {at : ℕ} → at ≡ state_head h + state_size * b → lent_from at S ≡ cell h S b
unfolding cell slot
cell_is h S b {at} p = part_is S at state_size ∙ ap (λ (k : ℕ). take state_size (drop k S)) p

pub cell_fits : {B : List ℕ} {h n : ℕ} → Whole B h n → (S : List ℕ) → Sized h B S → (b : ℕ) → b < block_count B →
    {at : ℕ} → at ≡ state_head h + state_size * b → at + state_size ≤ length S
cell_fits w S s b l p = omega (arith, s, l, p)

-- what input port p of block b reads, by the source that it is linked to
pub word_is : (h : ℕ) (B R S : List ℕ) (b p : ℕ) {Q : List ℕ} {s t : Option Source} {x : ℕ} → Q ≡ block_record B b →
    s ≡ link_in Q p → s ≡ t → x ≡ reads (wires h B R) (cell h S) t → x ≡ words_at h B R S b p
unfolding wires
word_is h B R S b p q e f r =
    r ∙ ap (reads (wires h B R) (cell h S)) (sym f ∙ e ∙ ap (λ (y : List ℕ). link_in y p) q)

module _ (h : ℕ) (B R S : List ℕ) where
  -- an external input
  pub external_word : (i x : ℕ) (T : List ℕ) → T ≡ take word_size (drop (head_size + h + word_size * i) R) →
      x ≡ le32 T 0 → x ≡ reads (wires h B R) (cell h S) (Some (External i))
  unfolding wires input_word
  external_word i x T t e = e ∙ ap (λ (u : List ℕ). le32 u 0) t ∙ word_within (head_size + h + word_size * i) R

  pub output_word_is : (a q x : ℕ) → x ≡ port_shows B a q (cell h S a) →
      x ≡ reads (wires h B R) (cell h S) (Some (Output a q))
  unfolding wires
  output_word_is a q x e = e

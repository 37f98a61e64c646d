-- What the code's tests of a cycle call's arguments say by the definitions, and what the counts of an accepted file's
-- bodies are. Assumes nothing.
use Rattle.wire.proofs.Usual.{◌≡◌, ap, ap₂, ◌∙◌, subst, Bool, ◌&&◌, List, [], ℕ, ◌+◌, ◌*◌, ◌/◌, ◌≤◌, arith, length}
use Rattle.wire.proofs.Usual.{take, drop, eqb, length-take-le, length-drop}
use Rattle.std.specs.List.{list_all, zip}
use lib.ListN.{get_or}
use lib.Seq.{get_or-take, get_or-drop, drop-drop}
use Rattle.wire.specs.Words.{le32}
use Rattle.wire.specs.Places.{all}
use Rattle.wire.proofs.Iterating.{all_pairs, rows, row_in, length-rows}
use Rattle.wire.proofs.Records.{word_within}
use Rattle.project.specs.declared.Counts.{Counts}
use Rattle.kind.specs.Devices.{control_rule}
use Rattle.project.specs.Project.{device, run_linked}
use Rattle.project.specs.Project.{Project, row_of, group_count, input_size, input_count, input_type_in, block_record}
use Rattle.project.specs.Project.{block_count, kind_in, parameters_in, head_size, word_size, record_size, size_counted}
use Rattle.project.specs.Project.{output_count, counts_in}
use Rattle.casefile.specs.Sound.{Sound, Shown}
use Rattle.project.proofs.Counted.{device_is, is_groups, is_inputs, is_blocks, is_outputs, is_size}
use Rattle.casefile.specs.Bodies.{project_of}
use Rattle.casefile.proofs.Accepted.{Good, size_is}
use Rattle.block.specs.State.{state_size}
use Rattle.block.specs.Formed.{well_formed}
use Rattle.block.specs.Shows.{word_ok}
use Rattle.block.specs.Finding.{finding_size}
use Rattle.wire.specs.Records.{slot}
use Rattle.evaluator.specs.State.{state_head, state_length, outputs_length, findings_length, cell, cell_formed}
use Rattle.evaluator.specs.Groups.{input_word}
use Rattle.evaluator.specs.Answer.{Lent, control_ok, input_fits, sizes_ok}
use Rattle.evaluator.specs.Asks.{Few, Listed, Whole}

-- ---- an accepted project

-- what its check says of it
pub record Taken (P : Project) : Type 0 where
  pub sound : Sound P.groups P.blocks (input_count P.inputs)
  pub shown : Shown P.blocks P.outputs
  pub inputs : length P.inputs ≡ input_size * input_count P.inputs
  pub few_inputs : input_count P.inputs ≤ 128
  pub size : size_counted P.groups P.inputs ≡ record_size P.groups P.inputs

pub taken : (F : List ℕ) → Good F → Taken (project_of F)
unfolding project_of
taken F g = record {
  sound = g.sound;
  shown = g.shown;
  inputs = g.inputs.long;
  few_inputs = g.inputs.few;
  size = size_is g;
}

-- and of its counts
module _ {P : Project} {c : Counts} (e : c ≡ counts_in P) (t : Taken P) where
  pub groups_counted : c.groups ≡ group_count P.groups
  groups_counted = is_groups P.groups P.inputs P.blocks P.outputs e

  pub blocks_counted : c.blocks ≡ block_count P.blocks
  blocks_counted = is_blocks P.groups P.inputs P.blocks P.outputs e

  pub outputs_counted : c.outputs ≡ output_count P.outputs
  outputs_counted = is_outputs P.groups P.inputs P.blocks P.outputs e

  pub few : Few c
  few = (
    omega (arith, groups_counted, t.sound.few_groups),
    (omega (arith, blocks_counted, t.sound.few_blocks), omega (arith, outputs_counted, t.shown.few)),
  )

  pub whole : Whole P.blocks c.groups c.blocks
  whole = record {
    count = blocks_counted;
    few = t.sound.few_blocks;
    long = t.sound.long;
    few_groups = few.0;
  }

  pub listed : Listed c P.groups P.inputs
  listed = record {
    device = device_is P.groups P.inputs P.blocks P.outputs e;
    groups = groups_counted;
    inputs = is_inputs P.groups P.inputs P.blocks P.outputs e;
    size = is_size P.groups P.inputs P.blocks P.outputs e ∙ t.size;
    few_groups = t.sound.few_groups;
    few_inputs = t.few_inputs;
    long = t.inputs;
  }

  -- the sizes, by the counts
  pub state_counted : state_head c.groups + state_size * c.blocks ≡ state_length P.groups P.blocks
  unfolding state_length
  state_counted = ap₂ (λ (g b : ℕ). state_head g + state_size * b) groups_counted blocks_counted

  pub rows_counted : word_size * c.outputs ≡ outputs_length P.outputs
  unfolding outputs_length
  rows_counted = ap (λ (n : ℕ). word_size * n) outputs_counted

  pub notes_counted : finding_size * c.blocks ≡ findings_length P.blocks
  unfolding findings_length
  notes_counted = ap (λ (n : ℕ). finding_size * n) blocks_counted

  pub sizes_fit : (L : Lent) →
      (eqb (length L.state) (state_head c.groups + state_size * c.blocks)
      && eqb (length L.outputs) (word_size * c.outputs))
      && eqb (length L.findings) (finding_size * c.blocks)
      ≡ sizes_ok P L
  unfolding sizes_ok
  sizes_fit L = λ i.
      (eqb (length L.state) (state_counted i) && eqb (length L.outputs) (rows_counted i))
      && eqb (length L.findings) (notes_counted i)

-- ---- 11

-- block b's test, from its record Q, where its bytes T start in the state, its kind k and its parameters P
pub block_is : (h : ℕ) (B S : List ℕ) (b : ℕ) {Q P T : List ℕ} {at k : ℕ} {x : Bool} → Q ≡ block_record B b →
    at ≡ state_head h + state_size * b → T ≡ take state_size (drop at S) → k ≡ kind_in Q → P ≡ parameters_in Q →
    x ≡ well_formed k P T → x ≡ cell_formed h B S b
unfolding cell_formed cell slot
block_is h B S b q p t u v w =
    w
    ∙ (λ i. well_formed ((u ∙ ap kind_in q) i) ((v ∙ ap parameters_in q) i)
    ((t ∙ ap (λ (y : ℕ). take state_size (drop y S)) p) i))

-- ---- 12

-- each group's test, over the groups' bytes and those of the record side by side
abbrev pub control_test : ℕ → ℕ × ℕ → Bool
control_test d (linked, v) = control_rule d linked v

pub controls_are : (G R : List ℕ) (n : ℕ) {C : List ℕ} → n ≡ group_count G → C ≡ drop head_size R →
    head_size + n ≤ length R →
    list_all (control_test (device G)) (zip (take n (drop 1 G)) C) ≡ all (control_ok G R) (group_count G)
unfolding control_ok run_linked group_count
controls_are G R n {C} e q l =
    subst (λ (m : ℕ). list_all (control_test (device G)) (zip (take n (drop 1 G)) C) ≡ all (control_ok G R) m) e
    (all_pairs (control_ok G R) (control_test (device G)) (0, 0) n (take n (drop 1 G)) C
    (length-take-le n (drop 1 G) (simp length-drop (omega (arith, e))))
    (rw q (simp length-drop (omega (arith, l))))
    (λ j k. ap₂ (control_rule (device G)) (get_or-take n (drop 1 G) j 0 k ∙ get_or-drop 1 G j 0)
    (ap (λ (y : List ℕ). get_or y j 0) q ∙ get_or-drop head_size R j 0)))

-- each input's test, over the inputs' records and the words of the record side by side
abbrev pub word_test : List ℕ × List ℕ → Bool
word_test (r, w) = word_ok (input_type_in r) (le32 w 0)

pub words_are : (h : ℕ) (I R : List ℕ) {W : List ℕ} → W ≡ drop (head_size + h) R →
    head_size + h + word_size * input_count I ≤ length R →
    list_all word_test (zip (rows input_size (input_count I) I) (rows word_size (length W / word_size) W))
    ≡ all (input_fits h I R) (input_count I)
unfolding input_fits input_word row_of
words_are h I R {W} e l =
    let n = input_count I in
    let m = length W / word_size in
    let long : word_size * n ≤ length W = rw e (simp length-drop (omega (arith, l))) in
    let enough : n ≤ m = omega (arith, long) in
    all_pairs (input_fits h I R) word_test ([], []) n (rows input_size n I) (rows word_size m W)
    (length-rows input_size n I) (omega (arith, length-rows word_size m W, enough))
    (λ j k. ap₂ word_ok (ap input_type_in (row_in input_size n I j [] k))
    (ap (λ (y : List ℕ). le32 y 0) (row_in word_size m W j [] (omega (arith, k, enough))
    ∙ ap (λ (y : List ℕ). take word_size (drop (word_size * j) y)) e
    ∙ ap (take word_size) (drop-drop (word_size * j) (head_size + h) R))
    ∙ word_within (head_size + h + word_size * j) R))

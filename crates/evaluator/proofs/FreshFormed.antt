-- The fresh state: its length, and that it is well formed where the file is accepted, which is the first half of what
-- 01, "What the reviewer must be able to rely on", asks of states. Assumes nothing.
use Rattle.wire.proofs.Usual.{◌≡◌, refl, sym, ap, ap₂, ◌∙◌, Bool, true, false, cond, ◌&&◌, List, [], ◌∷◌, ℕ, ◌+◌}
use Rattle.wire.proofs.Usual.{◌<◌, arith, ne_eqb, eqb, length, replicate, length-append, length-replicate}
use Rattle.std.specs.Prelude.{Result, Ok, Err}
use lib.ListN.{get_or-append, get_or-replicate}
use Rattle.wire.specs.Records.{gather}
use Rattle.wire.specs.Tables.{row, first}
use Rattle.wire.proofs.Places.{all_true}
use Rattle.wire.proofs.Records.{length-gather, slot-gather}
use Rattle.project.specs.Project.{Project, group_count, block_count, kind_of, parameters_of}
use Rattle.casefile.specs.Sound.{Sound}
use Rattle.casefile.specs.Bodies.{project_of}
use Rattle.casefile.specs.Refusal.{verdict}
use Rattle.block.specs.State.{state_size, fresh_bytes, encode}
use Rattle.block.specs.Formed.{well_formed}
use Rattle.block.proofs.Kept.{fresh_formed}
use Rattle.evaluator.specs.State.{groups_at, state_head, group_byte, cell, state_length, group_formed, head_formed}
use Rattle.evaluator.specs.State.{cell_formed, state_formed}
use Rattle.evaluator.specs.declared.Refusal.{Refusal}
use Rattle.evaluator.specs.declared.Refusal.TheVariants.{Sizes as WrongSize}
use Rattle.evaluator.specs.Answer.{refusal_number, number_in}
use Rattle.evaluator.specs.Fresh.{fresh_for, fresh_table, fresh_number, fresh_verdict, fresh_left}
use Rattle.evaluator.proofs.Calls.{refusal_some, checked_number}

-- a block's fresh bytes
pub fresh_long : length fresh_bytes ≡ state_size
unfolding fresh_bytes encode
fresh_long = refl

module _ (P : Project) where
  abbrev h : ℕ
  h = state_head (group_count P.groups)

  abbrev zeros : List ℕ
  zeros = replicate h 0

  head_long : length zeros ≡ h
  head_long = length-replicate {A = ℕ} h 0

  pub fresh_length : length (fresh_for P) ≡ state_length P.groups P.blocks
  unfolding fresh_for state_length
  fresh_length =
      length-append zeros (gather (block_count P.blocks) (λ b. fresh_bytes))
      ∙ ap₂ (λ (x y : ℕ). x + y) head_long
      (length-gather state_size (block_count P.blocks) (λ b. fresh_bytes) (λ b _. fresh_long))

  fresh_group : (g : ℕ) → g < group_count P.groups → group_byte (fresh_for P) g ≡ 0
  unfolding fresh_for
  fresh_group g l =
      get_or-append zeros (gather (block_count P.blocks) (λ b. fresh_bytes)) 0 (groups_at + g)
      (omega (arith, head_long))
      ∙ get_or-replicate h (groups_at + g) 0 0 (omega arith)

  fresh_cell : (b : ℕ) → b < block_count P.blocks → cell (group_count P.groups) (fresh_for P) b ≡ fresh_bytes
  unfolding fresh_for cell
  fresh_cell b l =
      slot-gather h state_size (block_count P.blocks) zeros (λ b. fresh_bytes) head_long (λ k _. fresh_long) b l

  -- the theorem
  pub fresh_state_formed : {n : ℕ} → Sound P.groups P.blocks n →
      state_formed P.groups P.blocks (fresh_for P) ≡ true
  unfolding state_formed cell_formed
  fresh_state_formed s =
      let n = group_count P.groups in
      let B = P.blocks in
      ap₂ (λ (x y : Bool). x && y)
      (all_true (head_formed (fresh_for P)) n (λ g l. ap group_formed (fresh_group g l)))
      (all_true (cell_formed n B (fresh_for P)) (block_count B)
      (λ b l.
      ap (well_formed (kind_of B b) (parameters_of B b)) (fresh_cell b l)
      ∙ fresh_formed _ (kind_of B b) (parameters_of B b) (s.parameters b l)))

-- ---- what `fresh` answers and leaves

module _ (F S : List ℕ) where
  abbrev sized : Bool
  sized = eqb (length S) (state_length (project_of F).groups (project_of F).blocks)

  abbrev sized_then : Bool → Result (Unit {0}) Refusal
  sized_then t = cond t (Ok tt) (Err WrongSize)

  -- the number of the answer
  pub fresh_number_is : number_in (fresh_verdict F S) ≡ fresh_number F S
  unfolding fresh_verdict fresh_number fresh_table first
  fresh_number_is = checked_number F (sized_then sized) (row 10 sized ∷ []) (go sized)
    where
      go : (t : Bool) → number_in (sized_then t) ≡ first (row 10 t ∷ [])
      go true = refl
      go false = refl

  -- of an accepted file it is by the buffer's length
  pub verdict_sized : verdict F ≡ Ok tt → {t : Bool} → sized ≡ t → sized_then t ≡ fresh_verdict F S
  unfolding fresh_verdict
  verdict_sized z {t} e = rw (z, e)

  -- accepted, the fresh state is left, and else what was lent
  pub left_fresh : fresh_verdict F S ≡ Ok tt → fresh_for (project_of F) ≡ fresh_left F S
  unfolding fresh_left
  left_fresh e = let z : fresh_number F S ≡ 0 = sym fresh_number_is ∙ ap number_in e in rw z

  pub left_old : (r : Refusal) → fresh_verdict F S ≡ Err r → S ≡ fresh_left F S
  unfolding fresh_left
  left_old r e =
      let n : refusal_number r ≡ fresh_number F S = sym (ap number_in e) ∙ fresh_number_is in
      rw (ne_eqb (fresh_number F S) 0 (λ z. omega (arith, z, n, refusal_some r)))

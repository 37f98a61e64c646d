-- A cycle has at most as many findings as an accepted file may have blocks, and one that has none leaves zeros. Assumes
-- nothing.
use Rattle.wire.proofs.Usual.{◌≡◌, refl, sym, List, ℕ, ◌*◌}
use Rattle.wire.proofs.Usual.{◌≤◌, arith, replicate}
use Rattle.project.specs.Project.{block_count}
use Rattle.casefile.specs.Bodies.{project_of}
use Rattle.std.specs.Prelude.{Result, Ok, Err}
use Rattle.evaluator.specs.declared.Refusal.{Refusal}
use Rattle.wire.specs.Packed.{hits}
use Rattle.block.specs.Finding.{finding_size}
use Rattle.evaluator.specs.State.{findings_length}
use Rattle.evaluator.specs.Cycle.{enters, finding, finding_count, new_findings}
use Rattle.evaluator.specs.Answer.{Lent, call_verdict, leaves, cycle_of}
use Rattle.wire.proofs.Packing.{packed_none, hits_most, hits_zero}
use Rattle.evaluator.proofs.Calls.{call_taken}

module _ (F R : List ℕ) (L : Lent) where
  few_left : (v : Result (Unit {0}) Refusal) (k : ℕ) → call_verdict F R L ≡ v →
      Ok k ≡ (leaves v (project_of F) R L).answer → k ≤ 64
  unfolding finding_count
  few_left (Ok u) k z e =
      let P = project_of F in
      let hit = enters P.groups P.blocks R L.state in
      let counted : k ≡ hits (block_count P.blocks) hit = cc in
      omega (arith, hits_most (block_count P.blocks) hit, (call_taken F R L z).sound.few_blocks)
  few_left (Err r) k z e = absurd (cc)

  -- an answer that is a count
  pub few_found : (k : ℕ) → Ok k ≡ (cycle_of F R L).answer → k ≤ 64
  unfolding cycle_of
  few_found k e = few_left (call_verdict F R L) k refl e

  none_left : (v : Result (Unit {0}) Refusal) → Ok 0 ≡ (leaves v (project_of F) R L).answer →
      (leaves v (project_of F) R L).lent.findings ≡ replicate (findings_length (project_of F).blocks) 0
  unfolding finding_count new_findings findings_length
  none_left (Ok u) e =
      let P = project_of F in
      let hit = enters P.groups P.blocks R L.state in
      let counted : 0 ≡ hits (block_count P.blocks) hit = cc in
      packed_none (finding_size * block_count P.blocks) (block_count P.blocks) hit
      (finding P.groups P.blocks R L.state) (hits_zero (block_count P.blocks) hit (sym counted))
  none_left (Err r) e = absurd (cc)

  pub none_found : Ok 0 ≡ (cycle_of F R L).answer →
      (cycle_of F R L).lent.findings ≡ replicate (findings_length (project_of F).blocks) 0
  unfolding cycle_of
  none_found e = none_left (call_verdict F R L) e

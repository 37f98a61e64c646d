-- When two projects differ in the order of execution alone, and not along links (01, "What the reviewer must be able to
-- rely on", demand 3).
use Rattle.std.specs.Prelude.{ℕ, ◌+◌, ◌*◌, ◌<◌, ◌≡◌, ◌↔◌, length, Some}
use Rattle.wire.specs.Words.{byte_at}
use Rattle.project.specs.declared.Source.TheVariants.{Output}
use Rattle.project.specs.Project.{Project, block_size, block_count, order_place, order_of, link_of}

-- 01, "The case file", B: i is the place in B of block b's execution number
abbrev pub IsOrderByte : ℕ → ℕ → Type 0
IsOrderByte b i = i ≡ block_size * b + order_place

-- 01, "What the reviewer must be able to rely on", demand 3: equal but for the execution-number bytes, and along every
-- link from block to block the source runs before its reader in one exactly if it does so in the other
pub record Alike (P P' : Project) : Type 0 where
  pub groups : P.groups ≡ P'.groups
  pub inputs : P.inputs ≡ P'.inputs
  pub outputs : P.outputs ≡ P'.outputs
  pub long : length P.blocks ≡ length P'.blocks
  pub bytes :
      (i : ℕ) → ((b : ℕ) → b < block_count P.blocks → IsOrderByte b i → ⊥) →
      byte_at P.blocks i ≡ byte_at P'.blocks i
  pub along :
      (b p a q : ℕ) → b < block_count P.blocks → link_of P.blocks b p ≡ Some (Output a q) →
      (order_of P.blocks a < order_of P.blocks b) ↔ (order_of P'.blocks a < order_of P'.blocks b)

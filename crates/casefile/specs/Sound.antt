-- What functions inside a cycle, and those for a trace (DECISIONS 29), ask of a project. Whoever calls `cycle` need not
-- believe it: the checks of a file give these facts of its bodies G, B and O (01, "Turned down", 3 to 8).
use Rattle.std.specs.Prelude.{ℕ, ◌*◌, ◌<◌, ◌≤◌, ◌≡◌, true, List, length, Some}
use Rattle.kind.specs.Parameters.{parameters_ok}
use Rattle.project.specs.declared.Source.TheVariants.{External, Output}
use Rattle.project.specs.Project.{device, group_count, block_size, block_count, kind_of, group_of, order_of}
use Rattle.project.specs.Project.{parameters_of, link_of, output_size, output_count, output_block}

-- the device has the kind of block b, and its parameters are those of the kind
abbrev pub ParametersKept : List ℕ → List ℕ → ℕ → Type 0
ParametersKept G B b = parameters_ok (device G) (kind_of B b) (parameters_of B b) ≡ true

-- G and B, where there are n external inputs
pub record Sound (G B : List ℕ) (n : ℕ) : Type 0 where
  pub few_groups : group_count G ≤ 8
  pub long : length B ≡ block_size * block_count B
  pub few_blocks : block_count B ≤ 64
  pub group : (b : ℕ) → b < block_count B → group_of B b < group_count G
  pub parameters : (b : ℕ) → b < block_count B → ParametersKept G B b
  pub order_below : (b : ℕ) → b < block_count B → order_of B b < block_count B
  pub order_other : (a b : ℕ) → a < b → b < block_count B → order_of B a ≡ order_of B b → ⊥
  pub external : (b p i : ℕ) → b < block_count B → link_of B b p ≡ Some (External i) → i < n
  pub output : (b p a q : ℕ) → b < block_count B → link_of B b p ≡ Some (Output a q) → a < block_count B

-- O, beside B
pub record Shown (B O : List ℕ) : Type 0 where
  pub long : length O ≡ output_size * output_count O
  pub few : output_count O ≤ 64
  pub block : (o : ℕ) → o < output_count O → output_block O o < block_count B

-- TWOHAND's tests of a pair, input by input. a and b say whether the pair's two inputs are active, v and w whether
-- their effective values are true: the pair's bits are then those of the inputs that are both. Full is: each active
-- input is true. Differing is: both are active, and one is true alone.
-- Assumes nothing.
use Rattle.wire.proofs.Usual.{◌≡◌, refl, Bool, true, false, not, ◌&&◌, ◌||◌, ℕ, ◌+◌}
use Rattle.block.specs.State.{only_if}
use Rattle.block.specs.Twohand.{is_full, differs}

-- two bits
abbrev pub pair_of : Bool → Bool → ℕ
pair_of x y = only_if x 1 + only_if y 2

pub record PairTests (a b v w : Bool) : Type 0 where
  pub full : is_full (pair_of a b) (pair_of (a && v) (b && w)) ≡ (not a || v) && (not b || w)
  pub differing : differs (pair_of a b) (pair_of (a && v) (b && w)) ≡ a && b && ((v && not w) || (not v && w))

pub pair_tests : (a b v w : Bool) → PairTests a b v w
pair_tests true true true true = record { full = refl; differing = refl }
pair_tests true true true false = record { full = refl; differing = refl }
pair_tests true true false true = record { full = refl; differing = refl }
pair_tests true true false false = record { full = refl; differing = refl }
pair_tests true false true true = record { full = refl; differing = refl }
pair_tests true false true false = record { full = refl; differing = refl }
pair_tests true false false true = record { full = refl; differing = refl }
pair_tests true false false false = record { full = refl; differing = refl }
pair_tests false true true true = record { full = refl; differing = refl }
pair_tests false true true false = record { full = refl; differing = refl }
pair_tests false true false true = record { full = refl; differing = refl }
pair_tests false true false false = record { full = refl; differing = refl }
pair_tests false false true true = record { full = refl; differing = refl }
pair_tests false false true false = record { full = refl; differing = refl }
pair_tests false false false true = record { full = refl; differing = refl }
pair_tests false false false false = record { full = refl; differing = refl }

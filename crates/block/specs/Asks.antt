-- What private functions ask of each other; nothing here has to be believed.
use Rattle.std.specs.Prelude.{ℕ, ◌≡◌, false}
use Rattle.block.specs.Twohand.{first_pair, second_pair, differs}

-- 01, "TWOHAND.": no pair of the effective mask x differs
pub record Even (active x : ℕ) : Type 0 where
  pub first : differs (first_pair active) (first_pair x) ≡ false
  pub second : differs (second_pair active) (second_pair x) ≡ false

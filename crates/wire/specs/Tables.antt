-- Tables of refusals (general; 01, "Turned down: numbers and order"): rows in an order, each with a number and whether
-- what it asks is kept. The first row that is not kept decides.
use Rattle.std.specs.Prelude.{ℕ, zero, suc, ◌<◌, ◌≡◌, Bool, true, false, cond, List, [], ◌∷◌}

-- general: a row
pub record Row : Type 0 where
  pub number : ℕ
  pub kept : Bool

abbrev pub row : ℕ → Bool → Row
row n t = record { number = n; kept = t }

-- general: the number of the first row that is not kept; 0 where each is
unfoldable pub first : List Row → ℕ
first [] = 0
first (r ∷ rs) = let later = first rs in cond r.kept later r.number

-- general: the row at place k; past the end every row is kept
abbrev pub row_at : List Row → ℕ → Row
row_at [] k = row 0 true
row_at (r ∷ rs) zero = r
row_at (r ∷ rs) (suc k) = row_at rs k

-- general: n is the number of the first row that is not kept
pub record FirstIn (rs : List Row) (n : ℕ) : Type 0 where
  pub place : ℕ
  pub number : (row_at rs place).number ≡ n
  pub fails : (row_at rs place).kept ≡ false
  pub earlier : (j : ℕ) → j < place → (row_at rs j).kept ≡ true

-- general: every row is kept
abbrev pub AllKept : List Row → Type 0
AllKept rs = (k : ℕ) → (row_at rs k).kept ≡ true

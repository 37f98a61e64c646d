-- A loop that counts the records that pass a test, and how many findings of a month are counted. Assumes nothing.
use Rattle.wire.proofs.Usual.{◌≡◌, refl, sym, ap, ap₂, ◌∙◌, Bool, true, false, cond, List, [], ◌∷◌, ◌++◌}
use Rattle.wire.proofs.Usual.{ℕ, ◌+◌, ◌≤◌, ◌<◌, arith, length, length-append}
use Rattle.std.specs.Int.{from_bool}
use Rattle.std.proofs.Common.{Fits, w32}
use Rattle.wire.specs.Packed.{hits}
use Rattle.wire.proofs.Packing.{hits_more, hits_most, hits_part}
use Rattle.year.specs.declared.Closings.{Closings}
use Rattle.year.specs.Ledger.{month_most, finding_count}
use Rattle.year.specs.Months.{found, dismissed}

-- one more where a test holds
bit : (t : Bool) → from_bool t ≡ cond t 1 0
bit true = refl
bit false = refl

bit_few : (t : Bool) → from_bool t ≤ 1
bit_few true = omega arith
bit_few false = omega arith

-- a loop over records that counts those at whose places a test holds: ys are those that it has had, s the count
module _ (p : ℕ → Bool) {A : Type 0} (ys : List A) {s : ℕ} (h : s ≡ hits (length ys) p) where
  -- of few records: what a turn adds still fits
  pub few_more : {n x : ℕ} (t : Bool) → x ≡ from_bool t → length ys < n → n ≤ month_most → Fits w32 (s + x)
  few_more t d l m = omega (arith, h, d, l, m, bit_few t, hits_most (length ys) p)

  -- t is the test of the next one, y, and x what the code adds
  pub hit_more : {x : ℕ} {t : Bool} (y : A) → x ≡ from_bool t → t ≡ p (length ys) →
      s + x ≡ hits (length (ys ++ y ∷ [])) p
  hit_more y d e =
      ap₂ ◌+◌ h (d ∙ bit _ ∙ ap (λ (u : Bool). cond u 1 0) e) ∙ sym (hits_more (length ys) p)
      ∙ ap (λ (k : ℕ). hits k p) (sym (length-append ys (y ∷ [])))

-- no more findings are counted than there are, and no more dismissed ones than are counted
module _ (c : Closings) (M : List ℕ) where
  pub found_few : found c M ≤ finding_count M
  unfolding found
  found_few = hits_most (finding_count M) _

  pub gone_part : dismissed c M ≤ found c M
  unfolding found dismissed
  gone_part = hits_part (finding_count M) _ _

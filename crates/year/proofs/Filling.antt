-- The laws of `from`, and an array that `from_fn` fills. Assumes nothing.
use Rattle.wire.proofs.Usual.{◌≡◌, refl, sym, ap, ap₂, ◌∙◌, List, ◌∷◌, ℕ, zero, suc, ◌+◌, ◌<◌, ◌≤◌}
use Rattle.wire.proofs.Usual.{arith}
use Rattle.wire.proofs.Usual.{zero-add, length, subst, dec_lt}
use native.Mathlib.Nat.{not-suc-le-zero, add-zero, add-suc}
use lib.ListN.{get_or}
use lib.Seq.{ext_get_or}
use denote.Param.Members.{Mut}
use Rattle.std.specs.Fn.{Called}
use Rattle.std.specs.Array.{IsFromFnResult, IsFromFnResultFrom}
use Rattle.year.specs.Year.{from}

module _ {A : Type 0} (d : A) where
  length_from : (k n : ℕ) (f : ℕ → A) → length (from k n f) ≡ n
  length_from k zero f = refl
  length_from k (suc n) f = ap suc (length_from (suc k) n f)

  pub get_or_from : (k n i : ℕ) (f : ℕ → A) → i < n → get_or (from k n f) i d ≡ f (k + i)
  get_or_from k zero i f l = absurd (not-suc-le-zero l)
  get_or_from k (suc n) zero f l = rw (add-zero k)
  get_or_from k (suc n) (suc i) f l =
      rw (add-suc k i) (get_or_from (suc k) n i f (omega arith) ∙ ap f (omega arith))

  -- a list is the run of its elements
  pub is_from : (xs : List A) (n : ℕ) (f : ℕ → A) → length xs ≡ n →
      ((i : ℕ) → i < n → get_or xs i d ≡ f i) → xs ≡ from 0 n f
  is_from xs n f e h =
      ext_get_or d xs (from 0 n f) (e ∙ sym (length_from 0 n f))
      (λ i l. h i (omega arith) ∙ sym (get_or_from 0 n i f (omega arith) ∙ ap f (zero-add i)))

-- two runs of equal elements
pub from_same : {A : Type 0} (k n : ℕ) (f g : ℕ → A) → ((m : ℕ) → m < k + n → f m ≡ g m) →
    from k n f ≡ from k n g
from_same k zero f g h = refl
from_same k (suc n) f g h =
    ap₂ ◌∷◌ (h k (omega arith)) (from_same (suc k) n f g (λ m l. h m (omega arith)))

-- what `from_fn` fills, where each call gives h of its place and changes nothing
module _ {F A : Type 0} {g : Mut F (ℕ × Unit {0}) A} {f : F} (d : A) (h : ℕ → A)
    (calls : (x : ℕ) (b : A) (q : F) → Called g f (x, tt) b q → (q ≡ f) × (b ≡ h x)) where
  filled : (ys : List A) (i m : ℕ) (p : F) → p ≡ f → IsFromFnResultFrom g p ys i m →
      (j : ℕ) → i ≤ j → j < i + m → get_or ys j d ≡ h j
  filled ys i zero p e r j a l = absurd (omega arith)
  filled ys i (suc m) p e r j a l = go (dec_lt i j) (filled ys (i + 1) m r.0 first.0 r.4 j)
    where
      first : (r.0 ≡ f) × (r.1 ≡ h i)
      first = calls i r.1 r.0 (subst (λ (q : F). Called g q (i, tt) r.1 r.0) e r.3)

      go : Dec (i < j) → (i + 1 ≤ j → j < i + 1 + m → get_or ys j d ≡ h j) → get_or ys j d ≡ h j
      go (yes q) later = later (omega arith) (omega arith)
      go (no q) later =
          let same : i ≡ j = omega (arith, q) in
          subst (λ (k : ℕ). get_or ys k d ≡ h k) same (r.2.1 d ∙ first.1)

  pub from_fn_is : {ys : List A} {n : ℕ} → IsFromFnResult g f ys n → ys ≡ from 0 n h
  from_fn_is {ys} {n} r = is_from d ys n h r.long (λ i l. filled ys 0 n f refl r.each i (omega arith) (omega arith))

-- Numbers below n, at n places, no two alike: each number below n stands at one of the places, the first of which is
-- found by `first_bad`. Assumes nothing.
use Rattle.wire.proofs.Usual.{◌≡◌, Bool, true, cond, not, ℕ, zero, suc, ◌-◌, ◌<◌, ◌≤◌, dec_lt, arith, eqb-true}
use Rattle.wire.proofs.Usual.{lt-ltb, not-true, eqb, ltb}
use borrow.Author.Tests.{eqb-false, le-ltb, not-false}
use Rattle.wire.specs.Places.{first_bad}
use Rattle.wire.proofs.Places.{found}

-- the n values of f from 0 on are below m, and no two are alike
pub record Apart (f : ℕ → ℕ) (n m : ℕ) : Type 0 where
  pub below : (a : ℕ) → a < n → f a < m
  pub other : (a b : ℕ) → a < b → b < n → f a ≡ f b → ⊥

-- with the number v taken out, those above it move down by one
squeeze : ℕ → ℕ → ℕ
squeeze v x = cond (ltb v x) (x - 1) x

-- what squeeze gives: one of two numbers
data Squeezed (v x : ℕ) : ℕ → Type 0 where
  down : v < x → Squeezed v x (x - 1)
  same : x ≤ v → Squeezed v x x

squeezed : (v x : ℕ) → Squeezed v x (squeeze v x)
unfolding squeeze
squeezed v x = go (dec_lt v x)
  where
    go : Dec (v < x) → Squeezed v x (cond (ltb v x) (x - 1) x)
    go (yes l) = rw (lt-ltb v x l) (down l)
    go (no h) = rw (le-ltb v x (omega (arith, h))) (same (omega (arith, h)))

squeeze_lt : {m v x s : ℕ} → Squeezed v x s → x < suc m → v < suc m → (x ≡ v → ⊥) → s < m
squeeze_lt (down l) a b h = omega arith
squeeze_lt (same l) a b h = omega (arith, h)

squeeze_inj : {v x y s t : ℕ} → Squeezed v x s → Squeezed v y t → (x ≡ v → ⊥) →
    (y ≡ v → ⊥) → s ≡ t → x ≡ y
squeeze_inj (down a) (down b) h k e = omega arith
squeeze_inj (down a) (same b) h k e = absurd (k (omega arith))
squeeze_inj (same a) (down b) h k e = absurd (h (omega arith))
squeeze_inj (same a) (same b) h k e = e

-- taken out of f's values a number that none of them is
module _ {f : ℕ → ℕ} {n m : ℕ} (v : ℕ) (i : Apart f n (suc m)) (l : v < suc m)
    (h : (a : ℕ) → a < n → f a ≡ v → ⊥) where
  without : Apart (λ (a : ℕ). squeeze v (f a)) n m
  without = record {
    below = λ a q. squeeze_lt (squeezed v (f a)) (i.below a q) l (h a q);
    other = λ a b q r e.
        i.other a b q r (squeeze_inj (squeezed v (f a)) (squeezed v (f b)) (h a (omega arith)) (h b r) e);
  }

-- one place more than numbers
none : (m : ℕ) (f : ℕ → ℕ) → Apart f (suc m) m → ⊥
none zero f i = omega (arith, i.below 0 (omega arith))
none (suc m) f i =
    none m (λ (a : ℕ). squeeze (f (suc m)) (f a))
    (without (f (suc m))
    (record { below = λ a q. i.below a (omega arith); other = λ a b q r. i.other a b q (omega arith) })
    (i.below (suc m) (omega arith))
    (λ a q. i.other a (suc m) q (omega arith)))

absent : (f : ℕ → ℕ) (n e : ℕ) → Apart f n n → e < n → ((a : ℕ) → a < n → f a ≡ e → ⊥) → ⊥
absent f zero e i l h = omega arith
absent f (suc m) e i l h = none m (λ (a : ℕ). squeeze e (f a)) (without e i l h)

-- the first place of e among the n values of f
unfoldable pub place_of : (ℕ → ℕ) → ℕ → ℕ → ℕ
place_of f n e = first_bad (λ (a : ℕ). not (eqb (f a) e)) n

module _ {f : ℕ → ℕ} {n : ℕ} (i : Apart f n n) (e : ℕ) (l : e < n) where
  pub place_lt : place_of f n e < n
  unfolding place_of
  place_lt = go (dec_lt (first_bad p n) n)
    where
      p : ℕ → Bool
      p a = not (eqb (f a) e)

      go : Dec (first_bad p n < n) → first_bad p n < n
      go (yes q) = q
      go (no q) =
          let w = found p n in
          let all : (a : ℕ) → a < n → p a ≡ true =
          λ a r. w.each a (omega arith) (omega (arith, q, w.within)) in
          absurd (absent f n e i l (λ a r. eqb-false (f a) e (not-true (eqb (f a) e) (all a r))))

  pub place_is : f (place_of f n e) ≡ e
  unfolding place_of
  place_is =
      let w = found (λ (a : ℕ). not (eqb (f a) e)) n in
      eqb-true _ e (not-false (eqb (f (place_of f n e)) e) (w.fails place_lt))

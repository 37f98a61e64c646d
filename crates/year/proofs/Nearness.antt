-- No 64-bit float is nearer to a quotient than the one that `round` gives. Assumes nothing.
use Rattle.wire.proofs.Usual.{◌≡◌, refl, sym, ap, ◌∙◌, subst, false, not, ℕ, suc, ◌+◌, ◌-◌, ◌*◌, ◌/◌}
use Rattle.wire.proofs.Usual.{◌%◌, ◌<◌, ◌≤◌, dec_lt, arith, eqb, ltb-true}
use mathlib.Core.Logic.{◌⊎◌, inl, inr}
use Prim.Native.Nat.{◌^◌, compare, Ordering}
use native.Mathlib.Nat.{mul_assoc, mul_comm, suc-mul, zero-mul, add-mul, one-mul, mul-one, le_refl, lt_of_le_of_lt}
use native.Mathlib.Nat.{div-one}
use native.Mathlib.Nat.{mul-le-mul, mul-pos, mod-lt, div-add-mod', div-mul-le_self, div-div-eq-div-mul}
use native.Mathlib.Nat.{le-div_iff_mul-le}
use lib.Arith.{lt_of_le-ne}
use lib.Dec.{T, is_le, compare_is_eq, leb→le, nleb→lt, eqb→eq, eqb_refl}
use lib.Pow.{pow-add, pow_mono, pow_pos}
use lib.Ieee.{binary64, nearest, round}
use lib.Ieee.Digits.{size_reaches}
use lib.Ieee.Fits.{nearest-le, round-fits}
use lib.Ieee.Nearest.{div_mono}
use lib.Ieee.Order.{drop, kept}
use lib.Ieee.Scale.{grid, overflow, round_val}
use Rattle.year.specs.Nearest.{apart, Nearest}

-- ---- what `compare` says

abbrev Cmp : Ordering → ℕ → ℕ → Type 0
Cmp Ordering.lt a b = a < b
Cmp Ordering.eq a b = a ≡ b
Cmp Ordering.gt a b = b < a

cmp : (a b : ℕ) → Cmp (compare a b) a b
cmp a b =
    go (compare a b) (leb→le a b) (nleb→lt a b) (eqb→eq a b)
    (λ (e : a ≡ b). subst (λ (x : ℕ). T (eqb a x)) e (eqb_refl a))
  where
    go : (o : Ordering) → (T (is_le o) → a ≤ b) → (T (not (is_le o)) → b < a) → (T (compare_is_eq o) → a ≡ b) →
        (a ≡ b → T (compare_is_eq o)) → Cmp o a b
    go Ordering.lt h k e n = lt_of_le-ne (h tt) n
    go Ordering.eq h k e n = e tt
    go Ordering.gt h k e n = k tt

-- ---- the multiple of u that is chosen is as near as the two next to w * u + r

near : (w u r : ℕ) (o : Ordering) → r < u → Cmp o (r * 2) u →
    (apart (nearest w o * u) (w * u + r) ≤ r) × (apart (nearest w o * u) (w * u + r) ≤ u - r)
near w u r Ordering.lt l c = (omega arith, omega arith)
near w u r Ordering.eq l c = go (dec_lt 0 (w % 2))
  where
    more : (w + w % 2) * u ≡ w * u + w % 2 * u
    more = add-mul w (w % 2) u

    go : Dec (0 < w % 2) →
        (apart ((w + w % 2) * u) (w * u + r) ≤ r) × (apart ((w + w % 2) * u) (w * u + r) ≤ u - r)
    go (yes p) =
        let one : w % 2 ≡ 1 = omega (arith, mod-lt w {m = 2} (omega arith), p) in
        let e : w % 2 * u ≡ u = ap (λ (x : ℕ). x * u) one ∙ one-mul u in
        (omega (arith, more, e), omega (arith, more, e))
    go (no p) =
        let none : w % 2 ≡ 0 = omega (arith, p) in
        let e : w % 2 * u ≡ 0 = ap (λ (x : ℕ). x * u) none ∙ zero-mul u in
        (omega (arith, more, e), omega (arith, more, e))
near w u r Ordering.gt l c =
    let e : suc w * u ≡ w * u + u = suc-mul w u in
    (omega (arith, e), omega (arith, e))

-- ---- a float is a multiple of 2 ^ k, or below 2 ^ 52 of them

pow_step : (i j : ℕ) → i ≤ j → 2 ^ j ≡ 2 ^ (j - i) * 2 ^ i
pow_step i j l = let e : j ≡ j - i + i = omega arith in ap (λ (x : ℕ). 2 ^ x) e ∙ pow-add 2 (j - i) i

gap : (w k q j : ℕ) → q < 2 ^ 53 → (0 < k → 2 ^ 52 ≤ w) →
    (q * 2 ^ j ≤ w * 2 ^ k) ⊎ (suc w * 2 ^ k ≤ q * 2 ^ j)
gap w k q j l h = go (dec_lt j k)
  where
    among : Dec (w < q * 2 ^ (j - k)) → k ≤ j → (q * 2 ^ j ≤ w * 2 ^ k) ⊎ (suc w * 2 ^ k ≤ q * 2 ^ j)
    among x n = let e : q * 2 ^ j ≡ q * 2 ^ (j - k) * 2 ^ k =
        ap (λ (y : ℕ). q * y) (pow_step k j n) ∙ sym (mul_assoc q (2 ^ (j - k)) (2 ^ k)) in side x e
      where
        side : Dec (w < q * 2 ^ (j - k)) → q * 2 ^ j ≡ q * 2 ^ (j - k) * 2 ^ k →
            (q * 2 ^ j ≤ w * 2 ^ k) ⊎ (suc w * 2 ^ k ≤ q * 2 ^ j)
        side (yes p) e = inr (rw e (mul-le-mul p (le_refl (2 ^ k))))
        side (no p) e = inl (rw e (mul-le-mul {n₂ = w} (omega (arith, p)) (le_refl (2 ^ k))))

    go : Dec (j < k) → (q * 2 ^ j ≤ w * 2 ^ k) ⊎ (suc w * 2 ^ k ≤ q * 2 ^ j)
    go (yes p) =
        let top : q * 2 ^ j ≤ 2 ^ 53 * 2 ^ j = mul-le-mul {n₂ = 2 ^ 53} (omega (arith, l)) (le_refl (2 ^ j)) in
        let same : 2 ^ 53 * 2 ^ j ≡ 2 ^ (53 + j) = sym (pow-add 2 53 j) in
        let up : 2 ^ (53 + j) ≤ 2 ^ (52 + k) = pow_mono {i = 53 + j} {j = 52 + k} (omega arith) in
        let split : 2 ^ (52 + k) ≡ 2 ^ 52 * 2 ^ k = pow-add 2 52 k in
        let under : 2 ^ 52 * 2 ^ k ≤ w * 2 ^ k = mul-le-mul {n₂ = w} (h (omega arith)) (le_refl (2 ^ k)) in
        inl (omega (arith, top, same, up, split, under))
    go (no p) = among (dec_lt w (q * 2 ^ (j - k))) (omega (arith, p))

-- ---- n * 2 ^ 1074 of the smallest floats, divided by c: k of its binary digits are dropped

module _ (N c : ℕ) (some : 0 < c) where
  -- the unit that is kept, and how often it goes into N
  abbrev unit : ℕ
  unit = c * 2 ^ drop 53 N c

  abbrev whole : ℕ
  whole = N / unit

  unit_some : 0 < unit
  unit_some = mul-pos some (pow_pos (drop 53 N c))

  parts : whole * unit + N % unit ≡ N
  parts = div-add-mod' N unit

  -- where a digit is dropped, there are 53 others
  reached : 0 < drop 53 N c → 2 ^ (52 + drop 53 N c) ≤ N / c
  reached l = size_reaches (N / c) (52 + drop 53 N c) (omega (arith, l))

  digits : 0 < drop 53 N c → 2 ^ 52 ≤ whole
  digits l =
      let e : N / c / 2 ^ drop 53 N c ≡ whole = div-div-eq-div-mul N c (2 ^ drop 53 N c) in
      let s : 2 ^ (52 + drop 53 N c) ≡ 2 ^ 52 * 2 ^ drop 53 N c = pow-add 2 52 (drop 53 N c) in
      rw e at ((le-div_iff_mul-le (pow_pos (drop 53 N c))).1 (rw s at (reached l)))

  -- what is rounded to, in units of the smallest float
  abbrev rounded : ℕ
  rounded = kept 53 N c * 2 ^ drop 53 N c

  rounded_by : rounded * c ≡ kept 53 N c * unit
  rounded_by =
      mul_assoc (kept 53 N c) (2 ^ drop 53 N c) c
      ∙ ap (λ (x : ℕ). kept 53 N c * x) (mul_comm (2 ^ drop 53 N c) c)

  chosen : (apart (rounded * c) N ≤ N % unit) × (apart (rounded * c) N ≤ unit - N % unit)
  chosen =
      rw rounded_by
      (subst (λ (x : ℕ). (apart (kept 53 N c * unit) x ≤ N % unit)
      × (apart (kept 53 N c * unit) x ≤ unit - N % unit)) parts
      (near whole unit (N % unit) (compare (N % unit * 2) unit) (mod-lt N unit_some) (cmp (N % unit * 2) unit)))

  pub no_nearer : (q j : ℕ) → q < 2 ^ 53 → apart (rounded * c) N ≤ apart (q * 2 ^ j * c) N
  no_nearer q j l = go (gap whole (drop 53 N c) q j l digits)
    where
      by : (x : ℕ) → x * 2 ^ drop 53 N c * c ≡ x * unit
      by x =
          mul_assoc x (2 ^ drop 53 N c) c ∙ ap (λ (y : ℕ). x * y) (mul_comm (2 ^ drop 53 N c) c)

      go : (q * 2 ^ j ≤ whole * 2 ^ drop 53 N c) ⊎ (suc whole * 2 ^ drop 53 N c ≤ q * 2 ^ j) →
          apart (rounded * c) N ≤ apart (q * 2 ^ j * c) N
      go (inl h) =
          omega (arith, mul-le-mul h (le_refl c), by whole, parts, chosen.0)
      go (inr h) =
          omega (
            arith,
            mul-le-mul h (le_refl c),
            by (suc whole),
            suc-mul whole unit,
            parts,
            mod-lt N unit_some,
            chosen.1,
          )

  -- and that is not much more than N / c
  pub rounded_most : rounded ≤ 2 * (N / c) + 1
  rounded_most =
      let k = drop 53 N c in
      let e : N / c / 2 ^ k ≡ whole = div-div-eq-div-mul N c (2 ^ k) in
      let w : whole * 2 ^ k ≤ N / c = rw e at (div-mul-le_self (N / c) (2 ^ k)) in
      let one : rounded ≤ suc whole * 2 ^ k =
      mul-le-mul (nearest-le whole (compare (N % unit * 2) unit)) (le_refl (2 ^ k)) in
      omega (arith, w, one, suc-mul whole (2 ^ k), unit_most (dec_lt 0 k))
    where
      unit_most : Dec (0 < drop 53 N c) → 2 ^ drop 53 N c ≤ N / c + 1
      unit_most (yes l) =
          omega (arith, reached l, pow_mono {i = drop 53 N c} {j = 52 + drop 53 N c} (omega arith))
      unit_most (no l) =
          let none : drop 53 N c ≡ 0 = omega (arith, l) in
          rw none (omega arith)

-- ---- so a share is rounded to the nearest float

-- a quotient that is at most 1 is far from the largest float; p stands for 2 ^ 1074, in which nothing is computed here
share_most : (d n p : ℕ) → 0 < n → d ≤ n → d * p / n ≤ p
share_most d n p some part =
    rw (div-one p) at
    (div_mono (d * p) n p 1 some (omega arith)
    (omega (arith, mul-one (d * p), mul_comm p n, mul-le-mul part (le_refl p))))

twice_most : (x m p : ℕ) → x ≤ 2 * m + 1 → m ≤ p → x ≤ 2 * p + 1
twice_most x m p l h = omega arith

fits_below : (x : ℕ) → x ≤ 2 * 2 ^ 1074 + 1 → x < overflow binary64
fits_below x l = lt_of_le_of_lt l (ltb-true (2 * 2 ^ 1074 + 1) (overflow binary64) refl)

pub round_nearest : (d n : ℕ) → 0 < n → d ≤ n → Nearest d n (round binary64 false d n)
round_nearest d n some part = record {
  held = round-fits binary64 false d n;
  units = grid binary64 d n;
  value =
      round_val binary64 d n (fits_below (grid binary64 d n)
      (twice_most (grid binary64 d n) (d * 2 ^ 1074 / n) (2 ^ 1074) (rounded_most (d * 2 ^ 1074) n some)
      (share_most d n (2 ^ 1074) some part)));
  nearest = no_nearer (d * 2 ^ 1074) n some;
}

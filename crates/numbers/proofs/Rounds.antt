-- What the paper says of the three roundings, of the definition `quotient`: the sign of the divisor can be moved to the
-- dividend, so that the rest speaks of divisors above 0; floor is the library's division toward 0; ceil is the least
-- whole number that is not below the quotient; round is a nearest whole number, and of two that are equally near the
-- one further from 0, and it is what a doubled remainder gives. By cases on the signs; what is left is on magnitudes,
-- m = m / d * d + m % d with m % d < d. Assumes nothing.
use mathlib.Core.Path.{◌≡◌, refl, sym, ap, ◌∙◌, subst}
use mathlib.Core.Bool.{Bool, true, false, not, cond}
use Prim.Native.Nat.{ℕ, zero, suc, ◌+◌, ◌-◌, ◌*◌, ◌/◌, ◌%◌, ◌≤◌, ◌<◌}
use native.Mathlib.Nat.{add-zero, add-suc, mul-suc, div-zero, div-add-mod', mod-lt, add-mul, one-mul, suc-mul, le_trans}
use native.Mathlib.Nat.{mul-le-mul_right, lt_of_mul-lt-mul_right, div-mul-le_self, le-div_iff_mul-le, not-suc-le-zero}
use native.Mathlib.Nat.{lt_of_not-le}
use native.Mathlib.Omega.{arith}
use native.Mathlib.Decide.{dec_le}
use borrow.Author.Tests.{lt-ltb, le-ltb, le-leb, lt-leb}
use lib.Dec.{ltb, leb, leb→le, le→leb, eqb-suc-zero}
use lib.IntN.{ℤ, pos, negsuc, neg_ℤ, nat_abs, sub_ℕ, ◌-ℤ◌, ◌*ℤ◌, neg_ℤ-neg_ℤ}
use lib.Signed.{◌≤ℤ◌, quot_z}
use Rattle.numbers.proofs.Laws.{sgn_div, by_zero, neg_le, neg_le_pos, neg_mul, pos_neg, neg_pos, neg_neg}
use Rattle.numbers.proofs.Laws.{sub_le, sub_lt, abs_sgn}
use Rattle.numbers.specs.Types.{sgn}
use Rattle.numbers.specs.Results.{away, rounded_div, quotient}
use Rattle.numbers.specs.declared.Rounding.{Rounding}
use Rattle.numbers.specs.declared.Rounding.TheVariants.{Floor, Ceil, Round}

-- ---- the sign of the divisor

turn : (r : Rounding) (s t : Bool) (m d : ℕ) →
    quotient r (sgn s m) (sgn (not t) d) ≡ quotient r (sgn (not s) m) (sgn t d)
turn r s t m zero = sym (by_zero r (sgn s m) (not t)) ∙ by_zero r (sgn (not s) m) t
turn r false false m (suc d) =
    sym (sgn_div r false true m (suc d) (omega arith)) ∙ sgn_div r true false m (suc d) (omega arith)
turn r false true m (suc d) =
    sym (sgn_div r false false m (suc d) (omega arith)) ∙ sgn_div r true true m (suc d) (omega arith)
turn r true false m (suc d) =
    sym (sgn_div r true true m (suc d) (omega arith)) ∙ sgn_div r false false m (suc d) (omega arith)
turn r true true m (suc d) =
    sym (sgn_div r true false m (suc d) (omega arith)) ∙ sgn_div r false true m (suc d) (omega arith)

pub sign_moved : (r : Rounding) (a b : ℤ) → quotient r a (neg_ℤ b) ≡ quotient r (neg_ℤ a) b
sign_moved r (pos m) (pos d) = turn r false false m d
sign_moved r (pos m) (negsuc d) = turn r false true m (suc d)
sign_moved r (negsuc m) (pos d) = turn r true false (suc m) d
sign_moved r (negsuc m) (negsuc d) = turn r true true (suc m) (suc d)

-- ---- floor cuts the fraction off

pub floor_cuts : (a b : ℤ) → quotient Floor a b ≡ quot_z a b
unfolding quotient rounded_div
floor_cuts (pos m) (pos zero) = rw (div-zero m)
floor_cuts (pos m) (pos (suc d)) = rw (eqb-suc-zero d, add-zero (m / suc d))
floor_cuts (pos m) (negsuc d) = rw (eqb-suc-zero d, add-zero (m / suc d))
floor_cuts (negsuc m) (pos zero) = rw (div-zero (suc m))
floor_cuts (negsuc m) (pos (suc d)) = rw (eqb-suc-zero d, add-zero (suc m / suc d))
floor_cuts (negsuc m) (negsuc d) = rw (eqb-suc-zero d, add-zero (suc m / suc d))

-- ---- ceil is the smallest whole number not below the quotient

abbrev up : ℕ → ℕ → ℕ
up m d = m / d + cond (ltb 0 (m % d)) 1 0

up_reaches : (m d : ℕ) → 0 < d → m ≤ up m d * d
up_reaches m d h = pick (dec_le (m % d) 0)
  where
    pick : Dec (m % d ≤ 0) → m ≤ up m d * d
    pick (yes p) = rw (le-ltb 0 (m % d) p, add-zero (m / d)) (omega (arith, div-add-mod' m d))
    pick (no n) =
        rw (lt-ltb 0 (m % d) (lt_of_not-le n), add-mul (m / d) 1 d, one-mul d)
        (omega (arith, div-add-mod' m d, mod-lt m h))

up_least : (m d k : ℕ) → 0 < d → m ≤ k * d → up m d ≤ k
up_least m d k h g = pick (dec_le (m % d) 0)
  where
    pick : Dec (m % d ≤ 0) → up m d ≤ k
    pick (yes p) =
        let l : m / d * d < (k + 1) * d = rw (add-mul k 1 d, one-mul d) (omega (arith, div-add-mod' m d)) in
        rw (le-ltb 0 (m % d) p) (omega (arith, lt_of_mul-lt-mul_right d l))
    pick (no n) =
        let q = lt_of_not-le n in
        let l : m / d * d < k * d = omega (arith, div-add-mod' m d) in
        rw (lt-ltb 0 (m % d) q) (omega (arith, lt_of_mul-lt-mul_right d l))

ceil_pos : (m d : ℕ) → quotient Ceil (pos m) (pos (suc d)) ≡ pos (up m (suc d))
unfolding quotient rounded_div
ceil_pos m d = rw (eqb-suc-zero d)

ceil_neg : (m d : ℕ) → quotient Ceil (negsuc m) (pos (suc d)) ≡ neg_ℤ (pos (suc m / suc d))
unfolding quotient rounded_div
ceil_neg m d = rw (eqb-suc-zero d, add-zero (suc m / suc d))

-- not below the quotient x / d
pub ceil_not_below : (x : ℤ) (d : ℕ) → 0 < d → x ≤ℤ (quotient Ceil x (pos d) *ℤ pos d)
ceil_not_below x zero h = absurd (not-suc-le-zero h)
ceil_not_below (pos m) (suc d) h =
    record { le = rw (ceil_pos m d) (le→leb m (up m (suc d) * suc d) (up_reaches m (suc d) h)) }
ceil_not_below (negsuc m) (suc d) h =
    record {
      le = rw (ceil_neg m d, neg_mul (suc m / suc d) (suc d), neg_le (suc m) (suc m / suc d * suc d))
          (le→leb (suc m / suc d * suc d) (suc m) (div-mul-le_self (suc m) (suc d)));
    }

-- and every whole number that is not below it is at least as large
pub ceil_least : (x z : ℤ) (d : ℕ) → 0 < d → x ≤ℤ (z *ℤ pos d) → quotient Ceil x (pos d) ≤ℤ z
ceil_least x z zero h t = absurd (not-suc-le-zero h)
ceil_least (pos m) (pos k) (suc d) h t =
    record {
      le = rw (ceil_pos m d) (le→leb (up m (suc d)) k
          (up_least m (suc d) k h (leb→le m (k * suc d) t.le)));
    }
ceil_least (pos m) (negsuc k) (suc d) h t =
    absurd (subst (λ (n : ℕ). pos m ≤ℤ neg_ℤ (pos n)) (mul-suc (suc k) d ∙ add-suc (suc k * d) k) t).le
ceil_least (negsuc m) (pos k) (suc d) h t = record { le = rw (ceil_neg m d, neg_le_pos (suc m / suc d) k) tt }
ceil_least (negsuc m) (negsuc k) (suc d) h t =
    let g = leb→le (suc k * suc d) (suc m) (rw (neg_le (suc m) (suc k * suc d)) at t.le) in
    record {
      le = rw (ceil_neg m d, neg_le (suc m / suc d) (suc k))
          (le→leb (suc k) (suc m / suc d) ((le-div_iff_mul-le h).1 g));
    }

-- ---- round goes to the nearest whole number, half away from 0

abbrev near : ℕ → ℕ → ℕ
near m d = m / d + cond (away Round false (m % d) d) 1 0

-- the sign is the dividend's
round_is : (s : Bool) (m d : ℕ) → 0 < d → quotient Round (sgn s m) (pos d) ≡ sgn s (near m d)
unfolding rounded_div
round_is false m d h = sym (sgn_div Round false false m d h)
round_is true m d h = sym (sgn_div Round true false m d h)

-- without signs, near - 1/2 ≤ m / d < near + 1/2
near_half : (m d : ℕ) → 0 < d → (2 * (near m d * d) ≤ 2 * m + d) × (2 * m < 2 * (near m d * d) + d)
near_half m d h = pick (dec_le (d - m % d) (m % d))
  where
    pick : Dec (d - m % d ≤ m % d) → (2 * (near m d * d) ≤ 2 * m + d) × (2 * m < 2 * (near m d * d) + d)
    pick (yes p) = rw (le-leb (d - m % d) (m % d) p, add-mul (m / d) 1 d, one-mul d)
        (omega (arith, div-add-mod' m d, mod-lt m h))
    pick (no n) =
        let q = lt_of_not-le n in
        rw (lt-leb (d - m % d) (m % d) q, add-zero (m / d)) (omega (arith, div-add-mod' m d))

-- how far two magnitudes are apart
abbrev apart : ℕ → ℕ → ℕ
apart m n = (m - n) + (n - m)

next_by : (d : ℕ) {j k : ℕ} → j < k → j * d + d ≤ k * d
next_by d {j} {k} h = rw (← suc-mul j d) (mul-le-mul_right d h)

near_nearest : (m d k : ℕ) → 0 < d → apart m (near m d * d) ≤ apart m (k * d)
near_nearest m d k h = pick (dec_le k (near m d)) (dec_le (near m d) k)
  where
    pick : Dec (k ≤ near m d) → Dec (near m d ≤ k) → apart m (near m d * d) ≤ apart m (k * d)
    pick (yes p) (yes q) = let e : k ≡ near m d = omega arith in rw e (omega arith)
    pick (no p) (yes q) = omega (arith, near_half m d h, next_by d (lt_of_not-le p))
    pick (yes p) (no q) = omega (arith, near_half m d h, next_by d (lt_of_not-le q))
    pick (no p) (no q) = omega (arith, near_half m d h, next_by d (lt_of_not-le p))

abs_sub : (m n : ℕ) → nat_abs (sub_ℕ m n) ≡ apart m n
abs_sub m n = pick (dec_le n m)
  where
    pick : Dec (n ≤ m) → nat_abs (sub_ℕ m n) ≡ apart m n
    pick (yes p) = ap nat_abs (sub_le p) ∙ omega arith
    pick (no p) = let q = lt_of_not-le p in ap nat_abs (sub_lt q) ∙ abs_sgn true (n - m) ∙ omega arith

-- numbers of one sign are as far apart as their magnitudes
apart_same : (s : Bool) (m n : ℕ) → nat_abs (sgn s m -ℤ sgn s n) ≡ apart m n
apart_same false m n = ap nat_abs (pos_neg m n) ∙ abs_sub m n
apart_same true m n = rw (neg_ℤ-neg_ℤ (pos n), neg_pos m n) (abs_sub n m ∙ omega arith)

-- and numbers of any signs at least so far
apart_least : (s t : Bool) (m n : ℕ) → apart m n ≤ nat_abs (sgn s m -ℤ sgn t n)
apart_least false false m n = rw (apart_same false m n) (omega arith)
apart_least false true m n = rw (neg_ℤ-neg_ℤ (pos n)) (omega arith)
apart_least true false m n = rw (neg_neg m n, abs_sgn true (m + n)) (omega arith)
apart_least true true m n = rw (apart_same true m n) (omega arith)

scaled : (s : Bool) (n d : ℕ) → sgn s n *ℤ pos d ≡ sgn s (n * d)
scaled false n d = refl
scaled true n d = neg_mul n d

-- how far the rounded quotient is off, in parts of d
off : (s : Bool) (m d : ℕ) → 0 < d →
    nat_abs (sgn s m -ℤ quotient Round (sgn s m) (pos d) *ℤ pos d) ≡ apart m (near m d * d)
off s m d h = rw (round_is s m d h, scaled s (near m d) d) (apart_same s m (near m d * d))

nearest : (s t : Bool) (m k d : ℕ) → 0 < d →
    nat_abs (sgn s m -ℤ quotient Round (sgn s m) (pos d) *ℤ pos d) ≤ nat_abs (sgn s m -ℤ sgn t k *ℤ pos d)
nearest s t m k d h = rw (off s m d h, scaled t k d) (le_trans (near_nearest m d k h) (apart_least s t m (k * d)))

-- no whole number z is nearer to x / d than the rounded quotient is
pub round_nearest : (x z : ℤ) (d : ℕ) → 0 < d →
    nat_abs (x -ℤ quotient Round x (pos d) *ℤ pos d) ≤ nat_abs (x -ℤ z *ℤ pos d)
round_nearest (pos m) (pos k) d h = nearest false false m k d h
round_nearest (pos m) (negsuc k) d h = nearest false true m (suc k) d h
round_nearest (negsuc m) (pos k) d h = nearest true false (suc m) k d h
round_nearest (negsuc m) (negsuc k) d h = nearest true true (suc m) (suc k) d h

half : (s : Bool) (m d : ℕ) → 0 < d →
    2 * nat_abs (sgn s m -ℤ quotient Round (sgn s m) (pos d) *ℤ pos d) ≡ d →
    m < nat_abs (quotient Round (sgn s m) (pos d)) * d
half s m d h e =
    let g : 2 * apart m (near m d * d) ≡ d = rw (off s m d h) at e in
    rw (round_is s m d h, abs_sgn s (near m d)) (omega (arith, near_half m d h))

-- and where x / d is half way between two, the one further from 0 is taken
pub round_half : (x : ℤ) (d : ℕ) → 0 < d →
    2 * nat_abs (x -ℤ quotient Round x (pos d) *ℤ pos d) ≡ d → nat_abs x < nat_abs (quotient Round x (pos d)) * d
round_half (pos m) d h e = half false m d h e
round_half (negsuc m) d h e = half true (suc m) d h e

-- ---- and it is what a doubled remainder gives

-- Twice the remainder is at least the divisor exactly if the remainder is at least what is left to the divisor.
doubled : (remainder divisor : ℕ) → leb (divisor - remainder) remainder ≡ leb divisor (2 * remainder)
doubled r d = pick (dec_le d (2 * r))
  where
    pick : Dec (d ≤ 2 * r) → leb (d - r) r ≡ leb d (2 * r)
    pick (yes p) = le-leb (d - r) r (omega arith) ∙ sym (le-leb d (2 * r) p)
    pick (no n) = let q = lt_of_not-le n in lt-leb (d - r) r (omega arith) ∙ sym (lt-leb d (2 * r) q)

-- 02, W5, "no answer changes": of every dividend and divisor, here without their signs, the rounded quotient is the one
-- by a doubled remainder. Of the three roundings this one alone asks for a half.
pub no_answer_changes : (neg : Bool) (dividend divisor : ℕ) →
    rounded_div Round neg dividend divisor ≡
    sgn neg (dividend / divisor + cond (leb divisor (2 * (dividend % divisor))) 1 0)
unfolding rounded_div
no_answer_changes neg m d = rw (doubled (m % d) d)

-- Sign and magnitude against ℤ: what the code computes on magnitudes is the library's sum, product, order and
-- quotient, and the definitions of `specs/` at a sign and a magnitude. Every law is by cases on the signs. Assumes
-- nothing.
use mathlib.Core.Path.{◌≡◌, refl, sym, ap, ◌∙◌}
use mathlib.Core.Bool.{Bool, true, false, not, beq, cond}
use mir.Val.{bool_byte as from_bool}
use Prim.Native.Nat.{ℕ, zero, suc, ◌+◌, ◌-◌, ◌*◌, ◌/◌, ◌%◌, ◌≤◌, ◌<◌, zero-le}
use native.Mathlib.Nat.{zero-mul, add-zero, sub-zero, zero-div, zero-mod, not-suc-le-zero}
use native.Mathlib.Omega.{arith}
use borrow.Author.Tests.{lt-ltb, le-ltb, le-leb, lt-leb}
use lib.Dec.{ltb, leb, leb-suc-suc, eqb-suc-zero, lit<, lit≤}
use lib.IntN.{ℤ, pos, negsuc, neg_ℤ, nat_abs, sub_ℕ, ◌+ℤ◌, ◌*ℤ◌, +ℤ_comm, neg_ℤ-+ℤ}
use lib.Signed.{lt_z, le_z}
use Rattle.numbers.specs.Types.{sgn, is_neg, signed, z_of, is_signed, under, over, value, word_of}
use Rattle.numbers.specs.Results.{differ, settled, away, rounded_div, quotient}
use Rattle.numbers.specs.declared.Rounding.{Rounding}
use Rattle.numbers.specs.declared.Rounding.TheVariants.{Floor, Ceil, Round}
use Rattle.numbers.specs.declared.Signed.{Signed}
use Rattle.numbers.specs.declared.NumType.{NumType}
use Rattle.numbers.specs.declared.NumType.TheVariants.{Int16, Uint16, Int32, Uint32}
use Rattle.numbers.specs.declared.OutOfRange.TheVariants.{Below, Above}
use Rattle.std.proofs.Common.{Ok, Err}

-- ---- sign and magnitude of a number

-- they make the number
pub z_signed : (z : ℤ) → z_of (signed z) ≡ z
z_signed (pos n) = refl
z_signed (negsuc n) = refl

pub loaded : (s : Signed) (z : ℤ) → s ≡ signed z → z_of s ≡ z
loaded s z e = ap z_of e ∙ z_signed z

pub abs_sgn : (s : Bool) (m : ℕ) → nat_abs (sgn s m) ≡ m
abs_sgn false m = refl
abs_sgn true zero = refl
abs_sgn true (suc m) = refl

pub below_zero : (m : ℕ) → 0 < m → is_neg (neg_ℤ (pos m)) ≡ true
below_zero zero h = absurd (not-suc-le-zero h)
below_zero (suc m) h = refl

-- ---- a difference of two magnitudes

pub sub_le : {a b : ℕ} → b ≤ a → sub_ℕ a b ≡ pos (a - b)
sub_le {a} {b} h = rw (le-ltb a b h)

pub sub_lt : {a b : ℕ} → a < b → sub_ℕ a b ≡ neg_ℤ (pos (b - a))
sub_lt {a} {b} h =
    let e : b - a ≡ suc (b - suc a) = omega arith in
    rw (lt-ltb a b h, e)

-- ---- sums

pub pos_neg : (m n : ℕ) → pos m +ℤ neg_ℤ (pos n) ≡ sub_ℕ m n
pos_neg m zero = ap pos (add-zero m ∙ sym (sub-zero m)) ∙ sym (sub_le (omega arith))
pos_neg m (suc n) = refl

pub neg_pos : (m n : ℕ) → neg_ℤ (pos m) +ℤ pos n ≡ sub_ℕ n m
neg_pos m n = +ℤ_comm (neg_ℤ (pos m)) (pos n) ∙ pos_neg n m

pub neg_neg : (m n : ℕ) → neg_ℤ (pos m) +ℤ neg_ℤ (pos n) ≡ neg_ℤ (pos (m + n))
neg_neg m n = sym (neg_ℤ-+ℤ (pos m) (pos n))

-- ---- products

pub neg_mul : (m n : ℕ) → neg_ℤ (pos m) *ℤ pos n ≡ neg_ℤ (pos (m * n))
neg_mul zero n = rw (zero-mul n)
neg_mul (suc m) n = refl

-- ---- a word's value, as `load` finds it

pub value_low : (t : NumType) {w : ℕ} → is_signed t ≡ true → w < 2147483648 → value t w ≡ pos w
unfolding value
value_low t {w} e h = rw (e, lt-leb 2147483648 w h)

pub value_high : (t : NumType) {w : ℕ} → is_signed t ≡ true → 2147483648 ≤ w → w < 4294967296 →
    value t w ≡ neg_ℤ (pos (4294967296 - w))
unfolding value
value_high t {w} e h k = rw (e, le-leb 2147483648 w h) (sub_lt k)

pub value_plain : (t : NumType) {w : ℕ} → is_signed t ≡ false → value t w ≡ pos w
unfolding value
value_plain t e = rw e

-- ---- order

-- what is not above 0 is not above a number that is not below 0
pub not_less : (m n : ℕ) → lt_z (pos m) (neg_ℤ (pos n)) ≡ false
not_less m zero = le-ltb m 0 zero-le
not_less m (suc n) = refl

pub neg_less : (m n : ℕ) → lt_z (neg_ℤ (pos m)) (neg_ℤ (pos n)) ≡ ltb n m
neg_less zero n = not_less 0 n ∙ sym (le-ltb n 0 zero-le)
neg_less (suc m) zero = sym (lt-ltb 0 (suc m) (omega arith))
neg_less (suc m) (suc n) = sym (leb-suc-suc (suc n) m)

pub neg_le : (m n : ℕ) → le_z (neg_ℤ (pos m)) (neg_ℤ (pos n)) ≡ leb n m
neg_le zero zero = refl
neg_le zero (suc n) = sym (lt-leb (suc n) 0 (omega arith))
neg_le (suc m) zero = sym (le-leb 0 (suc m) zero-le)
neg_le (suc m) (suc n) = sym (leb-suc-suc n m)

pub neg_le_pos : (m n : ℕ) → le_z (neg_ℤ (pos m)) (pos n) ≡ true
neg_le_pos zero n = le-leb 0 n zero-le
neg_le_pos (suc m) n = refl

-- ---- settling

-- every type fits in 32 bits
pub under_small : (t : NumType) → under t ≤ 2147483648
under_small Int16 = lit≤ tt
under_small Uint16 = lit≤ tt
under_small Int32 = lit≤ tt
under_small Uint32 = lit≤ tt

pub over_small : (t : NumType) → over t < 4294967296
over_small Int16 = lit< tt
over_small Uint16 = lit< tt
over_small Int32 = lit< tt
over_small Uint32 = lit< tt

pub word_neg : (m : ℕ) → m ≤ 4294967296 → word_of (neg_ℤ (pos m)) ≡ (4294967296 - m) % 4294967296
word_neg zero h = refl
word_neg (suc m) h = omega arith

pub settles_below : (t : NumType) (m : ℕ) → under t < m → Err Below ≡ settled t (neg_ℤ (pos m))
unfolding settled
settles_below t m h = rw (neg_less m (under t), lt-ltb (under t) m h)

pub settles_neg : (t : NumType) (m : ℕ) → m ≤ under t → Ok ((4294967296 - m) % 4294967296)
    ≡ settled t (neg_ℤ (pos m))
unfolding settled
settles_neg t m h =
    rw (neg_less m (under t), le-ltb (under t) m h, not_less (over t) m)
    (ap Ok (sym (word_neg m (omega (arith, under_small t)))))

pub settles_above : (t : NumType) (m : ℕ) → over t < m → Err Above ≡ settled t (pos m)
unfolding settled
settles_above t m h = rw (not_less m (under t), lt-ltb (over t) m h)

pub settles_pos : (t : NumType) (m : ℕ) → m ≤ over t → Ok m ≡ settled t (pos m)
unfolding settled
settles_pos t m h = rw (not_less m (under t), le-ltb (over t) m h)

-- ---- quotients

-- 0 by d is 0, however it is rounded
zero_by : (r : Rounding) (n : Bool) (j : ℕ) → rounded_div r n 0 (suc j) ≡ pos 0
unfolding rounded_div
zero_by Floor true j = rw (zero-div (suc j))
zero_by Floor false j = rw (zero-div (suc j))
zero_by Ceil true j = rw (zero-div (suc j))
zero_by Ceil false j = rw (zero-div (suc j), zero-mod (suc j))
zero_by Round true j = rw (zero-div (suc j), zero-mod (suc j), lt-leb (suc j - 0) 0 (omega arith))
zero_by Round false j = rw (zero-div (suc j), zero-mod (suc j), lt-leb (suc j - 0) 0 (omega arith))

pub sgn_div : (r : Rounding) (s t : Bool) (m d : ℕ) → 0 < d →
    rounded_div r (differ s t) m d ≡ quotient r (sgn s m) (sgn t d)
unfolding quotient
sgn_div r s t m zero h = absurd (not-suc-le-zero h)
sgn_div r false false m (suc j) h = rw (eqb-suc-zero j)
sgn_div r false true m (suc j) h = rw (eqb-suc-zero j)
sgn_div r true false zero (suc j) h = rw (eqb-suc-zero j) (zero_by r true j ∙ sym (zero_by r false j))
sgn_div r true false (suc m) (suc j) h = rw (eqb-suc-zero j)
sgn_div r true true zero (suc j) h = rw (eqb-suc-zero j) (zero_by r false j ∙ sym (zero_by r true j))
sgn_div r true true (suc m) (suc j) h = rw (eqb-suc-zero j)

pub by_zero : (r : Rounding) (a : ℤ) (t : Bool) → pos 0 ≡ quotient r a (sgn t 0)
unfolding quotient
by_zero r a false = refl
by_zero r a true = refl

-- the quotient with its fraction cut off, and one more where it is rounded away from 0
pub rounded : (r : Rounding) (n : Bool) (m d k : ℕ) → k ≡ from_bool (away r n (m % d) d) →
    sgn n (m / d + k) ≡ rounded_div r n m d
unfolding rounded_div
rounded r n m d k e = rw e (go (away r n (m % d) d))
  where
    go : (b : Bool) → sgn n (m / d + from_bool b) ≡ sgn n (m / d + cond b 1 0)
    go true = refl
    go false = refl

-- whether two signs differ, as the code asks it
pub not_same : (s t : Bool) → not (beq s t) ≡ differ s t
not_same true true = refl
not_same true false = refl
not_same false true = refl
not_same false false = refl

-- `decimal` is decimal notation and no other: reading it back gives the number, it is a numeral, and a numeral is the
-- `decimal` of what it spells. Each law is by the last digit: a number below 10 is one digit, any other is that of a
-- tenth and its last digit.
-- Assumes nothing.
use Rattle.wire.proofs.Usual.{◌≡◌, refl, sym, ap, ◌∙◌, true, false, true≢false, List, [], ◌∷◌, ◌++◌}
use Rattle.wire.proofs.Usual.{append-nil, ℕ, zero, suc, ◌+◌, ◌-◌, ◌*◌, ◌/◌, ◌%◌, ◌≤◌, ◌<◌, dec_lt, arith, lt-ltb}
use Rattle.wire.proofs.Usual.{length, length-append}
use mathlib.Core.List.{append_assoc}
use Prim.Native.Nat.{◌^◌}
use native.Mathlib.Nat.{pow-succ'}
use borrow.Author.Tests.{le-ltb}
use lib.IntN.{ℤ, pos, negsuc, nat_abs}
use Rattle.numbers.specs.Types.{is_neg}
use Rattle.report.specs.Decimal.{digit, digits_within, decimal, signed_decimal, read_on, value_of, Digits, Numeral}

-- ---- one digit more

within_small : (most n : ℕ) → n < 10 → digits_within (suc most) n ≡ digit n ∷ []
unfolding digits_within
within_small most n h = rw (lt-ltb n 10 h)

within_more : (most n : ℕ) → 10 ≤ n → digits_within (suc most) n ≡ digits_within most (n / 10)
    ++ (digit (n % 10) ∷ [])
unfolding digits_within
within_more most n h = rw (le-ltb n 10 h)

-- what is enough room is as good as more
same_at : (a b n : ℕ) → Dec (n < 10) → n < a → n < b → digits_within a n ≡ digits_within b n
same_at zero b n d p q = absurd (omega arith)
same_at (suc a) zero n d p q = absurd (omega arith)
same_at (suc a) (suc b) n (yes h) p q = within_small a n h ∙ sym (within_small b n h)
same_at (suc a) (suc b) n (no h) p q =
    within_more a n (omega (arith, h))
    ∙ ap (λ (s : List ℕ). s ++ (digit (n % 10) ∷ []))
    (same_at a b (n / 10) (dec_lt (n / 10) 10) (omega (arith, h)) (omega (arith, h)))
    ∙ sym (within_more b n (omega (arith, h)))

pub decimal_small : (n : ℕ) → n < 10 → decimal n ≡ digit n ∷ []
unfolding decimal
decimal_small n h = within_small n n h

pub decimal_more : (n : ℕ) → 10 ≤ n → decimal n ≡ decimal (n / 10) ++ (digit (n % 10) ∷ [])
unfolding decimal
decimal_more n h =
    within_more n n h
    ∙ ap (λ (s : List ℕ). s ++ (digit (n % 10) ∷ []))
    (same_at n (suc (n / 10)) (n / 10) (dec_lt (n / 10) 10) (omega arith) (omega arith))

-- what holds of one digit, and of a number where it holds of its tenth, holds of every number
module _ (P : ℕ → Type 0) (small : (n : ℕ) → n < 10 → P n)
    (more : (n : ℕ) → 10 ≤ n → P (n / 10) → P n) where
  from_tenth : (fuel n : ℕ) → Dec (n < 10) → n < fuel → P n
  from_tenth zero n d h = absurd (omega arith)
  from_tenth (suc fuel) n (yes l) h = small n l
  from_tenth (suc fuel) n (no l) h =
      more n (omega (arith, l)) (from_tenth fuel (n / 10) (dec_lt (n / 10) 10) (omega (arith, l)))

  by_tenth : (n : ℕ) → P n
  by_tenth n = from_tenth (suc n) n (dec_lt n 10) (omega arith)

-- ---- how many digits

tenth : (n : ℕ) → 10 ≤ n → length (decimal n) ≡ suc (length (decimal (n / 10)))
tenth n h = ap length (decimal_more n h) ∙ length-append (decimal (n / 10)) (digit (n % 10) ∷ []) ∙ omega arith

pub decimal_one : (n : ℕ) → n < 10 → length (decimal n) ≡ 1
decimal_one n h = ap length (decimal_small n h)

-- a number below 10 ^ (k + 1) has at most k + 1 digits, so one of 32 bits at most 10
most_at : (k n : ℕ) → Dec (n < 10) → n < 10 ^ suc k → length (decimal n) ≤ suc k
most_at zero n d h = omega (arith, decimal_one n h)
most_at (suc k) n (yes l) h = omega (arith, decimal_one n l)
most_at (suc k) n (no l) h =
    let high : n < 10 * 10 ^ suc k = rw (pow-succ' 10 (suc k)) at h in
    omega (arith, tenth n (omega (arith, l)), most_at k (n / 10) (dec_lt (n / 10) 10) (omega arith))

pub decimal_ten : (n : ℕ) → n < 4294967296 → length (decimal n) ≤ 10
decimal_ten n h = most_at 9 n (dec_lt n 10) (omega arith)

-- ---- read back

read_last : (v c : ℕ) (cs : List ℕ) → read_on v (cs ++ (c ∷ [])) ≡ 10 * read_on v cs + (c - 48)
read_last v c [] = refl
read_last v c (b ∷ cs) = read_last (10 * v + (b - 48)) c cs

-- the digits of a number spell the number
pub decimal-value : (n : ℕ) → value_of (decimal n) ≡ n
decimal-value =
    by_tenth (λ (n : ℕ). value_of (decimal n) ≡ n) (λ n h. ap value_of (decimal_small n h) ∙ omega arith)
    more_read
  where
    more_read : (n : ℕ) → 10 ≤ n → value_of (decimal (n / 10)) ≡ n / 10 → value_of (decimal n) ≡ n
    more_read n h e = ap value_of (decimal_more n h) ∙ read_last 0 (digit (n % 10)) (decimal (n / 10)) ∙ omega arith

-- ---- decimal notation

digits_last : {cs : List ℕ} (c : ℕ) → Digits cs → 48 ≤ c → c ≤ 57 → Digits (cs ++ (c ∷ []))
digits_last c Digits.none p q = Digits.more p q Digits.none
digits_last c (Digits.more a b d) p q = Digits.more a b (digits_last c d p q)

-- a digit behind a numeral that is not `0` alone
numeral_last : {cs : List ℕ} (c : ℕ) → Numeral cs → 1 ≤ value_of cs → 48 ≤ c → c ≤ 57 →
    Numeral (cs ++ (c ∷ []))
numeral_last c Numeral.nought v p q = absurd (omega arith)
numeral_last c (Numeral.number a b d) v p q = Numeral.number a b (digits_last c d p q)

-- the digits of a number are a numeral
pub decimal_numeral : (n : ℕ) → Numeral (decimal n)
decimal_numeral = by_tenth (λ (n : ℕ). Numeral (decimal n)) one_digit more_digits
  where
    one_digit : (n : ℕ) → n < 10 → Numeral (decimal n)
    one_digit zero h = rw (decimal_small 0 h) Numeral.nought
    one_digit (suc n) h =
        rw (decimal_small (suc n) h) (Numeral.number {c = digit (suc n)} (omega arith) (omega arith) Digits.none)

    more_digits : (n : ℕ) → 10 ≤ n → Numeral (decimal (n / 10)) → Numeral (decimal n)
    more_digits n h e =
        rw (decimal_more n h)
        (numeral_last (digit (n % 10)) e (rw (decimal-value (n / 10)) (omega arith)) (omega arith) (omega arith))

-- digits behind a number that is not 0 are the last digits of what is read with them
reads_on : (v : ℕ) {cs : List ℕ} → 1 ≤ v → Digits cs → decimal (read_on v cs) ≡ decimal v ++ cs
reads_on v h Digits.none = sym (append-nil (decimal v))
reads_on v h (Digits.more {c = c} {cs = ds} p q d) =
    let w = 10 * v + (c - 48) in
    let front : w / 10 ≡ v = omega arith in
    let last : digit (w % 10) ≡ c = omega arith in
    reads_on w (omega arith) d
    ∙ ap (λ (s : List ℕ). s ++ ds) (decimal_more w (omega arith))
    ∙ append_assoc (decimal (w / 10)) (digit (w % 10) ∷ []) ds
    ∙ rw (front, last)

-- every numeral is the digits of what it spells: no number has a second notation
pub decimal_only : {cs : List ℕ} → Numeral cs → cs ≡ decimal (value_of cs)
decimal_only Numeral.nought = sym (decimal_small 0 (omega arith))
decimal_only (Numeral.number {c = c} {cs = cs} p q d) =
    let v : 10 * 0 + (c - 48) ≡ c - 48 = omega arith in
    let e : digit (c - 48) ≡ c = omega arith in
    sym (rw v (reads_on (c - 48) (omega arith) d ∙ rw (decimal_small (c - 48) (omega arith), e)))

-- ---- with a sign

-- a number below 0 is a minus sign and its magnitude, any other its magnitude
pub signed_minus : (z : ℤ) → is_neg z ≡ true → 45 ∷ decimal (nat_abs z) ≡ signed_decimal z
unfolding signed_decimal
signed_minus (pos n) e = absurd (true≢false (sym e))
signed_minus (negsuc n) e = refl

pub signed_plain : (z : ℤ) → is_neg z ≡ false → decimal (nat_abs z) ≡ signed_decimal z
unfolding signed_decimal
signed_plain (pos n) e = refl
signed_plain (negsuc n) e = absurd (true≢false e)

-- a number whose magnitude has 32 bits has at most 11 characters
pub signed_eleven : (z : ℤ) → nat_abs z < 4294967296 → length (signed_decimal z) ≤ 11
unfolding signed_decimal
signed_eleven (pos n) h = omega (arith, decimal_ten n h)
signed_eleven (negsuc n) h = omega (arith, decimal_ten (suc n) h)

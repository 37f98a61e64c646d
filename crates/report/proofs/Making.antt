-- A line in the making: text behind what there is, and the last digits of a number as the definitions have them.
-- Assumes nothing.
use Rattle.wire.proofs.Usual.{◌≡◌, refl, sym, ap, ◌∙◌, List, [], ◌∷◌, ◌++◌, ℕ, zero, suc, ◌+◌, ◌-◌}
use Rattle.wire.proofs.Usual.{◌*◌, ◌/◌, ◌%◌, ◌≤◌, ◌<◌}
use Rattle.wire.proofs.Usual.{arith, length, take, drop, length-append, length-take-le, sets, lt-ltb}
use Prim.Native.Nat.{◌^◌}
use native.Mathlib.Nat.{pow-succ', one-le-pow}
use mathlib.Core.List.{append_assoc}
use lib.Seq.{sets-eq, take_at}
use Rattle.io.specs.Digits.{last_digits, IsDigitCount, hex_digit_ascii}
use Rattle.report.specs.Decimal.{decimal}
use Rattle.report.specs.LedgerLines.{hexadecimal}
use Rattle.report.proofs.Decimal.{decimal_small, decimal_more}
use Rattle.report.proofs.Hexadecimal.{hex_more, hex_none}

-- text stored behind the first n bytes, where it has room
pub added : (l t : List ℕ) (n : ℕ) → n + length t ≤ length l → take (n + length t) (sets l n t) ≡ take n l ++ t
added l t n h =
    ap (take (n + length t)) (sets-eq t l n h)
    ∙ take_at (take n l ++ t) (drop (n + length t) l) (n + length t)
    (length-append (take n l) t ∙ ap (λ (k : ℕ). k + length t) (length-take-le n l (omega arith)))

-- as many digits of a number as are asked for
pub length_last : (b k n : ℕ) → length (last_digits b k n) ≡ k
length_last b zero n = refl
length_last b (suc k) n =
    length-append (last_digits b k (n / b)) (hex_digit_ascii (n % b) ∷ []) ∙ omega (arith, length_last b k (n / b))

-- in base 10 they are the number in decimal
digits_decimal : (k n : ℕ) → n < 10 ^ suc k → (1 < suc k → 10 ^ k ≤ n) → last_digits 10 (suc k) n ≡ decimal n
digits_decimal zero n h low =
    let e : n % 10 ≡ n = omega arith in
    rw e (rw (lt-ltb n 10 (omega arith)) (sym (decimal_small n (omega arith))))
digits_decimal (suc k) n h low =
    let high : n < 10 * 10 ^ suc k = rw (pow-succ' 10 (suc k)) at h in
    let least : 10 * 10 ^ k ≤ n = rw (pow-succ' 10 k) at (low (omega arith)) in
    let one : 1 ≤ 10 ^ k = one-le-pow k 10 (omega arith) in
    ap (λ (s : List ℕ). s ++ (hex_digit_ascii (n % 10) ∷ []))
    (digits_decimal k (n / 10) (omega arith) (λ m. omega arith))
    ∙ rw (lt-ltb (n % 10) 10 (omega arith)) (sym (decimal_more n (omega arith)))

module _ {n k : ℕ} (h : IsDigitCount 10 1 n k) where
  pub last-decimal : last_digits 10 k n ≡ decimal n
  last-decimal = go k h
    where
      go : (k : ℕ) → IsDigitCount 10 1 n k → last_digits 10 k n ≡ decimal n
      go zero h = absurd (omega arith)
      go (suc k) h =
          let less : suc k - 1 ≡ k = omega arith in
          digits_decimal k n h.1 (λ m. rw less at (h.2 m))

-- in base 16 they are its hexadecimal digits
pub last_hexadecimal : (k n : ℕ) → last_digits 16 k n ≡ hexadecimal k n
last_hexadecimal zero n = sym (hex_none n)
last_hexadecimal (suc k) n =
    ap (λ (s : List ℕ). s ++ (hex_digit_ascii (n % 16) ∷ [])) (last_hexadecimal k (n / 16)) ∙ sym (hex_more k n)

-- of the last k digits the last is d
pub last-digit : {d : ℕ} (b k n : ℕ) → 0 < k → d ≡ hex_digit_ascii (n % b) →
    last_digits b k n ≡ last_digits b (k - 1) (n / b) ++ (d ∷ [])
last-digit b zero n h e = absurd (omega arith)
last-digit b (suc k) n h e =
    let less : suc k - 1 ≡ k = omega arith in
    rw less (ap (λ (c : ℕ). last_digits b k (n / b) ++ (c ∷ [])) (sym e))

-- ---- a line

-- a text, and the text behind it
pub next : {a b s : List ℕ} (t : List ℕ) → a ≡ s → b ≡ a ++ t → b ≡ s ++ t
next t e f = f ∙ ap (λ (x : List ℕ). x ++ t) e

-- a character, and the text behind it
pub next_of : {b d : List ℕ} (a : List ℕ) (x : ℕ) (t : List ℕ) → b ≡ a ++ (x ∷ []) → d ≡ b ++ t → d ≡ a ++ (x ∷ t)
next_of a x t e f = next t e f ∙ append_assoc a (x ∷ []) t

-- Numbers as text, in ASCII: `0` is 48, `9` is 57, `-` is 45. 01, "The trace program", prints a text ID "in decimal"
-- and inputs "signed by type". `decimal` says how a number is spelled; `value_of` reads a spelling back, and `Numeral`
-- says which spellings are decimal notation, so that proofs/Decimal can prove that `decimal` is that notation and no
-- other. `/` and `%` cut, `cond` is if-then-else, ℤ is the library's: `pos n` is n, `negsuc n` is -(n + 1).
-- Assumes nothing.
use Rattle.std.specs.Prelude.{ℕ, zero, suc, ◌+◌, ◌-◌, ◌*◌, ◌/◌, ◌%◌, ◌≤◌, cond, List, [], ◌∷◌, ◌++◌, ltb, ℤ, pos}
use Rattle.std.specs.Prelude.{negsuc}

-- general: the character of a digit
abbrev pub digit : ℕ → ℕ
digit d = 48 + d

-- general: the digits of n, of which there are at most `most`: a number below 10 is its one digit, any other has the
-- digits of n / 10 and then its last
unfoldable pub digits_within : ℕ → ℕ → List ℕ
digits_within zero n = []
digits_within (suc most) n =
    let longer = digits_within most (n / 10) ++ (digit (n % 10) ∷ []) in cond (ltb n 10) (digit n ∷ []) longer

-- 01, "The trace program": a number in decimal. No number n has more than n + 1 digits.
unfoldable pub decimal : ℕ → List ℕ
decimal n = digits_within (suc n) n

-- 01, "The trace program": a number with its sign, where it has one
unfoldable pub signed_decimal : ℤ → List ℕ
signed_decimal (pos n) = decimal n
signed_decimal (negsuc n) = 45 ∷ decimal (suc n)

-- general: the number that stands before the digits is v; each digit makes ten times as much of it, and adds itself
abbrev pub read_on : ℕ → List ℕ → ℕ
read_on v [] = v
read_on v (c ∷ cs) = read_on (10 * v + (c - 48)) cs

-- general: the number that digits spell
abbrev pub value_of : List ℕ → ℕ
value_of cs = read_on 0 cs

-- general: every character is a digit
pub data Digits : List ℕ → Type 0 where
  none : Digits []
  more : {c : ℕ} {cs : List ℕ} → 48 ≤ c → c ≤ 57 → Digits cs → Digits (c ∷ cs)

-- general: decimal notation is `0`, or digits of which the first is not `0`
pub data Numeral : List ℕ → Type 0 where
  nought : Numeral (48 ∷ [])
  number : {c : ℕ} {cs : List ℕ} → 49 ≤ c → c ≤ 57 → Digits cs → Numeral (c ∷ cs)

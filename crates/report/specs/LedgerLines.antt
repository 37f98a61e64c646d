-- The lines that the ledger program prints for a month and for a bend. 02, W4: "the program prints counts in decimal,
-- the rate's 64 bits in hexadecimal". DECISIONS 54: the words of the lines, and 16 digits in lower case, the highest
-- first. Characters are in ASCII: `0` is 48, `9` is 57, `a` is 97, `f` is 102. `hexadecimal` says how a number is
-- spelled; `hex_value` reads a spelling back, and `HexDigits` says which spellings there are, so that
-- proofs/Hexadecimal can prove that `hexadecimal` is that notation and no other. `/` and `%` cut, `cond` is
-- if-then-else.
-- Assumes nothing.
use Rattle.std.specs.Prelude.{ℕ, zero, suc, ◌+◌, ◌-◌, ◌*◌, ◌/◌, ◌%◌, ◌≤◌, cond, List, [], ◌∷◌, ◌++◌, ltb}
use Rattle.report.specs.Decimal.{decimal}
use Rattle.report.specs.Lines.{field, line_feed}

-- ---- hexadecimal

-- general: the character of a hexadecimal digit, a lower-case letter from 10 on
abbrev pub hex_digit : ℕ → ℕ
hex_digit d = cond (ltb d 10) (48 + d) (87 + d)

-- general: so many hexadecimal digits of a number, the highest first, zeros kept
unfoldable pub hexadecimal : ℕ → ℕ → List ℕ
hexadecimal zero x = []
hexadecimal (suc n) x = hexadecimal n (x / 16) ++ (hex_digit (x % 16) ∷ [])

-- general: the digit that a character is
abbrev pub digit_of : ℕ → ℕ
digit_of c = cond (ltb c 58) (c - 48) (c - 87)

-- general: the number that stands before the digits is v; each digit makes sixteen times as much of it, and adds itself
abbrev pub hex_on : ℕ → List ℕ → ℕ
hex_on v [] = v
hex_on v (c ∷ cs) = hex_on (16 * v + digit_of c) cs

-- general: the number that hexadecimal digits spell
abbrev pub hex_value : List ℕ → ℕ
hex_value cs = hex_on 0 cs

-- general: 0 to 9, a to f
pub data HexCharacter : ℕ → Type 0 where
  figure : {c : ℕ} → 48 ≤ c → c ≤ 57 → HexCharacter c
  letter : {c : ℕ} → 97 ≤ c → c ≤ 102 → HexCharacter c

-- general: every character is a hexadecimal digit in lower case
pub data HexDigits : List ℕ → Type 0 where
  none : HexDigits []
  more : {c : ℕ} {cs : List ℕ} → HexCharacter c → HexDigits cs → HexDigits (c ∷ cs)

-- ---- lines

-- DECISIONS 54: the words of the lines

-- m o n t h
abbrev pub month_word : List ℕ
month_word = 109 ∷ 111 ∷ 110 ∷ 116 ∷ 104 ∷ []

-- b e n d
abbrev pub bend_word : List ℕ
bend_word = 98 ∷ 101 ∷ 110 ∷ 100 ∷ []

-- n o n e
abbrev pub none_word : List ℕ
none_word = 110 ∷ 111 ∷ 110 ∷ 101 ∷ []

-- 02, W4: what a month's line begins with; DECISIONS 54: `month`, the month from 1, its findings, those dismissed
unfoldable pub month_front : ℕ → ℕ → ℕ → List ℕ
month_front month findings dismissed =
    month_word ++ field (decimal month) ++ field (decimal findings) ++ field (decimal dismissed)

-- 02, W4: a month with the 64 bits of its rate in hexadecimal; DECISIONS 54: in 16 digits
unfoldable pub rate_line : ℕ → ℕ → ℕ → ℕ → List ℕ
rate_line month findings dismissed bits =
    month_front month findings dismissed ++ field (hexadecimal 16 bits) ++ line_feed

-- 02, W4: "a month with no finding has no rate"; DECISIONS 54: `none`
unfoldable pub no_rate_line : ℕ → ℕ → ℕ → List ℕ
no_rate_line month findings dismissed = month_front month findings dismissed ++ field none_word ++ line_feed

-- 02, W4: the month of the bend; DECISIONS 54: `bend` and the month
unfoldable pub bend_line : ℕ → List ℕ
bend_line month = bend_word ++ field (decimal month) ++ line_feed

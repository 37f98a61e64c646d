-- How long a line is, and that a buffer which is long enough holds it. Every number of 32 bits has at most 10 digits,
-- so that no line has more than 96 bytes.
-- Assumes nothing.
use Rattle.wire.proofs.Usual.{◌≡◌, refl, List, ℕ, ◌≤◌, ◌<◌, arith, length, take, length-append, sets}
use Prim.Native.Nat.{◌^◌}
use Rattle.wire.proofs.Stores.{take-sets}
use Rattle.numbers.specs.Types.{value}
use Rattle.numbers.specs.declared.NumType.{NumType}
use Rattle.numbers.proofs.Range.{value_small}
use Rattle.report.specs.Decimal.{signed_decimal}
use Rattle.report.specs.Lines.{finding_line, end_line, refused_line, Printed}
use Rattle.report.specs.LedgerLines.{month_front, rate_line, no_rate_line, bend_line}
use Rattle.report.proofs.Decimal.{decimal_ten, signed_eleven}
use Rattle.report.proofs.Hexadecimal.{hex_length}

-- the number of a stored word, signed by its type, has at most 11 characters
pub word_eleven : (t : NumType) (w : ℕ) → w < 2 ^ 32 → length (signed_decimal (value t w)) ≤ 11
word_eleven t w h = signed_eleven (value t w) (value_small t w h)

pub finding_short : (cycle block text diagnosis : ℕ) (ta : NumType) (x : ℕ) (tb : NumType) (y : ℕ) →
    cycle < 2 ^ 32 → block < 2 ^ 32 → text < 2 ^ 32 → diagnosis < 2 ^ 32 → x < 2 ^ 32 → y < 2 ^ 32 →
    length (finding_line cycle block text diagnosis ta x tb y) ≤ 96
unfolding finding_line
finding_short cycle block text diagnosis ta x tb y c b t d p q =
    simp length-append
    (omega (
      arith,
      decimal_ten cycle c,
      decimal_ten block b,
      decimal_ten text t,
      decimal_ten diagnosis d,
      word_eleven ta x p,
      word_eleven tb y q,
    ))

pub end_short : (cycles findings : ℕ) → cycles < 2 ^ 32 → findings < 2 ^ 32 →
    length (end_line cycles findings) ≤ 96
unfolding end_line
end_short cycles findings c f = simp length-append (omega (arith, decimal_ten cycles c, decimal_ten findings f))

pub refused_short : (number : ℕ) → number < 2 ^ 32 → length (refused_line number) ≤ 96
unfolding refused_line
refused_short number n = simp length-append (omega (arith, decimal_ten number n))

-- what a month's line begins with has at most 38 bytes
pub front_short : (month findings dismissed : ℕ) → month < 2 ^ 32 → findings < 2 ^ 32 → dismissed < 2 ^ 32 →
    length (month_front month findings dismissed) ≤ 38
unfolding month_front
front_short month findings dismissed m f d =
    simp length-append (omega (arith, decimal_ten month m, decimal_ten findings f, decimal_ten dismissed d))

-- how long the pieces of a line are
pub ruleset lengths = (length-append, decimal_ten, word_eleven, front_short, hex_length)

pub rate_short : (month findings dismissed bits : ℕ) → month < 2 ^ 32 → findings < 2 ^ 32 →
    dismissed < 2 ^ 32 → length (rate_line month findings dismissed bits) ≤ 96
unfolding rate_line
rate_short month findings dismissed bits m f d =
    simp length-append (omega (arith, front_short month findings dismissed m f d, hex_length 16 bits))

pub no_rate_short : (month findings dismissed : ℕ) → month < 2 ^ 32 → findings < 2 ^ 32 → dismissed < 2 ^ 32 →
    length (no_rate_line month findings dismissed) ≤ 96
unfolding no_rate_line
no_rate_short month findings dismissed m f d =
    simp length-append (omega (arith, front_short month findings dismissed m f d))

pub bend_short : (month : ℕ) → month < 2 ^ 32 → length (bend_line month) ≤ 96
unfolding bend_line
bend_short month m = simp length-append (omega (arith, decimal_ten month m))

-- a buffer that is long enough holds the line at its front
pub line_front : (line buffer : List ℕ) → length line ≤ length buffer →
    take (length line) (sets buffer 0 line) ≡ line
line_front line buffer h = take-sets line buffer (length line) refl h

-- so whoever lends a buffer of 96 bytes finds the line whole in the bytes that the answer counts
pub printed_whole : {line before after : List ℕ} {size : ℕ} → Printed line before after size →
    96 ≤ length before → take size after ≡ line
printed_whole {line} {before} {after} {size} p h =
    rw (p.bytes, p.whole) (line_front line before (omega (arith, p.whole, p.short)))

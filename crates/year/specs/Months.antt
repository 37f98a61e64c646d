-- A month's line: its findings, the dismissed ones and the rate (02, W4). M is a month's body, f a finding's bytes.
-- Floats are `Float.Ieee`'s: `of_int binary64` is the 64-bit float nearest to a whole number, `div` the one nearest to
-- the quotient.
use Rattle.std.specs.Prelude.{ℕ, Bool, true, ◌&&◌, cond, List, eqb, pos, Float, Option, Some, None}
use Rattle.std.specs.Float.{binary64}
use Rattle.std.specs.Float.Ieee.{div, of_int, of_bits, to_bits, eq}
use Rattle.wire.specs.Words.{byte_at}
use Rattle.wire.specs.Packed.{hits}
use Rattle.year.specs.declared.Closings.{Closings}
use Rattle.year.specs.declared.Closings.TheVariants.{Every, Person}
use Rattle.year.specs.declared.Line.{Line}
use Rattle.year.specs.Ledger.{closed_at, verdict_at, finding_count, finding_at}

-- ---- counts

-- 02, W4: closed by a person is 0, dismissed is 1
abbrev pub by_person : List ℕ → Bool
by_person f = eqb (byte_at f closed_at) 0

abbrev pub is_dismissed : List ℕ → Bool
is_dismissed f = eqb (byte_at f verdict_at) 1

-- 02, W4: the table is given twice, with and without script closings: of every finding, and of those that a person
-- closed (DECISIONS 56)
abbrev pub counts : Closings → List ℕ → Bool
counts Every f = true
counts Person f = by_person f

-- 02, W4: how many findings of a month there are in a table, and how many dismissed ones
unfoldable pub found : Closings → List ℕ → ℕ
found c M = hits (finding_count M) (λ k. counts c (finding_at M k))

unfoldable pub dismissed : Closings → List ℕ → ℕ
dismissed c M = hits (finding_count M) (λ k. counts c (finding_at M k) && is_dismissed (finding_at M k))

-- ---- the rate

-- 02, W4: the one division of the two counts, each taken as a 64-bit float
abbrev pub rate_of : ℕ → ℕ → Float
rate_of n d = div binary64 (of_int binary64 (pos d)) (of_int binary64 (pos n))

-- general: the float 0
abbrev pub nought : Float
nought = of_bits binary64 0

-- 02, W4: a line holds the findings, the dismissed ones and the rate. Where there is no finding the field is 0, and is
-- no rate (DECISIONS 57)
unfoldable pub line_of : ℕ → ℕ → Line
line_of n d = record { findings = n; dismissed = d; rate = cond (eqb n 0) nought (rate_of n d) }

-- 02, W4: a month with no finding has no rate
unfoldable pub share_of : Line → Option Float
share_of l = cond (eqb l.findings 0) None (Some l.rate)

-- 02, W4: the rate's 64 bits. What is no number has no bits of its own, and is no rate of a line (proofs/Rates)
abbrev pub bits_of : Option Float → ℕ
bits_of (Some x) = cond (eq x x) (to_bits binary64 x) 0
bits_of None = 0

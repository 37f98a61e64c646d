-- Lines of the trace program and of the ledger program, a row each: what the definitions give, and the line as it is
-- read. 01, "The trace program", has the first two in its listing.
-- Assumes nothing.
use Rattle.std.specs.Prelude.{ℕ, List, [], ◌∷◌, ℤ, pos, negsuc}
use Prim.Native.Char.{code}
use Prim.Native.String.{String}
use Rattle.numbers.specs.Types.{word_of}
use Rattle.numbers.specs.declared.NumType.{NumType}
use Rattle.numbers.specs.declared.NumType.TheVariants.{Int16, Uint16, Int32, Uint32}
use Rattle.report.specs.Lines.{finding_line, end_line, refused_line}
use Rattle.report.specs.LedgerLines.{rate_line, no_rate_line, bend_line}

-- general: the codes of a text's characters
unfoldable pub codes : String → List ℕ
codes String.[] = []
codes (String.◌∷◌ c s) = code c ∷ codes s

-- A row: the line that the definitions give, and the text that 01, "The trace program", or 02, W4, asks for, without
-- its line feed.
pub record Sample : Type 0 where
  pub got : List ℕ
  pub want : String

-- One row. General.
abbrev pub prints : List ℕ → String → Sample
prints g w = record { got = g; want = w }

-- A finding whose inputs are the numbers a and b, as words of their types. 01, "The case file".
unfoldable pub found : ℕ → ℕ → ℕ → ℕ → NumType → ℤ → NumType → ℤ → List ℕ
found cycle block text diagnosis ta a tb b = finding_line cycle block text diagnosis ta (word_of a) tb (word_of b)

-- All rows. The first two are the listing of 01, "The trace program"; the others of that program stand at the limits of
-- the types and at 0. Those of 02, W4, have rates of a third, 1 and 0 as doubles (IEEE 754, binary64).
abbrev pub samples : List Sample
samples =
    prints (found 2 0 16513 2 Int16 (pos 30000) Int16 (pos 2768)) "finding 2 0 16513 2 30000 2768"
    ∷ prints (end_line 2 1) "end 2 1"
    ∷ prints (found 1 63 16512 1 Int16 (negsuc 32767) Int16 (pos 1)) "finding 1 63 16512 1 -32768 1"
    ∷ prints (found 10 9 16512 1 Int32 (negsuc 2147483647) Uint32 (pos 4294967295))
    "finding 10 9 16512 1 -2147483648 4294967295"
    ∷ prints (found 100 10 16513 2 Uint16 (pos 65535) Int16 (negsuc 0)) "finding 100 10 16513 2 65535 -1"
    ∷ prints (found 99 1 0 71 Uint32 (pos 15) Uint32 (pos 0)) "finding 99 1 0 71 15 0"
    ∷ prints (end_line 0 0) "end 0 0"
    ∷ prints (end_line 4294967295 1000000000) "end 4294967295 1000000000"
    ∷ prints (refused_line 1) "refused 1"
    ∷ prints (refused_line 12) "refused 12"
    ∷ prints (rate_line 1 3 1 4599676419421066581) "month 1 3 1 3fd5555555555555"
    ∷ prints (no_rate_line 2 0 0) "month 2 0 0 none"
    ∷ prints (rate_line 12 4095 4095 4607182418800017408) "month 12 4095 4095 3ff0000000000000"
    ∷ prints (rate_line 3 2 0 0) "month 3 2 0 0000000000000000"
    ∷ prints (bend_line 11) "bend 11"
    ∷ []

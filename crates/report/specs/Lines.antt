-- The lines that the trace program prints. 01, "The trace program", has their words and numbers; DECISIONS 24: single
-- spaces, a line feed after every line, nothing else. Characters are in ASCII. A store of a run of bytes is the
-- library's `sets` (`List.Edits`): what lies past the end is not written.
-- Assumes nothing.
use Rattle.std.specs.Prelude.{◌≡◌, ℕ, ◌+◌, ◌≤◌, List, [], ◌∷◌, ◌++◌, length}
use Rattle.std.proofs.lemmas.List.Edits.{sets}
use Rattle.numbers.specs.Types.{value}
use Rattle.numbers.specs.declared.NumType.{NumType}
use Rattle.report.specs.Decimal.{decimal, signed_decimal}

-- 01, "The trace program": the first words of the lines

-- f i n d i n g
abbrev pub finding_word : List ℕ
finding_word = 102 ∷ 105 ∷ 110 ∷ 100 ∷ 105 ∷ 110 ∷ 103 ∷ []

-- e n d
abbrev pub end_word : List ℕ
end_word = 101 ∷ 110 ∷ 100 ∷ []

-- r e f u s e d
abbrev pub refused_word : List ℕ
refused_word = 114 ∷ 101 ∷ 102 ∷ 117 ∷ 115 ∷ 101 ∷ 100 ∷ []

-- DECISIONS 24: a single space in front of each number
abbrev pub field : List ℕ → List ℕ
field s = 32 ∷ s

-- DECISIONS 24: a line feed after every line
abbrev pub line_feed : List ℕ
line_feed = 10 ∷ []

-- 01, "The trace program": `finding`, cycle from 1, block, text ID in decimal, diagnosis, both inputs, signed by type.
-- x and y are the inputs' stored words, ta and tb their types.
unfoldable pub finding_line : ℕ → ℕ → ℕ → ℕ → NumType → ℕ → NumType → ℕ → List ℕ
finding_line cycle block text diagnosis ta x tb y =
    finding_word
    ++ field (decimal cycle)
    ++ field (decimal block)
    ++ field (decimal text)
    ++ field (decimal diagnosis)
    ++ field (signed_decimal (value ta x))
    ++ field (signed_decimal (value tb y))
    ++ line_feed

-- 01, "The trace program": `end`, cycles, findings
unfoldable pub end_line : ℕ → ℕ → List ℕ
end_line cycles findings = end_word ++ field (decimal cycles) ++ field (decimal findings) ++ line_feed

-- 01, "The trace program": `refused` and the number
unfoldable pub refused_line : ℕ → List ℕ
refused_line number = refused_word ++ field (decimal number) ++ line_feed

-- no line has more bytes (proofs/Lines)
abbrev pub line_most : ℕ
line_most = 96

-- general: a line was stored at the front of a buffer, and its length was told. How long it may be follows from the
-- line; it is said here so that whoever lends a buffer of so many bytes finds it.
pub record Printed (line before after : List ℕ) (size : ℕ) : Type 0 where
  pub bytes : after ≡ sets before 0 line
  pub whole : size ≡ length line
  pub short : size ≤ line_most

-- general: text was stored in a buffer from `at` on, and the place behind it was told
pub record Put (text before : List ℕ) (at : ℕ) (after : List ℕ) (next : ℕ) : Type 0 where
  pub bytes : after ≡ sets before at text
  pub place : next ≡ at + length text

-- A ledger of six findings, and what the ledger program prints of it (02, W4). In month 1 a person closed two findings
-- and dismissed one, and a script closed a third as real; a script dismissed two in month 3, and one in month 12.
use Rattle.std.specs.Prelude.{ℕ, List, [], ◌∷◌, ◌++◌}
use Prim.Native.String.{String}
use Rattle.report.specs.Lines.{line_feed}
use Rattle.report.specs.Samples.{codes}

-- 02, W4: a contents table of 12 entries, start and length; months 1, 3 and 12 have findings, the other bodies are
-- empty
abbrev pub example_contents : List ℕ
example_contents =
    96 ∷ 0 ∷ 0 ∷ 0 ∷ 18 ∷ 0 ∷ 0 ∷ 0
    ∷ 114 ∷ 0 ∷ 0 ∷ 0 ∷ 0 ∷ 0 ∷ 0 ∷ 0
    ∷ 114 ∷ 0 ∷ 0 ∷ 0 ∷ 12 ∷ 0 ∷ 0 ∷ 0
    ∷ 126 ∷ 0 ∷ 0 ∷ 0 ∷ 0 ∷ 0 ∷ 0 ∷ 0
    ∷ 126 ∷ 0 ∷ 0 ∷ 0 ∷ 0 ∷ 0 ∷ 0 ∷ 0
    ∷ 126 ∷ 0 ∷ 0 ∷ 0 ∷ 0 ∷ 0 ∷ 0 ∷ 0
    ∷ 126 ∷ 0 ∷ 0 ∷ 0 ∷ 0 ∷ 0 ∷ 0 ∷ 0
    ∷ 126 ∷ 0 ∷ 0 ∷ 0 ∷ 0 ∷ 0 ∷ 0 ∷ 0
    ∷ 126 ∷ 0 ∷ 0 ∷ 0 ∷ 0 ∷ 0 ∷ 0 ∷ 0
    ∷ 126 ∷ 0 ∷ 0 ∷ 0 ∷ 0 ∷ 0 ∷ 0 ∷ 0
    ∷ 126 ∷ 0 ∷ 0 ∷ 0 ∷ 0 ∷ 0 ∷ 0 ∷ 0
    ∷ 126 ∷ 0 ∷ 0 ∷ 0 ∷ 6 ∷ 0 ∷ 0 ∷ 0
    ∷ []

-- 02, W4: a finding is block, zero, text ID, closed by, verdict
abbrev pub example_findings : List ℕ
example_findings =
    0 ∷ 0 ∷ 0x81 ∷ 0x40 ∷ 0 ∷ 0
    ∷ 63 ∷ 0 ∷ 0x80 ∷ 0x40 ∷ 0 ∷ 1
    ∷ 7 ∷ 0 ∷ 0xFF ∷ 0xFF ∷ 1 ∷ 0
    ∷ 7 ∷ 0 ∷ 0 ∷ 0 ∷ 1 ∷ 1
    ∷ 8 ∷ 0 ∷ 0 ∷ 0 ∷ 1 ∷ 1
    ∷ 9 ∷ 0 ∷ 0x81 ∷ 0x40 ∷ 1 ∷ 1
    ∷ []

unfoldable pub example_ledger : List ℕ
example_ledger = example_contents ++ example_findings

-- general: lines of text
unfoldable pub lines_of : List String → List ℕ
lines_of [] = []
lines_of (s ∷ ss) = codes s ++ line_feed ++ lines_of ss

-- 02, W4: the whole table twice, with and without script closings
abbrev pub example_prints : List ℕ
example_prints =
    lines_of
    ("table with"
    ∷ "month 1 3 1 3fd5555555555555"
    ∷ "month 2 0 0 none"
    ∷ "month 3 2 2 3ff0000000000000"
    ∷ "month 4 0 0 none"
    ∷ "month 5 0 0 none"
    ∷ "month 6 0 0 none"
    ∷ "month 7 0 0 none"
    ∷ "month 8 0 0 none"
    ∷ "month 9 0 0 none"
    ∷ "month 10 0 0 none"
    ∷ "month 11 0 0 none"
    ∷ "month 12 1 1 3ff0000000000000"
    ∷ "bend 1"
    ∷ "table without"
    ∷ "month 1 2 1 3fe0000000000000"
    ∷ "month 2 0 0 none"
    ∷ "month 3 0 0 none"
    ∷ "month 4 0 0 none"
    ∷ "month 5 0 0 none"
    ∷ "month 6 0 0 none"
    ∷ "month 7 0 0 none"
    ∷ "month 8 0 0 none"
    ∷ "month 9 0 0 none"
    ∷ "month 10 0 0 none"
    ∷ "month 11 0 0 none"
    ∷ "month 12 0 0 none"
    ∷ "bend none"
    ∷ [])

-- A ledger file built from the bodies of its months, and a ledger without what a script closed (02, W4). F is a file's
-- bytes, M a month's body, body m the bytes of month m, counted from 0.
use Rattle.std.specs.Prelude.{ℕ, ◌+◌, List, ◌++◌, length}
use Rattle.wire.specs.Words.{bytes4}
use Rattle.wire.specs.Records.{gather}
use Rattle.wire.specs.Packed.{entries}
use Rattle.contents.specs.Contents.{contents_size, body_of}
use Rattle.year.specs.Ledger.{month_count, finding_count, finding_at}
use Rattle.year.specs.Months.{by_person}
use Rattle.year.specs.Bends.{sum_of}

-- 02, W4: the first body starts at 96, each other where the one before ends
unfoldable pub start_in : (ℕ → List ℕ) → ℕ → ℕ
start_in body m = contents_size month_count + sum_of (λ k. length (body k)) 0 m

-- 02, W4: the entry of a month in the contents table: where its body starts and how long it is
unfoldable pub entry_of : (ℕ → List ℕ) → ℕ → List ℕ
entry_of body m = bytes4 (start_in body m) ++ bytes4 (length (body m))

-- 02, W4: a contents table of 12 entries, then one body a month
unfoldable pub ledger_of : (ℕ → List ℕ) → List ℕ
ledger_of body = gather month_count (entry_of body) ++ gather month_count body

-- 02, W4: of a month's findings those that a person closed, in their order
unfoldable pub by_person_only : List ℕ → List ℕ
by_person_only M = entries (finding_count M) (λ k. by_person (finding_at M k)) (finding_at M)

-- 02, W4: the ledger without script closings
unfoldable pub without_script : List ℕ → List ℕ
without_script F = ledger_of (λ m. by_person_only (body_of F m))

-- What is answered of a ledger: its two tables, or why it is turned down (02, W4). F is the file's bytes.
use Rattle.std.specs.Prelude.{ℕ, zero, suc, List, [], ◌∷◌, Result, Ok, Err}
use Rattle.contents.specs.Contents.{body_of}
use Rattle.year.specs.declared.Closings.{Closings}
use Rattle.year.specs.declared.Closings.TheVariants.{Every, Person}
use Rattle.year.specs.declared.Line.{Line}
use Rattle.year.specs.declared.Table.{Table}
use Rattle.year.specs.declared.Year.{Year}
use Rattle.year.specs.declared.rules.Refusal.{Refusal}
use Rattle.year.specs.Ledger.{month_count, verdict}
use Rattle.year.specs.Months.{found, dismissed, line_of}
use Rattle.year.specs.Bends.{bend_of}

-- general: f k, f (k + 1), .., n of them
abbrev pub from : {A : Type 0} → ℕ → ℕ → (ℕ → A) → List A
from k zero f = []
from k (suc n) f = f k ∷ from (suc k) n f

-- 02, W4: the line of a month
unfoldable pub month_line : Closings → List ℕ → ℕ → Line
month_line c F m = line_of (found c (body_of F m)) (dismissed c (body_of F m))

-- 02, W4: for each month a line
unfoldable pub lines_of : Closings → List ℕ → List Line
lines_of c F = from 0 month_count (month_line c F)

-- 02, W4: the whole table, each with its own bend (DECISIONS 56)
unfoldable pub table_of : Closings → List ℕ → Table
table_of c F = record { lines = lines_of c F; bend = bend_of (lines_of c F) }

-- 02, W4: the whole table twice, of every finding and of those that a person closed; a refusal gives no table
-- (DECISIONS 57)
abbrev pub tables_of : List ℕ → Year
tables_of F = record { every = table_of Every F; person = table_of Person F }

abbrev pub after : Result (Unit {0}) Refusal → Year → Result Year Refusal
after (Ok _) y = Ok y
after (Err e) y = Err e

unfoldable pub year_of : List ℕ → Result Year Refusal
year_of F = after (verdict F) (tables_of F)

-- What is promised of a ledger, over bytes (02, W4). F is the file. The contract of `year::year_of` is an equation with
-- `year_of F`, that of `year::check` one with `verdict F`, and the function of `yearbook` that writes requires
-- `ledger_text F`, so what is proved of these holds of the code. The proof is `ledgers` of proofs/Ledgers.antt.
--
-- That it speaks of something is computed in proofs/LedgerText.antt: `example_text` has the two tables of a ledger of
-- six findings as the program prints them.
use Rattle.std.specs.Prelude.{ℕ, ◌+◌, ◌*◌, ◌<◌, ◌≤◌, ◌≡◌, ◌↔◌, ◌≢◌, true, false, List, ltb, pos, Float}
use Rattle.std.specs.Prelude.{Option, Some, None, Result, Ok, Err}
use Rattle.std.specs.Float.{fin, binary64}
use Rattle.std.specs.Float.Ieee.{round, to_bits}
use Rattle.contents.specs.Contents.{body_of}
use Rattle.year.specs.declared.Closings.{Closings}
use Rattle.year.specs.declared.Closings.TheVariants.{Every, Person}
use Rattle.year.specs.declared.Line.{Line}
use Rattle.year.specs.declared.Year.{Year}
use Rattle.year.specs.declared.rules.Refusal.{Refusal}
use Rattle.year.specs.Ledger.{month_count, month_most, answer_number, verdict, ledger_table, ledger_number}
use Rattle.year.specs.Months.{found, dismissed, share_of, bits_of}
use Rattle.year.specs.Bends.{line_at, sides_at, both_sides, under, larger, bend_of}
use Rattle.year.specs.Year.{table_of, year_of}
use Rattle.year.specs.Nearest.{Nearest}
use Rattle.year.specs.Built.{by_person_only, without_script}
use Rattle.demands.specs.Demands.{Numbered}

-- ---- the number

-- 02, W4: an answer that is a refusal: what carries the tables is not there (DECISIONS 57)
abbrev pub Refused : Result Year Refusal → Type 0
Refused a = (e : Refusal) × (a ≡ Err e)

-- 02, W4: 21 to 24 in this order, exactly then; each gives no table, and an accepted ledger has both. The answer of
-- `year::check` has the same number
pub record LedgerAnswered (F : List ℕ) : Type 0 where
  pub number : Numbered (ledger_table F) (answer_number (year_of F))
  pub checked : answer_number (verdict F) ≡ answer_number (year_of F)
  pub refused : answer_number (year_of F) ≢ 0 → Refused (year_of F)
  pub accepted :
      answer_number (year_of F) ≡ 0 → year_of F ≡ Ok (record { every = table_of Every F; person = table_of Person F })

-- ---- a line

-- 02, W4: exactly 0, and exactly 1
abbrev pub exactly : ℕ → Option Float
exactly n = Some (fin false n (pos 0))

-- 02, W4: s is the share of n findings of which d were dismissed. A month with no finding has no rate; any other has
-- the quotient rounded once, and no 64-bit float is nearer to it; it is exactly 0 or 1 when none or all were dismissed,
-- and only then; its bits are what the program prints
pub record Shared (n d : ℕ) (s : Option Float) : Type 0 where
  pub none : (s ≡ None) ↔ (n ≡ 0)
  pub rounded : 0 < n → s ≡ Some (round binary64 false d n)
  pub nearest : 0 < n → Nearest d n (round binary64 false d n)
  pub zero : 0 < n → (s ≡ exactly 0) ↔ (d ≡ 0)
  pub one : 0 < n → (s ≡ exactly 1) ↔ (d ≡ n)
  pub bits : 0 < n → bits_of s ≡ to_bits binary64 (round binary64 false d n)

-- 02, W4: the line of a month in a table of an accepted ledger: the counts are the numbers of such findings. Where
-- there is none the field for the rate holds 0, which the call for C hands on (DECISIONS 57, 61)
pub record Lined (c : Closings) (F : List ℕ) (m : ℕ) (l : Line) : Type 0 where
  pub findings : l.findings ≡ found c (body_of F m)
  pub dismissed : l.dismissed ≡ dismissed c (body_of F m)
  pub few : l.findings ≤ month_most
  pub part : l.dismissed ≤ l.findings
  pub share : Shared l.findings l.dismissed (share_of l)
  pub field : l.findings ≡ 0 → l.rate ≡ fin false 0 (pos 0)

-- ---- the bend

-- 02, W4: month m, from 0, is the bend: it is among those with a finding on both sides, none of them has a larger
-- difference, and each earlier one has a smaller
pub record Bent (L : List Line) (m : ℕ) : Type 0 where
  pub month : m < month_count
  pub sides : both_sides (sides_at L m) ≡ true
  pub most :
      (k : ℕ) → k < month_count → both_sides (sides_at L k) ≡ true → larger (sides_at L k) (sides_at L m) ≡ false
  pub earliest :
      (k : ℕ) → k < m → both_sides (sides_at L k) ≡ true → larger (sides_at L m) (sides_at L k) ≡ true

-- 02, W4: two months have a finding
pub record TwoMonths (L : List Line) : Type 0 where
  pub first : ℕ
  pub second : ℕ
  pub apart : first < second
  pub month : second < month_count
  pub findings : 0 < (line_at L first).findings
  pub others : 0 < (line_at L second).findings

-- 02, W4: the bend of a table's lines, told from 1; none exactly when no month has a finding on both sides, which is
-- when fewer than two months have one. With r of R dismissed later and l of L up to a month, the comparison is that of
-- r / R - l / L, brought to one denominator, each subtracted term on the other side
pub record BendFound (L : List Line) : Type 0 where
  pub after : (m : ℕ) → (bend_of L ≡ Some (m + 1)) ↔ Bent L m
  pub none : (bend_of L ≡ None) ↔ ((m : ℕ) → m < month_count → both_sides (sides_at L m) ≡ false)
  pub two : (bend_of L ≢ None) ↔ TwoMonths L
  pub compared :
      (k m : ℕ) → k < month_count → m < month_count →
      let s = sides_at L k in
      let t = sides_at L m in
      larger s t
      ≡ ltb
      (t.later.dismissed * t.upto.findings * under s + s.upto.dismissed * s.later.findings * under t)
      (s.later.dismissed * s.upto.findings * under t + t.upto.dismissed * t.later.findings * under s)

-- ---- the second table

-- 02, W4: the second table of an accepted ledger is the first table of the ledger without its script closings: that one
-- is accepted, and each of its bodies has the findings that a person closed, in their order
pub record SecondTable (F : List ℕ) : Type 0 where
  pub accepted : ledger_number (without_script F) ≡ 0
  pub bodies : (m : ℕ) → m < month_count → body_of (without_script F) m ≡ by_person_only (body_of F m)
  pub table : table_of Every (without_script F) ≡ table_of Person F

-- ---- all of it

-- 02, W4: for every file, and for each of the two tables of an accepted one
pub record Ledgers : Type 0 where
  pub answered : (F : List ℕ) → LedgerAnswered F
  pub lines :
      (c : Closings) (F : List ℕ) → ledger_number F ≡ 0 → (m : ℕ) → m < month_count →
      Lined c F m (line_at (table_of c F).lines m)
  pub bends : (c : Closings) (F : List ℕ) → ledger_number F ≡ 0 → BendFound (table_of c F).lines
  pub bend : (c : Closings) (F : List ℕ) → (table_of c F).bend ≡ bend_of (table_of c F).lines
  pub second : (F : List ℕ) → ledger_number F ≡ 0 → SecondTable F

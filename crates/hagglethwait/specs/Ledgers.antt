-- What the call for a ledger leaves in the buffers that it is lent: the two tables as columns of numbers (02, W4). L
-- and P are the lines with and without script closings, y is what is answered of the ledger.
use Rattle.std.specs.Prelude.{ℕ, List, [], ◌∷◌, ◌++◌, map, Float, Result, Ok, Err}
use Rattle.year.specs.declared.Line.{Line}
use Rattle.year.specs.declared.Table.{Table}
use Rattle.year.specs.declared.Year.{Year}
use Rattle.year.specs.declared.rules.Refusal.{Refusal}
use Rattle.year.specs.Bends.{bend_number}
use Rattle.hagglethwait.specs.declared.ledgers.Columns.{Columns}

-- ---- what is stored

-- 02, W4: the whole table twice, with and without script closings: one column of both, month by month
abbrev pub column : {A : Type 0} → (Line → A) → List Line → List Line → List A
column f L P = map f L ++ map f P

-- 02, W4: the findings, the dismissed ones and the rate, which is 0 where there is none (DECISIONS 57)
unfoldable pub columns_of : List Line → List Line → Columns
columns_of L P = record {
  findings = column (λ l. l.findings) L P;
  dismissed = column (λ l. l.dismissed) L P;
  rates = column (λ l. l.rate) L P;
}

-- 02, W4: the two bends, 0 for none
abbrev pub bends_of : Table → Table → List ℕ
bends_of e p = bend_number e.bend ∷ bend_number p.bend ∷ []

-- 02, W4: of both tables of an accepted ledger
abbrev pub columns_in : Year → Columns
columns_in y = columns_of y.every.lines y.person.lines

abbrev pub bends_in : Year → List ℕ
bends_in y = bends_of y.every y.person

-- ---- what is left

-- 02, W4: a refusal gives no table: what was lent, `old`, stays as it was
abbrev pub left : {A : Type 0} → (Year → List A) → Result Year Refusal → List A → List A
left new (Ok y) old = new y
left new (Err e) old = old

unfoldable pub findings_left : Result Year Refusal → List ℕ → List ℕ
findings_left y old = left (λ t. (columns_in t).findings) y old

unfoldable pub dismissed_left : Result Year Refusal → List ℕ → List ℕ
dismissed_left y old = left (λ t. (columns_in t).dismissed) y old

unfoldable pub rates_left : Result Year Refusal → List Float → List Float
rates_left y old = left (λ t. (columns_in t).rates) y old

unfoldable pub bends_left : Result Year Refusal → List ℕ → List ℕ
bends_left y old = left bends_in y old

-- ---- how large, as include/hagglethwait.h says it

-- 02, W4: a bend has a later month
abbrev pub most_bend : ℕ
most_bend = 11

-- What the ledger program prints (02, W4; DECISIONS 54). F is the file's bytes.
use Rattle.std.specs.Prelude.{ℕ, zero, suc, ◌+◌, cond, List, [], ◌∷◌, ◌++◌, ltb, length}
use Rattle.std.specs.Prelude.{Float, Option, Some, None, Result, Ok, Err}
use Rattle.report.specs.Lines.{field, line_feed, refused_line}
use Rattle.report.specs.LedgerLines.{bend_word, none_word, rate_line, no_rate_line, bend_line}
use Rattle.year.specs.declared.Closings.{Closings}
use Rattle.year.specs.declared.Closings.TheVariants.{Every, Person}
use Rattle.year.specs.declared.Line.{Line}
use Rattle.year.specs.declared.Table.{Table}
use Rattle.year.specs.declared.Year.{Year}
use Rattle.year.specs.declared.rules.Refusal.{Refusal as LedgerRefusal}
use Rattle.year.specs.Ledger.{month_count, number_of as ledger_number_of}
use Rattle.year.specs.Months.{share_of, bits_of}
use Rattle.year.specs.Bends.{line_at}
use Rattle.year.specs.Year.{year_of}
use Rattle.yearbook.specs.declared.Refusal.{Refusal}
use Rattle.yearbook.specs.declared.Refusal.TheVariants.{TooLarge, Ledger}

-- ---- a line

-- DECISIONS 54: what stands above a table: `table with` and `table without`
abbrev pub title_of : Closings → List ℕ
title_of Every = 116 ∷ 97 ∷ 98 ∷ 108 ∷ 101 ∷ 32 ∷ 119 ∷ 105 ∷ 116 ∷ 104 ∷ 10 ∷ []
title_of Person =
    116 ∷ 97 ∷ 98 ∷ 108 ∷ 101 ∷ 32 ∷ 119 ∷ 105 ∷ 116 ∷ 104 ∷ 111 ∷ 117 ∷ 116 ∷ 10 ∷ []

-- 02, W4: counts in decimal, the rate's 64 bits in hexadecimal; a month with no finding has no rate
abbrev pub share_line : ℕ → Line → Option Float → List ℕ
share_line m l (Some x) = rate_line m l.findings l.dismissed (bits_of (Some x))
share_line m l None = no_rate_line m l.findings l.dismissed

unfoldable pub month_text : ℕ → Line → List ℕ
month_text m l = share_line m l (share_of l)

-- DECISIONS 54: `bend` and the month, or `none`
abbrev pub bend_text : Option ℕ → List ℕ
bend_text (Some m) = bend_line m
bend_text None = bend_word ++ field none_word ++ line_feed

-- ---- all of them

-- 02, W4: for each month a line, the months from 1; the first n
unfoldable pub months_text : List Line → ℕ → List ℕ
months_text L zero = []
months_text L (suc n) = months_text L n ++ month_text (n + 1) (line_at L n)

unfoldable pub table_text : Closings → Table → List ℕ
table_text c t = title_of c ++ months_text t.lines month_count ++ bend_text t.bend

-- 02, W4: the whole table twice, with and without script closings
unfoldable pub year_text : Year → List ℕ
year_text y = table_text Every y.every ++ table_text Person y.person

-- 02, W4: the number that stands for a refusal: 20 over 65,536 bytes, by the program alone
abbrev pub file_most : ℕ
file_most = 65536

abbrev pub number_of : Refusal → ℕ
number_of TooLarge = 20
number_of (Ledger e) = ledger_number_of e

-- 02, W4: what is told: the two tables, or `refused` and the number, and no table
abbrev pub told_as : Result Year LedgerRefusal → Result Year Refusal
told_as (Ok y) = Ok y
told_as (Err e) = Err (Ledger e)

unfoldable pub answer_of : List ℕ → Result Year Refusal
answer_of F = cond (ltb file_most (length F)) (Err TooLarge) (told_as (year_of F))

abbrev pub answer_text : Result Year Refusal → List ℕ
answer_text (Ok y) = year_text y
answer_text (Err e) = refused_line (number_of e)

unfoldable pub ledger_text : List ℕ → List ℕ
ledger_text F = answer_text (answer_of F)

-- 02, W4: whether the tables are printed, or why not
abbrev pub told_of : Result Year Refusal → Result (Unit {0}) Refusal
told_of (Ok y) = Ok tt
told_of (Err e) = Err e

unfoldable pub told : List ℕ → Result (Unit {0}) Refusal
told F = told_of (answer_of F)

-- 02, W4: the number that it stands for, 0 where the tables are printed
abbrev pub number_told : Result (Unit {0}) Refusal → ℕ
number_told (Ok u) = 0
number_told (Err e) = number_of e

unfoldable pub told_number : List ℕ → ℕ
told_number F = number_told (told F)

-- A ledger file, and when it is turned down (02, W4). F is the file's bytes, M a month's body, f a finding's bytes.
-- Months are counted from 0 here; they are told from 1 on. Every definition is total: a byte past the end reads as 0.
use Rattle.std.specs.Prelude.{ℕ, ◌*◌, ◌/◌, ◌%◌, Bool, ◌&&◌, cond, List, [], ◌∷◌, eqb, leb, length, take, drop}
use Rattle.std.specs.Prelude.{Result, Ok, Err}
use Rattle.wire.specs.Words.{byte_at}
use Rattle.wire.specs.Places.{all}
use Rattle.wire.specs.Tables.{Row, row, first}
use Rattle.contents.specs.Contents.{contents_size, contents_ok, body_of}
use Rattle.year.specs.declared.rules.Refusal.{Refusal}
use Rattle.year.specs.declared.rules.Refusal.TheVariants.{Size, Contents, Value, TooMany}
use Rattle.year.specs.declared.rules.MonthRule.{MonthRule}
use Rattle.year.specs.declared.rules.MonthRule.TheVariants.{Whole, Values, Few}

-- 02, W4: a contents table of 12 entries, one body a month; a finding takes 6 bytes; up to 4,095 findings a month
abbrev pub month_count : ℕ
month_count = 12

abbrev pub finding_size : ℕ
finding_size = 6

abbrev pub month_most : ℕ
month_most = 4095

-- 02, W4: a month's findings: how many there are, and the bytes of finding k
unfoldable pub finding_count : List ℕ → ℕ
finding_count M = length M / finding_size

unfoldable pub finding_at : List ℕ → ℕ → List ℕ
finding_at M k = take finding_size (drop (finding_size * k) M)

-- 02, W4: block, zero, text ID (2 bytes), closed by, verdict: the places of a finding's bytes
abbrev pub block_at : ℕ
block_at = 0

abbrev pub zero_at : ℕ
zero_at = 1

abbrev pub closed_at : ℕ
closed_at = 4

abbrev pub verdict_at : ℕ
verdict_at = 5

-- 02, W4: block 0 to 63, zero, any text ID, closed by a person (0) or by script (1), verdict real (0) or dismissed (1)
unfoldable pub values_ok : List ℕ → Bool
values_ok f =
    leb (byte_at f block_at) 63
    && eqb (byte_at f zero_at) 0
    && leb (byte_at f closed_at) 1
    && leb (byte_at f verdict_at) 1

-- ---- turned down

-- 02, W4: 22, a body that is not whole findings; 23, a value; 24, too many in a month
abbrev pub kept : MonthRule → List ℕ → Bool
kept Whole M = eqb (length M % finding_size) 0
kept Values M = all (λ k. values_ok (finding_at M k)) (finding_count M)
kept Few M = leb (finding_count M) month_most

-- 02, W4: each month by itself
unfoldable pub kept_in : MonthRule → List ℕ → ℕ → Bool
kept_in a F m = kept a (body_of F m)

unfoldable pub months_ok : MonthRule → List ℕ → Bool
months_ok a F = all (kept_in a F) month_count

-- 02, W4: 21 under 96 bytes, 22, 23 and 24, in this order. 23 is looked for in the whole file before 24 (DECISIONS 55)
unfoldable pub ledger_table : List ℕ → List Row
ledger_table F =
    row 21 (leb (contents_size month_count) (length F))
    ∷ row 22 (contents_ok month_count F)
    ∷ row 22 (months_ok Whole F)
    ∷ row 23 (months_ok Values F)
    ∷ row 24 (months_ok Few F)
    ∷ []

-- 02, W4: the number that stands for a refusal
abbrev pub number_of : Refusal → ℕ
number_of Size = 21
number_of Contents = 22
number_of Value = 23
number_of TooMany = 24

-- 02, W4: the number of an answer, 0 where it is no refusal
abbrev pub answer_number : {A : Type 0} → Result A Refusal → ℕ
answer_number (Ok x) = 0
answer_number (Err e) = number_of e

-- 02, W4: the same order, with what is wrong in place of its number (`verdict_number` of proofs/Taken)
abbrev pub asked : Bool → Refusal → Result (Unit {0}) Refusal → Result (Unit {0}) Refusal
asked kept e later = cond kept later (Err e)

unfoldable pub verdict : List ℕ → Result (Unit {0}) Refusal
verdict F =
    asked (leb (contents_size month_count) (length F)) Size
    (asked (contents_ok month_count F) Contents
    (asked (months_ok Whole F) Contents
    (asked (months_ok Values F) Value
    (asked (months_ok Few F) TooMany
    (Ok tt)))))

-- 02, W4: the number with which a ledger is turned down, 0 where it is accepted
unfoldable pub ledger_number : List ℕ → ℕ
ledger_number F = first (ledger_table F)

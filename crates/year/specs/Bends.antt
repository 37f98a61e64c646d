-- The bend of a table (02, W4). L is the table's twelve lines, m a month, counted from 0.
use Rattle.std.specs.Prelude.{ℕ, zero, suc, ◌+◌, ◌-◌, ◌*◌, Bool, not, ◌&&◌, cond, List, ltb, get_or, Option, Some, None}
use Rattle.std.specs.Float.{nan}
use Rattle.wire.specs.Places.{first_bad, all}
use Rattle.year.specs.declared.Line.{Line}
use Rattle.year.specs.declared.bends.Pool.{Pool}
use Rattle.year.specs.declared.bends.Sides.{Sides}
use Rattle.year.specs.Ledger.{month_count}

-- ---- the two sides of a month

-- general: f k, f (k + 1), .., n of them, added up
unfoldable pub sum_of : (ℕ → ℕ) → ℕ → ℕ → ℕ
sum_of f k zero = 0
sum_of f k (suc n) = sum_of f k n + f (k + n)

-- 02, W4: the line of a month; past the twelve there is none
abbrev pub no_line : Line
no_line = record { findings = 0; dismissed = 0; rate = nan }

abbrev pub line_at : List Line → ℕ → Line
line_at L m = get_or L m no_line

-- 02, W4: n months from k on, pooled: all their findings, and all their dismissed ones
unfoldable pub pool_of : List Line → ℕ → ℕ → Pool
pool_of L k n = record {
  findings = sum_of (λ m. (line_at L m).findings) k n;
  dismissed = sum_of (λ m. (line_at L m).dismissed) k n;
}

-- 02, W4: all months up to and with it, and all later ones
unfoldable pub sides_at : List Line → ℕ → Sides
sides_at L m = record { upto = pool_of L 0 (m + 1); later = pool_of L (m + 1) (month_count - (m + 1)) }

-- 02, W4: a finding on both sides
abbrev pub both_sides : Sides → Bool
both_sides s = ltb 0 s.upto.findings && ltb 0 s.later.findings

-- ---- the largest difference

-- 02, W4: the dismissed share of all later months less that of all up to and with it, and one, as one fraction: r of R
-- dismissed later and l of L up to the month give r / R + (L - l) / L. One more in each changes no comparison, and no
-- number here is below 0; proofs/Bending has the comparison of the differences themselves
abbrev pub over : Sides → ℕ
over s =
    s.later.dismissed * s.upto.findings + (s.upto.findings - s.upto.dismissed) * s.later.findings

abbrev pub under : Sides → ℕ
under s = s.later.findings * s.upto.findings

-- 02, W4: the difference of s is larger than that of t, compared in whole numbers
unfoldable pub larger : Sides → Sides → Bool
larger s t = ltb (over t * under s) (over s * under t)

-- 02, W4: m is among the months with a finding on both sides, and none of them has a larger difference
unfoldable pub largest : List Line → ℕ → Bool
largest L m =
    both_sides (sides_at L m)
    && all (λ k. not (both_sides (sides_at L k) && larger (sides_at L k) (sides_at L m))) month_count

-- 02, W4: the earliest wins a tie; none exactly when no such month exists
abbrev pub bend_at : ℕ → Option ℕ
bend_at m = cond (ltb m month_count) (Some (m + 1)) None

unfoldable pub bend_of : List Line → Option ℕ
bend_of L = bend_at (first_bad (λ m. not (largest L m)) month_count)

-- 02, W4: the month of a bend as a number, 0 for none
abbrev pub bend_number : Option ℕ → ℕ
bend_number (Some m) = m
bend_number None = 0

-- What it is to be the 64-bit float nearest to a quotient, in whole numbers (02, W4: the rate is the one division of
-- the two counts). The smallest float above 0 is 2 ^ -1074, and a finite one that is not below 0 is q * 2 ^ j times as
-- much, with q below 2 ^ 53: its 53 binary digits. `fits binary64 x` says that x is a 64-bit float, `HasValue x false a
-- c` that it is a / c, and not negative.
use Rattle.std.specs.Prelude.{ℕ, ◌+◌, ◌-◌, ◌*◌, ◌^◌, ◌<◌, ◌≤◌, false, T, Float}
use Rattle.std.specs.Float.{binary64}
use Rattle.std.specs.Float.Ieee.{fits}
use Rattle.std.specs.Float.Ieee.Exact.{HasValue}

-- general: how far two numbers are from each other
abbrev pub apart : ℕ → ℕ → ℕ
apart a b = a - b + (b - a)

-- 02, W4: x is a 64-bit float and so many of these units, and no q * 2 ^ j of them is nearer to d / n: both are brought
-- to the denominator n * 2 ^ 1074
pub record Nearest (d n : ℕ) (x : Float) : Type 0 where
  pub held : T (fits binary64 x)
  pub units : ℕ
  pub value : HasValue x false units (2 ^ 1074)
  pub nearest :
      (q j : ℕ) → q < 2 ^ 53 → apart (units * n) (d * 2 ^ 1074) ≤ apart (q * 2 ^ j * n) (d * 2 ^ 1074)

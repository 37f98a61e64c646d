-- Small numbers as C's `int32_t`. Assumes nothing.
use Rattle.wire.proofs.Usual.{◌≡◌, ℕ, ◌<◌, arith}
use lib.IntN.{pos}
use mir.Syntax.{w32}
use mir.Val.{SFits, to_z}
use mir.Facts.{to_z-of_z}

pub count_fits : (n : ℕ) → n < 2147483648 → SFits w32 (pos n)
count_fits n l = record { sfits = omega (arith, l) }

pub count_is : (n : ℕ) → n < 2147483648 → to_z w32 n ≡ pos n
count_is n l = to_z-of_z {w = w32} {z = pos n} (count_fits n l)

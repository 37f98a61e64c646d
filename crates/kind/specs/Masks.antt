-- Bytes as sets of bits (general). `bit_and` and `bit_or` are the library's, bit by bit (`Int.Bits`).
use Rattle.std.specs.Prelude.{ℕ, Bool, not, eqb}
use Rattle.std.specs.Int.Bits.{bit_and, bit_or}

-- general: no bit of v that the mask has not
unfoldable pub is_within : ℕ → ℕ → Bool
is_within v mask = eqb (bit_or v mask) mask

-- general: some bit of v that the mask has too
unfoldable pub meets : ℕ → ℕ → Bool
meets v mask = not (eqb (bit_and v mask) 0)

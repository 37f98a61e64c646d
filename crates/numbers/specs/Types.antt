-- The four number types, their ranges, and the word of 32 bits that stores a number. ℤ is the library's: `pos n` is n,
-- `negsuc n` is -(n + 1), `nat_abs` the magnitude, `sub_ℕ m n` is m - n, `le_z` its order; `cond` is if-then-else. The
-- types are those that 001, 4.16.1 to 4.19.1, allow: INT16, UINT16, INT32, UINT32. Assumes nothing.
use Rattle.std.specs.Prelude.{ℕ, suc, ◌-◌, ◌^◌, Bool, true, false, cond, ◌&&◌, leb, eqb, ℤ, pos, negsuc, neg_ℤ, nat_abs}
use Rattle.std.proofs.Math.IntN.{sub_ℕ}
use Rattle.std.specs.Int.Signed.{le_z}
use Rattle.numbers.specs.declared.NumType.{NumType}
use Rattle.numbers.specs.declared.NumType.TheVariants.{Int16, Uint16, Int32, Uint32}
use Rattle.numbers.specs.declared.Signed.{Signed}

-- ---- the types

-- The type that a byte of the file names: 0 INT16, 1 UINT16, 2 INT32, 3 UINT32. A number has no other, and the check of
-- the file turns those down, so what they read as is without effect. 01, "The case file".
unfoldable pub type_of : ℕ → NumType
type_of b = cond (eqb b 0) Int16 (cond (eqb b 1) Uint16 (cond (eqb b 2) Int32 Uint32))

-- Whether the type has numbers below 0. General.
abbrev pub is_signed : NumType → Bool
is_signed Int16 = true
is_signed Uint16 = false
is_signed Int32 = true
is_signed Uint32 = false

-- How far the type reaches below 0. General: 2 ^ 15 and 2 ^ 31 for the signed ones.
abbrev pub under : NumType → ℕ
under Int16 = 32768
under Uint16 = 0
under Int32 = 2147483648
under Uint32 = 0

-- How far the type reaches above 0. General.
abbrev pub over : NumType → ℕ
over Int16 = 32767
over Uint16 = 65535
over Int32 = 2147483647
over Uint32 = 4294967295

-- The least number of the type, "der minimal mögliche Wert" of 001, 4.16.2.
abbrev pub lo : NumType → ℤ
lo t = neg_ℤ (pos (under t))

-- The greatest number of the type, "der maximal mögliche Wert" of 001, 4.16.2.
abbrev pub hi : NumType → ℤ
hi t = pos (over t)

-- ---- the stored word

-- The number that a word stands for: 32 bits, sign- or zero-extended by type. 01, "The case file".
unfoldable pub value : NumType → ℕ → ℤ
value t w = cond (is_signed t && leb (2 ^ 31) w) (sub_ℕ w (2 ^ 32)) (pos w)

-- Whether a word is well formed for its type: "inside its type" of 01, "Block state", and an input's value in 01, "The
-- case file".
unfoldable pub inside : NumType → ℕ → Bool
inside t w = le_z (lo t) (value t w) && le_z (value t w) (hi t)

-- The word that stores a number: the number itself, or its complement. 01, "The case file".
abbrev pub word_of : ℤ → ℕ
word_of (pos n) = n
word_of (negsuc n) = 2 ^ 32 - suc n

-- ---- sign and magnitude, as the code holds a number

-- The number with this sign and magnitude. General.
abbrev pub sgn : Bool → ℕ → ℤ
sgn false m = pos m
sgn true m = neg_ℤ (pos m)

-- The number that a pair of sign and magnitude stands for. General.
abbrev pub z_of : Signed → ℤ
z_of s = sgn s.neg s.mag

-- Whether a number is below 0. General.
abbrev pub is_neg : ℤ → Bool
is_neg (pos n) = false
is_neg (negsuc n) = true

-- The sign and the magnitude of a number; 0 has no sign. General.
abbrev pub signed : ℤ → Signed
signed z = record { neg = is_neg z; mag = nat_abs z }

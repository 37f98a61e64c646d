-- Files that show that the demands speak of something, beside the listing of 01 (Listing.antt): P1's as a project,
-- and two that differ in their execution numbers alone.
use Rattle.std.specs.Prelude.{ℕ, ◌+◌, List, [], ◌∷◌, ◌++◌, replicate}
use Rattle.wire.specs.Words.{bytes4}
use Rattle.demands.specs.Listing.{listing_groups, listing_inputs}

-- 01, "The case file", B: an arithmetic block of group 0 and of INT16 throughout, by its kind, its execution number and
-- its two links
abbrev pub arithmetic_block : ℕ → ℕ → List ℕ → List ℕ → List ℕ
arithmetic_block kind order first second =
    (kind ∷ 0 ∷ order ∷ 0 ∷ []) ++ replicate 12 0 ++ first ++ second ++ replicate 18 0

-- 01, "The case file": links to the external inputs 0 and 1, and to port 1 of block 0
abbrev pub input_zero : List ℕ
input_zero = 1 ∷ 0 ∷ 0 ∷ []

abbrev pub input_one : List ℕ
input_one = 1 ∷ 1 ∷ 0 ∷ []

abbrev pub output_zero : List ℕ
output_zero = 2 ∷ 0 ∷ 1 ∷ []

-- 01, "The case file": a file without records, with the groups and inputs of the listing and one external output, port
-- 1 of a block
abbrev pub file_with : ℕ → List ℕ → ℕ → List ℕ
file_with size blocks shown =
    bytes4 40 ++ bytes4 2 ++ bytes4 42 ++ bytes4 4 ++ bytes4 46 ++ bytes4 size ++ bytes4 (46 + size) ++ bytes4 3
    ++ bytes4 (49 + size) ++ bytes4 0 ++ listing_groups ++ listing_inputs ++ blocks ++ (0 ∷ shown ∷ 1 ∷ [])

-- 01, "Marked examples", P1: one SUB of INT16, and the record that has it compute -32768 - 1
unfoldable pub subtraction : List ℕ
subtraction = file_with 40 (arithmetic_block 4 0 input_zero input_one) 0

abbrev pub subtraction_record : List ℕ
subtraction_record = (10 ∷ 0 ∷ 1 ∷ []) ++ (0x00 ∷ 0x80 ∷ 0xFF ∷ 0xFF ∷ []) ++ bytes4 1

-- 01, "What the reviewer must be able to rely on", demand 3: block 0 adds the inputs, block 1 reads block 0, block 2
-- subtracts the inputs; a, b and c are their execution numbers
abbrev pub chained : ℕ → ℕ → ℕ → List ℕ
chained a b c =
    file_with 120
    (arithmetic_block 3 a input_zero input_one
    ++ arithmetic_block 3 b output_zero input_one
    ++ arithmetic_block 4 c input_zero input_one) 1

-- in the order of their numbers, and with block 2 first: block 0 runs before block 1 in both
unfoldable pub as_numbered : List ℕ
as_numbered = chained 0 1 2

unfoldable pub otherwise : List ℕ
otherwise = chained 1 2 0

-- The bytes of the state and the sizes of the buffers, and which states are well formed (01, "Turned down: numbers and
-- order", Sizes; "One cycle"; "Block state"). G, B and O are the bodies of the groups, the blocks and the outputs, h is
-- how many groups there are, S the state.
use Rattle.std.specs.Prelude.{ℕ, ◌+◌, ◌*◌, ◌/◌, ◌%◌, Bool, ◌&&◌, ◌||◌, List, eqb}
use Rattle.wire.specs.Words.{byte_at}
use Rattle.wire.specs.Records.{slot}
use Rattle.wire.specs.Places.{all}
use Rattle.project.specs.Project.{word_size, group_count, block_count, kind_of, parameters_of, output_count}
use Rattle.block.specs.State.{state_size}
use Rattle.block.specs.Formed.{well_formed}
use Rattle.block.specs.Finding.{finding_size}

-- ---- sizes

-- 01, "Turned down", Sizes: state, 1 byte per group and then 16 per block. Where the groups' bytes start, and how many
-- bytes stand before the blocks'
abbrev pub groups_at : ℕ
groups_at = 0

abbrev pub state_head : ℕ → ℕ
state_head h = groups_at + h

unfoldable pub state_length : List ℕ → List ℕ → ℕ
state_length G B = state_head (group_count G) + state_size * block_count B

-- 01, "Turned down", Sizes: outputs 4 per output; findings 16 per block
unfoldable pub outputs_length : List ℕ → ℕ
outputs_length O = word_size * output_count O

unfoldable pub findings_length : List ℕ → ℕ
findings_length B = finding_size * block_count B

-- ---- the bytes

-- 01, "Turned down", Sizes: group g's byte, and block b's bytes
abbrev pub group_byte : List ℕ → ℕ → ℕ
group_byte S g = byte_at S (groups_at + g)

unfoldable pub cell : ℕ → List ℕ → ℕ → List ℕ
cell h S b = slot (state_head h) state_size b S

-- 01, "One cycle": the group byte has bit 0 held, bit 1 acknowledged
abbrev pub is_held : ℕ → Bool
is_held v = eqb (v % 2) 1

abbrev pub is_acknowledged : ℕ → Bool
is_acknowledged v = eqb (v / 2 % 2) 1

-- ---- well formed

-- 01, "One cycle": group bytes 0, 1 and 3 are well formed
abbrev pub group_formed : ℕ → Bool
group_formed v = eqb v 0 || eqb v 1 || eqb v 3

abbrev pub head_formed : List ℕ → ℕ → Bool
head_formed S g = group_formed (group_byte S g)

-- 01, "Block state": well formed
unfoldable pub cell_formed : ℕ → List ℕ → List ℕ → ℕ → Bool
cell_formed h B S b = well_formed (kind_of B b) (parameters_of B b) (cell h S b)

-- the whole state
abbrev pub formed_with : ℕ → List ℕ → List ℕ → Bool
formed_with h B S = all (head_formed S) h && all (cell_formed h B S) (block_count B)

unfoldable pub state_formed : List ℕ → List ℕ → List ℕ → Bool
state_formed G B S = formed_with (group_count G) B S

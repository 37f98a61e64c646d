-- A project is its four bodies (01, "The case file"): G, I, B and O, each a list of bytes. A definition reads the
-- bodies that it names and no others, and is total, since a byte past the end reads as 0.
use Rattle.std.specs.Prelude.{ℕ, ◌+◌, ◌-◌, ◌*◌, ◌/◌, Bool, true, false, cond, not, ◌&&◌, List, eqb, leb, length, take}
use Rattle.std.specs.Prelude.{drop, Option, Some, None}
use Rattle.wire.specs.Words.{byte_at}
use Rattle.wire.specs.Places.{first_bad}
use Rattle.project.specs.declared.Source.{Source}
use Rattle.project.specs.declared.Source.TheVariants.{External, Output}
use Rattle.project.specs.declared.Counts.{Counts}

-- 01, "The case file": G, I, B and O
pub record Project : Type 0 where
  pub groups : List ℕ
  pub inputs : List ℕ
  pub blocks : List ℕ
  pub outputs : List ℕ

-- general: record k of those of w bytes each that s has
unfoldable pub row_of : ℕ → ℕ → List ℕ → List ℕ
row_of w k s = take w (drop (w * k) s)

-- 01, "The case file", G: the device byte, then one byte per group, 1 if Run is linked
unfoldable pub device : List ℕ → ℕ
device G = byte_at G 0

unfoldable pub group_count : List ℕ → ℕ
group_count G = length G - 1

unfoldable pub run_linked : List ℕ → ℕ → ℕ
run_linked G g = byte_at G (1 + g)

-- 01, "The case file", I: per external input 2 bytes, group and type
abbrev pub input_size : ℕ
input_size = 2

unfoldable pub input_count : List ℕ → ℕ
input_count I = length I / input_size

abbrev pub input_record : List ℕ → ℕ → List ℕ
input_record I i = row_of input_size i I

abbrev pub input_group_in : List ℕ → ℕ
input_group_in R = byte_at R 0

abbrev pub input_type_in : List ℕ → ℕ
input_type_in R = byte_at R 1

abbrev pub input_group : List ℕ → ℕ → ℕ
input_group I i = input_group_in (input_record I i)

abbrev pub input_type : List ℕ → ℕ → ℕ
input_type I i = input_type_in (input_record I i)

-- 01, "The case file", B: per block 40 bytes; a block's number is its place in B, from 0
abbrev pub block_size : ℕ
block_size = 40

unfoldable pub block_count : List ℕ → ℕ
block_count B = length B / block_size

abbrev pub block_record : List ℕ → ℕ → List ℕ
block_record B b = row_of block_size b B

-- 01, "The case file", B: kind, group, execution number, zero; 12 parameter bytes; 8 links of 3 bytes. R is a record
abbrev pub order_place : ℕ
order_place = 2

abbrev pub parameter_start : ℕ
parameter_start = 4

abbrev pub parameter_count : ℕ
parameter_count = 12

abbrev pub link_start : ℕ
link_start = 16

abbrev pub link_size : ℕ
link_size = 3

abbrev pub link_count : ℕ
link_count = 8

abbrev pub kind_in : List ℕ → ℕ
kind_in R = byte_at R 0

abbrev pub group_in : List ℕ → ℕ
group_in R = byte_at R 1

abbrev pub order_in : List ℕ → ℕ
order_in R = byte_at R order_place

abbrev pub zero_in : List ℕ → ℕ
zero_in R = byte_at R 3

unfoldable pub parameters_in : List ℕ → List ℕ
parameters_in R = take parameter_count (drop parameter_start R)

-- 01, "The case file", Link: kind (0 none, 1 external input, 2 block output), index, port
abbrev pub link_kind_in : List ℕ → ℕ → ℕ
link_kind_in R p = byte_at R (link_start + link_size * p)

abbrev pub link_index_in : List ℕ → ℕ → ℕ
link_index_in R p = byte_at R (link_start + link_size * p + 1)

abbrev pub link_port_in : List ℕ → ℕ → ℕ
link_port_in R p = byte_at R (link_start + link_size * p + 2)

-- 01, "The case file", Link: what the three bytes name; a kind that is unknown names nothing
abbrev pub pick : Bool → Option Source → Option Source → Option Source
pick true s t = s
pick false s t = t

abbrev pub source_from : ℕ → ℕ → ℕ → Option Source
source_from k i q = pick (eqb k 1) (Some (External i)) (pick (eqb k 2) (Some (Output i q)) None)

-- 01, "The case file", Link: what input port p of the block is linked to
unfoldable pub link_in : List ℕ → ℕ → Option Source
link_in R p = source_from (link_kind_in R p) (link_index_in R p) (link_port_in R p)

-- the same of block b
abbrev pub kind_of : List ℕ → ℕ → ℕ
kind_of B b = kind_in (block_record B b)

abbrev pub group_of : List ℕ → ℕ → ℕ
group_of B b = group_in (block_record B b)

abbrev pub order_of : List ℕ → ℕ → ℕ
order_of B b = order_in (block_record B b)

abbrev pub parameters_of : List ℕ → ℕ → List ℕ
parameters_of B b = parameters_in (block_record B b)

abbrev pub link_of : List ℕ → ℕ → ℕ → Option Source
link_of B b p = link_in (block_record B b) p

-- 01, "Turned down", 6, and "One cycle": the block with the execution number e, the first whose number is not another
unfoldable pub other_order : List ℕ → ℕ → ℕ → Bool
other_order B e a = not (eqb (order_of B a) e)

unfoldable pub block_at : List ℕ → ℕ → ℕ
block_at B e = first_bad (other_order B e) (block_count B)

-- 01, "The case file", O: per external output 3 bytes, group, block, port
abbrev pub output_size : ℕ
output_size = 3

unfoldable pub output_count : List ℕ → ℕ
output_count O = length O / output_size

abbrev pub output_record : List ℕ → ℕ → List ℕ
output_record O o = row_of output_size o O

abbrev pub output_group_in : List ℕ → ℕ
output_group_in R = byte_at R 0

abbrev pub output_block_in : List ℕ → ℕ
output_block_in R = byte_at R 1

abbrev pub output_port_in : List ℕ → ℕ
output_port_in R = byte_at R 2

abbrev pub output_group : List ℕ → ℕ → ℕ
output_group O o = output_group_in (output_record O o)

abbrev pub output_block : List ℕ → ℕ → ℕ
output_block O o = output_block_in (output_record O o)

abbrev pub output_port : List ℕ → ℕ → ℕ
output_port O o = output_port_in (output_record O o)

-- 01, "The case file", T: a cycle record is the elapsed time in 2 bytes, one byte per group, 4 bytes per input
abbrev pub head_size : ℕ
head_size = 2

abbrev pub word_size : ℕ
word_size = 4

unfoldable pub record_size : List ℕ → List ℕ → ℕ
record_size G I = head_size + group_count G + word_size * input_count I

-- 01, "Turned down", 1: no body is longer than a file may be
abbrev pub file_most : ℕ
file_most = 65536

-- 01, "The case file", T: the size of a cycle record as a number of the machine; 0 for bodies that no file has
unfoldable pub size_counted : List ℕ → List ℕ → ℕ
size_counted G I = cond (leb (length G) file_most && leb (length I) file_most) (record_size G I) 0

-- 01, "The case file": the device, how many records each body has, and the size of a cycle record
unfoldable pub counts_of : List ℕ → List ℕ → List ℕ → List ℕ → Counts
counts_of G I B O = record {
  device = device G;
  groups = group_count G;
  inputs = input_count I;
  blocks = block_count B;
  outputs = output_count O;
  size = size_counted G I;
}

-- 01, "The case file": those of a project
abbrev pub counts_in : Project → Counts
counts_in P = counts_of P.groups P.inputs P.blocks P.outputs

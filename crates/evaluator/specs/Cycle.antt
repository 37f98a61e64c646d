-- One cycle of a project (01, "One cycle" and "Finding"): the state, the outputs and the findings that it leaves.
-- G, B and O are the bodies of the groups, the blocks and the outputs, h is how many groups there are, R the record, S
-- the state before the cycle.
use Rattle.std.specs.Prelude.{ℕ, ◌*◌, Bool, List, [], ◌∷◌, ◌++◌}
use Rattle.wire.specs.Words.{bytes4}
use Rattle.wire.specs.Records.{gather}
use Rattle.kind.specs.Devices.{is_err_ack}
use Rattle.project.specs.Project.{group_count, block_count, kind_of, group_of, order_of, parameters_of, link_of}
use Rattle.project.specs.Project.{output_count}
use Rattle.project.specs.Project.{output_block, output_port}
use Rattle.block.specs.Inputs.{first_read, second_read}
use Rattle.block.specs.State.{enters_from}
use Rattle.block.specs.Step.{block_step}
use Rattle.block.specs.Shows.{shows}
use Rattle.block.specs.Finding.{finding_size, finding_of}
use Rattle.evaluator.specs.Net.{Wires, Net, words, seen, after}
use Rattle.evaluator.specs.State.{cell}
use Rattle.evaluator.specs.Groups.{elapsed, control_byte, input_word, new_group, phase}
use Rattle.wire.specs.Packed.{hits, packed}

-- ---- the blocks

-- 01, "One cycle": what port q of block a shows where the block's bytes are s
abbrev pub port_shows : List ℕ → ℕ → ℕ → List ℕ → ℕ
port_shows B a q s = shows (kind_of B a) (parameters_of B a) q s

-- 01, "One cycle": the project's links, the record's inputs, what the ports show
unfoldable pub wires : ℕ → List ℕ → List ℕ → Wires (List ℕ)
wires h B R = record { link = link_of B; given = input_word h R; shows = port_shows B }

-- 01, "Finding": the two words that block b reads, where its input port p reads f p
abbrev pub first_of : List ℕ → ℕ → (ℕ → ℕ) → ℕ
first_of B b f = first_read (kind_of B b) (parameters_of B b) f

abbrev pub second_of : List ℕ → ℕ → (ℕ → ℕ) → ℕ
second_of B b f = second_read (kind_of B b) (parameters_of B b) f

-- 01, "One cycle": block b's bytes after its turn, where its group's phase is ph, its bytes were s and input port p
-- reads f p
unfoldable pub turned_from : List ℕ → List ℕ → ℕ → ℕ → List ℕ → (ℕ → ℕ) → List ℕ
turned_from B R ph b s f =
    block_step (kind_of B b) (parameters_of B b) ph (is_err_ack (control_byte R (group_of B b))) (elapsed R)
    (first_of B b f) (second_of B b f) s

-- 01, "One cycle": the same for every block, where group g is in phase `phases g`
unfoldable pub net : ℕ → List ℕ → List ℕ → (ℕ → ℕ) → Net (List ℕ)
net h B R phases = record { wires = wires h B R; step = λ b. turned_from B R (phases (group_of B b)) b }

-- 01, "One cycle": block b's bytes after the cycle
unfoldable pub ran : ℕ → List ℕ → List ℕ → (ℕ → ℕ) → List ℕ → ℕ → List ℕ
ran h B R phases S b = after (block_count B) (net h B R phases) (order_of B) (cell h S) b

unfoldable pub new_block : List ℕ → List ℕ → List ℕ → List ℕ → ℕ → List ℕ
new_block G B R S b = ran (group_count G) B R (phase G B R S) S b

-- 01, "One cycle": what block b's input ports read when it ran
unfoldable pub words_read : List ℕ → List ℕ → List ℕ → List ℕ → ℕ → ℕ → ℕ
words_read G B R S b =
    words (wires (group_count G) B R) (seen (order_of B) (cell (group_count G) S) (new_block G B R S) b) b

-- ---- what a cycle leaves

-- 01, "Turned down", Sizes: the group bytes, and then the blocks'
unfoldable pub new_head : List ℕ → List ℕ → List ℕ → List ℕ → List ℕ
new_head G B R S = gather (group_count G) (λ g. new_group G B R S g ∷ [])

unfoldable pub new_state : List ℕ → List ℕ → List ℕ → List ℕ → List ℕ
new_state G B R S = new_head G B R S ++ gather (block_count B) (new_block G B R S)

-- 01, "One cycle": external output o, 4 bytes, the port's value when all have run
unfoldable pub output_word : List ℕ → List ℕ → List ℕ → List ℕ → List ℕ → ℕ → ℕ
output_word G B O R S o = port_shows B (output_block O o) (output_port O o) (new_block G B R S (output_block O o))

unfoldable pub new_outputs : List ℕ → List ℕ → List ℕ → List ℕ → List ℕ → List ℕ
new_outputs G B O R S = gather (output_count O) (λ o. bytes4 (output_word G B O R S o))

-- 01, "Finding": what block b's finding says, where its input port p read f p and its bytes are now s
unfoldable pub finding_for : List ℕ → ℕ → (ℕ → ℕ) → List ℕ → List ℕ
finding_for B b f s = finding_of b (group_of B b) (kind_of B b) (first_of B b f) (second_of B b f) s

-- 01, "Finding": for a block that enters 4
unfoldable pub enters : List ℕ → List ℕ → List ℕ → List ℕ → ℕ → Bool
enters G B R S b = enters_from (cell (group_count G) S b) (new_block G B R S b)

unfoldable pub finding : List ℕ → List ℕ → List ℕ → List ℕ → ℕ → List ℕ
finding G B R S b = finding_for B b (words_read G B R S b) (new_block G B R S b)

-- 01, "Finding": in order of block number, unused finding bytes are zero; "Turned down": accepted, a call returns the
-- count of findings
unfoldable pub finding_count : List ℕ → List ℕ → List ℕ → List ℕ → ℕ
finding_count G B R S = hits (block_count B) (enters G B R S)

unfoldable pub new_findings : List ℕ → List ℕ → List ℕ → List ℕ → List ℕ
new_findings G B R S = packed (finding_size * block_count B) (block_count B) (enters G B R S) (finding G B R S)

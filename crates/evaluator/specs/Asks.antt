-- What functions inside a cycle ask of each other, and what the three functions for a trace require and give
-- (DECISIONS 29). Whoever calls `cycle` need not believe it: a call has checked all of it before it runs a cycle (01,
-- "Turned down"). G, B and O are bodies of a project, h is how many groups it has, R a record, S a state.
use Rattle.std.specs.Prelude.{ℕ, ◌+◌, ◌*◌, ◌<◌, ◌≤◌, ◌≡◌, List, [], ◌∷◌, ◌≢◌, length, replicate, eqb, ltb, Bool, true}
use Rattle.std.specs.Prelude.{false, cond}
use Rattle.std.proofs.lemmas.List.Edits.{sets}
use Rattle.std.specs.Prelude.{Option, Some}
use Rattle.wire.specs.Words.{byte_at}
use Rattle.wire.specs.Records.{gather}
use Rattle.kind.specs.Devices.{is_err_ack}
use Rattle.project.specs.declared.Source.{Source}
use Rattle.project.specs.declared.Source.TheVariants.{External, Output}
use Rattle.project.specs.declared.Counts.{Counts}
use Rattle.project.specs.Project.{row_of, device, group_count, input_size, input_count, block_size, block_count}
use Rattle.project.specs.Project.{block_record}
use Rattle.project.specs.Project.{group_of, order_of, link_in, block_at, output_count, output_block, output_port}
use Rattle.project.specs.Project.{head_size, word_size, record_size}
use Rattle.casefile.specs.Sound.{Sound, Shown}
use Rattle.block.specs.State.{only_if, state_size, enters_from}
use Rattle.block.specs.Step.{asks_inputs}
use Rattle.block.specs.Finding.{finding_size, is_finding}
use Rattle.evaluator.specs.Net.{words, seen}
use Rattle.evaluator.specs.State.{state_head, cell, state_length, outputs_length, findings_length, state_formed}
use Rattle.evaluator.specs.Groups.{control_byte, has_error, group_from, phase_of}
use Rattle.evaluator.specs.Cycle.{wires, port_shows, turned_from, ran, finding_for}

-- ---- the blocks and the state

-- 01, "The case file" and "Turned down", Sizes: B has whole records, and the state S has its size
pub record Standing (B S : List ℕ) (h : ℕ) : Type 0 where
  pub long : length B ≡ block_size * block_count B
  pub few_blocks : block_count B ≤ 64
  pub few : h ≤ 8
  pub state : length S ≡ state_head h + state_size * block_count B

-- 01, "Turned down", Sizes: the state S has its size
abbrev pub Sized : ℕ → List ℕ → List ℕ → Type 0
Sized h B S = length S ≡ state_head h + state_size * block_count B

-- 01, "Turned down", 7 and 12: what a link names is there, in the record R and in B
pub record Named (h : ℕ) (B R : List ℕ) (s : Option Source) : Type 0 where
  pub external : (i : ℕ) → s ≡ Some (External i) → head_size + h + word_size * i + word_size ≤ length R
  pub output : (a q : ℕ) → s ≡ Some (Output a q) → a < block_count B

-- 01, "Turned down", 7 and 12: so is what the links of the block with the record Q name, and the groups' bytes are in R
pub record Linked (h : ℕ) (B R Q : List ℕ) : Type 0 where
  pub links : (p : ℕ) → Named h B R (link_in Q p)
  pub long : head_size + h ≤ length R

-- 01, "One cycle": what the turn of block b asks: one of the project's blocks, the record R of its size, and the phases
-- H of eight groups
pub record Due (h : ℕ) (B R H : List ℕ) (b : ℕ) : Type 0 where
  pub inside : b < block_count B
  pub group : group_of B b < h
  pub linked : Linked h B R (block_record B b)
  pub phases : length H ≡ 8

-- 01, "One cycle": block b asks for its inputs in the phase ph
pub record Turning (h : ℕ) (B R S : List ℕ) (b ph : ℕ) : Type 0 where
  pub inside : b < block_count B
  pub asks : asks_inputs ph (is_err_ack (control_byte R (group_of B b))) (cell h S b) ≡ true

-- ---- a turn

-- 01, "One cycle": what the input ports of block b read, where each block is as the state S has it
abbrev pub words_at : ℕ → List ℕ → List ℕ → List ℕ → ℕ → ℕ → ℕ
words_at h B R S b = words (wires h B R) (cell h S) b

-- 01, "One cycle": the phase of block b's group, of a list of the groups' phases
abbrev pub phase_at : List ℕ → List ℕ → ℕ → ℕ
phase_at B H b = byte_at H (group_of B b)

-- 01, "One cycle": block b's bytes after its turn, where its group's phase is ph and each block is as the state S has
-- it
unfoldable pub turned : ℕ → List ℕ → List ℕ → ℕ → List ℕ → ℕ → List ℕ
turned h B R ph S b = turned_from B R ph b (cell h S b) (words_at h B R S b)

-- 01, "Finding": whether it enters 4, and a buffer of findings by block number with what it then says
unfoldable pub entering : ℕ → List ℕ → List ℕ → ℕ → List ℕ → ℕ → Bool
entering h B R ph S b = enters_from (cell h S b) (turned h B R ph S b)

unfoldable pub noted : ℕ → List ℕ → List ℕ → ℕ → List ℕ → ℕ → List ℕ → List ℕ
noted h B R ph S b D =
    cond (entering h B R ph S b)
    (sets D (finding_size * b) (finding_for B b (words_at h B R S b) (turned h B R ph S b))) D

-- 01, "One cycle" and "Finding": a turn of block b in the phase ph took the state from S to S' and the findings by
-- block number from D to D', and answered whether the block entered 4
pub record Took (h : ℕ) (B R : List ℕ) (ph : ℕ) (S S' D D' : List ℕ) (b : ℕ) (x : Bool) : Type 0 where
  pub left : S' ≡ sets S (state_head h + state_size * b) (turned h B R ph S b)
  pub told : D' ≡ noted h B R ph S b D
  pub answered : x ≡ entering h B R ph S b

-- ---- all turns

-- 01, "One cycle": block b's bytes after the cycle, where group g is in the phase that the list H has; and the record
-- of findings by block number: what the block's finding says where it enters 4, else zeros
unfoldable pub ran_with : ℕ → List ℕ → List ℕ → List ℕ → List ℕ → ℕ → List ℕ
ran_with h B R H S b = ran h B R (byte_at H) S b

unfoldable pub enters_with : ℕ → List ℕ → List ℕ → List ℕ → List ℕ → ℕ → Bool
enters_with h B R H S b = enters_from (cell h S b) (ran_with h B R H S b)

unfoldable pub found_with : ℕ → List ℕ → List ℕ → List ℕ → List ℕ → ℕ → List ℕ
found_with h B R H S b =
    finding_for B b (words (wires h B R) (seen (order_of B) (cell h S) (ran_with h B R H S) b) b) (ran_with h B R H S b)

unfoldable pub slot_with : ℕ → List ℕ → List ℕ → List ℕ → List ℕ → ℕ → List ℕ
slot_with h B R H S b = cond (enters_with h B R H S b) (found_with h B R H S b) (replicate finding_size 0)

-- 01, "One cycle": a list of the blocks by execution number
pub record Ranked (B : List ℕ) (n : ℕ) (K : List ℕ) : Type 0 where
  pub long : length K ≡ 64
  pub each : (e : ℕ) → e < n → (byte_at K e < n) × (order_of B (byte_at K e) ≡ e)

-- 01, "One cycle": what running all blocks asks: an accepted project's blocks and links, K the blocks by execution
-- number, a state of its size, no finding yet
pub record Running (h : ℕ) (B R H K S D : List ℕ) (n : ℕ) : Type 0 where
  pub standing : Standing B S h
  pub count : n ≡ block_count B
  pub due : (b : ℕ) → b < n → Due h B R H b
  pub below : (b : ℕ) → b < n → order_of B b < n
  pub apart : (a b : ℕ) → a < n → b < n → a ≢ b → order_of B a ≢ order_of B b
  pub ranked : Ranked B n K
  pub clean : D ≡ replicate (finding_size * n) 0

-- 01, "The case file" and "Turned down", 6: B has the records of n blocks, and their execution numbers are 0 to n-1
pub record Ordered (B : List ℕ) (n : ℕ) : Type 0 where
  pub count : n ≡ block_count B
  pub long : length B ≡ block_size * n
  pub few : n ≤ 64
  pub below : (b : ℕ) → b < n → order_of B b < n
  pub apart : (a b : ℕ) → a < n → b < n → a ≢ b → order_of B a ≢ order_of B b
  pub lands : (e : ℕ) → e < n → (block_at B e < n) × (order_of B (block_at B e) ≡ e)

-- 01, "One cycle": blocks then run by execution number. A byte for each of 64 numbers: the block that has it, else 0
unfoldable pub order_list : List ℕ → List ℕ
order_list B = gather 64 (λ e. only_if (ltb e (block_count B)) (block_at B e) ∷ [])

-- ---- the groups

-- 01, "One cycle": a byte for each of eight groups, 1 where some block of the group is in ERROR
unfoldable pub error_list : ℕ → List ℕ → List ℕ → List ℕ
error_list h B S = gather 8 (λ g. only_if (has_error h B S g) 1 ∷ [])

-- what a list E of such bytes says of group g
abbrev pub says_error : List ℕ → ℕ → Bool
says_error E g = eqb (byte_at E g) 1

-- 01, "The case file": the blocks of an accepted project have groups below 8
pub record Grouped (B : List ℕ) (n : ℕ) : Type 0 where
  pub count : n ≡ block_count B
  pub few : n ≤ 64
  pub groups : (b : ℕ) → b < n → group_of B b < 8

-- 01, "One cycle": group g's byte after the cycle, where E says which groups have an error
abbrev pub group_with : List ℕ → List ℕ → List ℕ → List ℕ → ℕ → ℕ
group_with E G R S g = group_from (device G) (says_error E g) R S g

-- 01, "One cycle": a list of eight has the phases of the first h groups
pub record Decided (E G R S : List ℕ) (h : ℕ) (H : List ℕ) : Type 0 where
  pub long : length H ≡ 8
  pub each : (g : ℕ) → g < h → byte_at H g ≡ phase_of G R (group_with E G R S g) g

-- ---- the findings and the outputs

-- 01, "Finding": records of findings by block number, each a finding or zeros
abbrev pub note_in : List ℕ → ℕ → List ℕ
note_in D b = row_of finding_size b D

unfoldable pub is_noted : List ℕ → ℕ → Bool
is_noted D b = is_finding (note_in D b)

pub record Noted (D : List ℕ) (n : ℕ) : Type 0 where
  pub long : length D ≡ finding_size * n
  pub few : n ≤ 64
  pub empty : (b : ℕ) → b < n → is_noted D b ≡ false → note_in D b ≡ replicate finding_size 0

-- 01, "One cycle": what the port of external output o shows in the state S
unfoldable pub output_shown : ℕ → List ℕ → List ℕ → List ℕ → ℕ → ℕ
output_shown h B O S o = port_shows B (output_block O o) (output_port O o) (cell h S (output_block O o))

-- ---- a whole cycle

-- 01, "One cycle": what a trace has between two cycles: the bodies of a project's groups and blocks, of which it has n
-- external inputs, the counts, the blocks by execution number, the groups with an error, a well-formed state of its
-- size, and zeros for the findings
pub record Begun (c : Counts) (n : ℕ) (G B K E S D : List ℕ) : Type 0 where
  pub sound : Sound G B n
  pub groups : c.groups ≡ group_count G
  pub blocks : c.blocks ≡ block_count B
  pub order : K ≡ order_list B
  pub errors : E ≡ error_list (group_count G) B S
  pub size : length S ≡ state_length G B
  pub formed : state_formed G B S ≡ true
  pub clean : D ≡ replicate (findings_length B) 0

-- 01, "One cycle": what a cycle asks: all that, and a record of its size
pub record Ready (c : Counts) (G B K E R S D : List ℕ) : Type 0 where
  pub inputs : ℕ
  pub begun : Begun c inputs G B K E S D
  pub given : length R ≡ head_size + group_count G + word_size * inputs

-- 01, "Turned down": a call that was not turned down. W is the body of external outputs, O the lent buffer
pub record Admitted (c : Counts) (G B W R S O D : List ℕ) : Type 0 where
  pub inputs : ℕ
  pub sound : Sound G B inputs
  pub shown : Shown B W
  pub groups : c.groups ≡ group_count G
  pub blocks : c.blocks ≡ block_count B
  pub rows : c.outputs ≡ output_count W
  pub given : length R ≡ head_size + group_count G + word_size * inputs
  pub state : length S ≡ state_length G B
  pub outputs : length O ≡ outputs_length W
  pub findings : length D ≡ findings_length B
  pub formed : state_formed G B S ≡ true

-- 01, "Turned down", 12: what the test of a record asks: the counts of the groups and the inputs, which are whole and
-- few
pub record Listed (c : Counts) (G I : List ℕ) : Type 0 where
  pub device : c.device ≡ device G
  pub groups : c.groups ≡ group_count G
  pub inputs : c.inputs ≡ input_count I
  pub size : c.size ≡ record_size G I
  pub few_groups : group_count G ≤ 8
  pub few_inputs : input_count I ≤ 128
  pub long : length I ≡ input_size * input_count I

-- 01, "Turned down", 11: what the test of a state asks
pub record Whole (B : List ℕ) (h n : ℕ) : Type 0 where
  pub count : n ≡ block_count B
  pub few : block_count B ≤ 64
  pub long : length B ≡ block_size * block_count B
  pub few_groups : h ≤ 8

-- 01, "Turned down", Sizes: counts that are small
abbrev pub Few : Counts → Type 0
Few c = (c.groups ≤ 8) × ((c.blocks ≤ 64) × (c.outputs ≤ 64))

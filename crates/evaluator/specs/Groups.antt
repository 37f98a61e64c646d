-- A cycle's record, and what a group decides before its blocks run (01, "The case file", T, and "One cycle").
-- G and B are the bodies of the groups and the blocks, h is how many groups there are, R the record, S the state before
-- the cycle.
use Rattle.std.specs.Prelude.{ℕ, ◌+◌, ◌*◌, Bool, cond, not, ◌&&◌, ◌||◌, List, eqb}
use Rattle.wire.specs.Words.{byte_at, le16, le32}
use Rattle.wire.specs.Places.{all}
use Rattle.kind.specs.Devices.{is_run, is_err_ack, is_pending}
use Rattle.project.specs.Project.{head_size, word_size, device, group_count, run_linked, block_count, group_of}
use Rattle.block.specs.State.{phase_stop, phase_run, phase_error, phase_reset, is_error}
use Rattle.evaluator.specs.State.{group_byte, cell, is_held, is_acknowledged}

-- ---- the record

-- 01, "The case file", T: the elapsed time in ms (16-bit), one byte per group, 4 bytes per input
abbrev pub elapsed : List ℕ → ℕ
elapsed R = le16 R 0

abbrev pub control_byte : List ℕ → ℕ → ℕ
control_byte R g = byte_at R (head_size + g)

unfoldable pub input_word : ℕ → List ℕ → ℕ → ℕ
input_word h R i = le32 R (head_size + h + word_size * i)

-- ---- the group

-- 01, "One cycle": block b is of group g and ended the last cycle in ERROR
unfoldable pub erred_in : ℕ → List ℕ → List ℕ → ℕ → ℕ → Bool
erred_in h B S g b = eqb (group_of B b) g && is_error (cell h S b)

-- 01, "One cycle": some block of the group did
unfoldable pub has_error : ℕ → List ℕ → List ℕ → ℕ → Bool
has_error h B S g = not (all (λ b. not (erred_in h B S g b)) (block_count B))

-- 01, "One cycle": pending means ComErr, ModuleFault, or some block of the group ended the last cycle in ERROR
abbrev pub pends : ℕ → ℕ → Bool → Bool
pends d v error = is_pending d v || error

-- 01, "One cycle", 1 to 3. 1: pending, held set, acknowledged cleared; 2: else held and ErrAck true, acknowledged set;
-- 3: else held, acknowledged, ErrAck false, both cleared
unfoldable pub group_next : Bool → Bool → ℕ → ℕ
group_next pending ack old =
    cond pending 1
    (cond (is_held old && ack) 3
    (cond (is_held old && is_acknowledged old && not ack) 0
    old))

-- 01, "One cycle": phase STOP if Run is false, else RUN if not held, else RESET if acknowledged, else ERROR
unfoldable pub phase_from : Bool → ℕ → ℕ
phase_from run new =
    cond (not run) phase_stop (cond (not (is_held new)) phase_run (cond (is_acknowledged new) phase_reset phase_error))

-- 01, "The case file", T: where Run is not linked, Run counts as true
abbrev pub runs_with : ℕ → ℕ → Bool
runs_with linked v = eqb linked 0 || is_run v

-- 01, "One cycle": group g's byte after the cycle, where some block of it is in ERROR or none; and its phase in it
unfoldable pub group_from : ℕ → Bool → List ℕ → List ℕ → ℕ → ℕ
group_from d error R S g =
    group_next (pends d (control_byte R g) error) (is_err_ack (control_byte R g)) (group_byte S g)

unfoldable pub phase_of : List ℕ → List ℕ → ℕ → ℕ → ℕ
phase_of G R new g = phase_from (runs_with (run_linked G g) (control_byte R g)) new

unfoldable pub new_group : List ℕ → List ℕ → List ℕ → List ℕ → ℕ → ℕ
new_group G B R S g = group_from (device G) (has_error (group_count G) B S g) R S g

unfoldable pub phase : List ℕ → List ℕ → List ℕ → List ℕ → ℕ → ℕ
phase G B R S g = phase_of G R (new_group G B R S g) g

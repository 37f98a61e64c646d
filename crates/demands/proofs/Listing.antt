-- Cycle calls with all that each answers and leaves, by computation of the definitions. The file that 01, "The trace
-- program", writes out, both of its cycles from the fresh state: the first, which is P2, ends in RUN with
-- 30000 + 2767 = 32767 and no finding, the second in ERROR with the one finding that the paper prints. And P1, which
-- ends in ERROR from the fresh state. Assumes nothing.
use Rattle.wire.proofs.Usual.{ℕ, ◌≡◌, refl, sym, ap, ◌∙◌, List, ◌∷◌, ◌++◌, replicate}
use Rattle.wire.specs.Words.{bytes2, bytes4}
use Rattle.wire.specs.Records.{slot, gather}
use Rattle.wire.specs.Places.{first_bad, all}
use Rattle.numbers.specs.Types.{type_of, value, inside}
use Rattle.numbers.specs.Results.{exact, settled, outcome, text_of}
use Rattle.contents.specs.Contents.{body_start, body_size, body_of, follows_ok, contents_ok}
use Rattle.kind.specs.Kinds.{family_of}
use Rattle.kind.specs.Masks.{is_within, meets}
use Rattle.kind.specs.Devices.{device_of}
use Rattle.project.specs.Project.{row_of, device, group_count, run_linked, input_count, block_count, parameters_in}
use Rattle.project.specs.Project.{link_in}
use Rattle.project.specs.Project.{output_count, record_size}
use Rattle.casefile.specs.Bodies.{body_in, project_of, record_of}
use Rattle.std.specs.Prelude.{Ok}
use Rattle.casefile.specs.Refusal.{verdict}
use Rattle.block.specs.State.{decode, encode, fresh_bytes, enters_from}
use Rattle.block.specs.Formed.{arithmetic_ok, formed, well_formed}
use Rattle.block.specs.Inputs.{first_read_of, first_read, second_read_of, second_read}
use Rattle.block.specs.Arithmetic.{op_of, result_of}
use Rattle.block.specs.Step.{arithmetic_step, read_of, step_of, block_step}
use Rattle.block.specs.Shows.{shows_of, shows, word_ok}
use Rattle.block.specs.Finding.{finding_bytes, said_of, finding_of}
use Rattle.evaluator.specs.Net.{after}
use Rattle.evaluator.specs.State.{cell, state_length, outputs_length, findings_length, cell_formed, state_formed}
use Rattle.evaluator.specs.Groups.{input_word, erred_in, has_error, group_next, phase_from, group_from, phase_of}
use Rattle.evaluator.specs.Groups.{new_group}
use Rattle.evaluator.specs.Groups.{phase}
use Rattle.wire.specs.Packed.{entries, hits, packed}
use Rattle.evaluator.specs.Cycle.{wires, turned_from, net, ran, new_block, words_read, new_head, new_state, output_word}
use Rattle.evaluator.specs.Cycle.{new_outputs, finding_for, enters, finding, finding_count, new_findings}
use Rattle.evaluator.specs.Answer.{Lent, Left, lends, leaves, control_ok, input_fits, record_ok, sizes_ok}
use Rattle.evaluator.specs.Answer.{call_tested}
use Rattle.evaluator.specs.Answer.{cycle_of}
use Rattle.evaluator.specs.Fresh.{fresh_for}
use Rattle.evaluator.proofs.Calls.{verdict_tested, call_done}
use Rattle.demands.specs.Listing.{listing}
use Rattle.demands.specs.Examples.{subtraction, subtraction_record}
use Rattle.demands.proofs.Accepted.{accepted_all}

-- what a call leaves, by its count of findings and its three buffers
abbrev counted : ℕ → List ℕ → List ℕ → List ℕ → Left
counted n state outputs findings = record { answer = Ok n; lent = lends state outputs findings }

-- the fresh state, and buffers of zeros of the right sizes
abbrev pub at_first : Lent
at_first = lends (fresh_for (project_of listing)) (replicate 4 0) (replicate 16 0)

-- after the first cycle: the group is not held, the block is in RUN with 32767, which output 0 shows, and there is no
-- finding
abbrev pub after_first : Left
after_first = counted 0 (0 ∷ 1 ∷ replicate 11 0 ++ bytes4 32767) (bytes4 32767) (replicate 16 0)

-- after the second: the block is in ERROR with diagnosis 2, output 0 shows 0, and the one finding has block 0, group 0,
-- text ID 16513, diagnosis 2 and the inputs 30000 and 2768
abbrev pub after_second : Left
after_second =
    counted 1 (0 ∷ 4 ∷ 0 ∷ bytes2 2 ++ replicate 12 0) (replicate 4 0)
    (0 ∷ 0 ∷ bytes2 16513 ++ bytes2 2 ++ 0 ∷ 0 ∷ bytes4 30000 ++ bytes4 2768)

-- P1: the fresh state and buffers of zeros; and after its cycle: the block is in ERROR with diagnosis 1, output 0 shows
-- 0, and the one finding has text ID 16512 and the inputs -32768 and 1
abbrev pub before_p1 : Lent
before_p1 = lends (fresh_for (project_of subtraction)) (replicate 4 0) (replicate 16 0)

abbrev pub after_p1 : Left
after_p1 =
    counted 1 (0 ∷ 4 ∷ 0 ∷ bytes2 1 ++ replicate 12 0) (replicate 4 0)
    (0 ∷ 0 ∷ bytes2 16512 ++ bytes2 1 ++ 0 ∷ 0 ∷ bytes4 4294934528 ++ bytes4 1)

-- no call is turned down by what is lent or by its record
fit : (call_tested (project_of listing) (record_of listing 0) at_first ≡ Ok tt)
    × (call_tested (project_of listing) (record_of listing 1) after_first.lent ≡ Ok tt)
    × (call_tested (project_of subtraction) subtraction_record before_p1 ≡ Ok tt)
unfolding listing subtraction project_of record_of body_start body_size body_of follows_ok contents_ok body_in
    row_of sizes_ok state_length outputs_length findings_length state_formed cell_formed well_formed formed
    arithmetic_ok record_ok control_ok input_fits word_ok input_word cell fresh_for fresh_bytes encode decode type_of
    value inside family_of device_of is_within device group_count run_linked input_count block_count parameters_in
    output_count record_size slot gather first_bad all
fit = (refl, refl, refl)

-- so the call answers and leaves what the cycle does
done : (F : List ℕ) → verdict F ≡ Ok tt → (R : List ℕ) (L : Lent) →
    call_tested (project_of F) R L ≡ Ok tt →
    cycle_of F R L ≡ leaves (Ok tt) (project_of F) R L
done F ok R L e = call_done F R L (sym (verdict_tested F R L ok (project_of F) refl) ∙ e)

-- the cycles
computed : (leaves (Ok tt) (project_of listing) (record_of listing 0) at_first ≡ after_first)
    × (leaves (Ok tt) (project_of listing) (record_of listing 1) after_first.lent ≡ after_second)
    × (leaves (Ok tt) (project_of subtraction) subtraction_record before_p1 ≡ after_p1)
unfolding listing subtraction project_of record_of body_start body_size body_of follows_ok contents_ok body_in row_of
    finding_count new_state new_head new_outputs new_findings output_word new_group group_from new_block ran
    words_read enters enters_from finding finding_for finding_of said_of finding_bytes text_of hits packed entries
    after net wires turned_from block_step phase phase_of phase_from group_next has_error erred_in input_word cell
    fresh_for fresh_bytes encode decode shows shows_of first_read first_read_of second_read second_read_of step_of
    read_of arithmetic_step result_of op_of outcome settled exact type_of value family_of device_of meets device
    group_count run_linked input_count block_count parameters_in link_in output_count record_size slot gather
    first_bad all
computed = (refl, refl, refl)

-- 01, "The trace program": the first cycle, from the fresh state
pub listing_first : cycle_of listing (record_of listing 0) at_first ≡ after_first
listing_first = done listing accepted_all.0.0 (record_of listing 0) at_first fit.0 ∙ computed.0

-- 01, "The trace program": the second cycle, from what the first left
pub listing_second :
    cycle_of listing (record_of listing 1) (cycle_of listing (record_of listing 0) at_first).lent ≡ after_second
listing_second =
    ap (λ (L : Left). cycle_of listing (record_of listing 1) L.lent) listing_first
    ∙ done listing accepted_all.0.0 (record_of listing 1) after_first.lent fit.1
    ∙ computed.1

-- 01, "Marked examples": P1, and P2
pub p1_call : cycle_of subtraction subtraction_record before_p1 ≡ after_p1
p1_call = done subtraction accepted_all.0.1 subtraction_record before_p1 fit.2 ∙ computed.2

pub p2_call : cycle_of listing (record_of listing 0) at_first ≡ after_first
p2_call = listing_first

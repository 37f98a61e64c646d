-- The three demands on the product, over bytes (01, "What the reviewer must be able to rely on" and "Turned down:
-- numbers and order"). F is a file, R a cycle's record, L the three lent buffers, `cycle_of F R L` what the call
-- answers and leaves. The contract of `evaluator::cycle` is an equation with `cycle_of` for the answer and for each
-- buffer, so what is proved of `cycle_of` holds of the code; so do those of `casefile::check`, `evaluator::sizes_of`,
-- `fresh` and `tracer::trace` with the definitions named here. The proofs are `demand1`, `demand2`, `demand3` and
-- `traces` of proofs/Demand1.antt to Demand3.antt and Traces.antt.
--
-- That the demands speak of something is computed in proofs/Accepted.antt, Listing.antt, ListingText.antt and
-- Pair.antt. `accepted_all`: four files are accepted. `listing_first` and `listing_second` are the two cycles of 01's
-- listing as cycle calls, `listing_end` and `listing_text` how its trace ends and the two lines that it prints.
-- `p1_call` and `p2_call` are P1 and P2 as cycle calls. Two of the four files differ in their execution numbers
-- (`pair_differs`), are alike for demand 3 (`pair_alike`), and so have the same runs (`pair_runs`).
use Rattle.std.specs.Prelude.{ℕ, zero, suc, ◌+◌, ◌*◌, ◌≤◌, ◌<◌, ◌≡◌, ◌↔◌, ◌≢◌, Bool, true, ◌&&◌, List, [], ◌∷◌, ◌++◌}
use Rattle.std.specs.Prelude.{map, leb, Result, Ok, Err}
use Rattle.wire.specs.Words.{byte_at}
use Rattle.wire.specs.Records.{slot}
use Rattle.wire.specs.Tables.{Row, FirstIn, AllKept}
use Rattle.project.specs.Project.{Project, group_count, block_count, kind_of, group_of, order_of}
use Rattle.project.specs.Alike.{Alike}
use Rattle.casefile.specs.Bodies.{body_t, body_in, project_of, record_count}
use Rattle.casefile.specs.Refusal.{file_table, verdict, number_of}
use Rattle.block.specs.Finding.{finding_size, finding_of}
use Rattle.evaluator.specs.declared.Refusal.{Refusal}
use Rattle.evaluator.specs.Net.{words, seen}
use Rattle.evaluator.specs.State.{cell, state_length, outputs_length, findings_length, state_formed}
use Rattle.evaluator.specs.Groups.{phase}
use Rattle.wire.specs.Packed.{hits}
use Rattle.evaluator.specs.Cycle.{wires, first_of, second_of, turned_from, new_block, words_read, new_state}
use Rattle.evaluator.specs.Cycle.{new_outputs}
use Rattle.evaluator.specs.Cycle.{new_findings, enters, finding_count}
use Rattle.evaluator.specs.Answer.{Lent, Left, call_table, cycle_of, number_in}
use Rattle.evaluator.specs.Runs.{run}
use Rattle.evaluator.specs.Fresh.{sizes_of, sizes_number, fresh_for, fresh_table, fresh_number, fresh_verdict}
use Rattle.evaluator.specs.Fresh.{fresh_left}
use Rattle.report.specs.Lines.{refused_line}
use Rattle.tracer.specs.declared.Ran.{Ran}
use Rattle.tracer.specs.Traced.{records_from, fresh_lent, calls, goes_on, all_ran, end_number, end_of}
use Rattle.tracer.specs.Text.{lines_of, last_line, trace_text}

-- ---- demand 1: the first rule in the order that is not kept, exactly then

-- 01, "Turned down": the rules stand in the order of their numbers, so that the first is the lowest. No number of the
-- rows is below the one before it, nor the first below n
unfoldable pub rising : ℕ → List Row → Bool
rising n [] = true
rising n (r ∷ rs) = leb n r.number && rising r.number rs

-- 01, "Turned down": the lowest number wins. n is the number of the first rule of the table t that is not kept, and 0
-- exactly where each is kept
pub record Numbered (t : List Row) (n : ℕ) : Type 0 where
  pub refused : (k : ℕ) → (n ≡ suc k) ↔ FirstIn t (suc k)
  pub accepted : (n ≡ 0) ↔ AllKept t
  pub lowest : rising 1 t ≡ true

-- 01, "Turned down": a cycle call gives 1 to 12; refused, it writes nothing and returns the number; accepted, it
-- returns the count of findings. `call_table F R L` has its rules in their order, each with its number
pub record Answered (F R : List ℕ) (L : Lent) : Type 0 where
  pub number : Numbered (call_table F R L) (number_in (cycle_of F R L).answer)
  pub untouched : number_in (cycle_of F R L).answer ≢ 0 → (cycle_of F R L).lent ≡ L
  pub count :
      number_in (cycle_of F R L).answer ≡ 0 →
      (cycle_of F R L).answer ≡ Ok (finding_count (project_of F).groups (project_of F).blocks R L.state)

-- 01, "Turned down", Sizes: an accepted file is told the exact sizes of its three buffers
pub record SizesAnswered (F : List ℕ) : Type 0 where
  pub number : Numbered (file_table F) (sizes_number (sizes_of F))
  pub told :
      sizes_number (sizes_of F) ≡ 0 →
      sizes_of F
      ≡ Ok (record {
        state = state_length (project_of F).groups (project_of F).blocks;
        outputs = outputs_length (project_of F).outputs;
        findings = findings_length (project_of F).blocks;
      })

-- 01, "Turned down", 10, and "Block state", Fresh: the fresh state takes a file and a buffer, which a refused call
-- leaves as it was. `fresh_table F S` has the file's rules and then 10, and the answer's number is `fresh_number F S`
pub record FreshAnswered (F S : List ℕ) : Type 0 where
  pub answer : number_in (fresh_verdict F S) ≡ fresh_number F S
  pub number : Numbered (fresh_table F S) (fresh_number F S)
  pub untouched : fresh_number F S ≢ 0 → fresh_left F S ≡ S
  pub written : fresh_number F S ≡ 0 → fresh_left F S ≡ fresh_for (project_of F)

-- 01, "What the reviewer must be able to rely on": demand 1's "exactly then", for every file, record, state, outputs
-- and findings. Checking a file and asking for its sizes give 1 to 9, and lend nothing to be written: `casefile::check`
-- and `evaluator::sizes_of` take the file by `&`, and answer `verdict F` and `sizes_of F`
pub record Demand1 : Type 0 where
  pub calls : (F R : List ℕ) (L : Lent) → Answered F R L
  pub checks : (F : List ℕ) → Numbered (file_table F) (number_of (verdict F))
  pub sizes : (F : List ℕ) → SizesAnswered F
  pub fresh : (F S : List ℕ) → FreshAnswered F S

-- ---- demand 2: an accepted cycle leaves exactly what the definitions say

-- 01, "What the reviewer must be able to rely on": what is known of an accepted call that answered k, where S was the
-- state, and G, B and O are the project's groups, blocks and outputs
pub record Cycled (F R : List ℕ) (L : Lent) (G B O S : List ℕ) (k : ℕ) : Type 0 where
  -- 01, "One cycle" and "Finding": the three buffers
  pub state : (cycle_of F R L).lent.state ≡ new_state G B R S
  pub outputs : (cycle_of F R L).lent.outputs ≡ new_outputs G B O R S
  pub findings : (cycle_of F R L).lent.findings ≡ new_findings G B R S
  -- 01, "What the reviewer must be able to rely on": the count is the number of blocks entering 4
  pub counted : k ≡ hits (block_count B) (enters G B R S)
  -- 01, "One cycle": each block's new bytes are its step from the old ones, on what it read
  pub stepped :
      (b : ℕ) → b < block_count B →
      new_block G B R S b ≡ turned_from B R (phase G B R S (group_of B b)) b (cell (group_count G) S b)
      (words_read G B R S b)
  -- 01, "One cycle": it reads the new bytes of the blocks with smaller execution numbers and the old ones of the others
  pub read :
      (b : ℕ) →
      words_read G B R S b
      ≡ words (wires (group_count G) B R) (seen (order_of B) (cell (group_count G) S) (new_block G B R S) b) b
  -- 01, "One cycle": and no other bytes meet these two
  pub only :
      (new : ℕ → List ℕ) →
      ((b : ℕ) → b < block_count B →
      new b
      ≡ turned_from B R (phase G B R S (group_of B b)) b (cell (group_count G) S b)
      (words (wires (group_count G) B R) (seen (order_of B) (cell (group_count G) S) new b) b)) →
      (b : ℕ) → b < block_count B → new b ≡ new_block G B R S b
  -- 01, "Finding": the finding of a block that enters 4 stands after those of the blocks with lower numbers; its two
  -- inputs are those that the block read when it ran
  pub found :
      (b : ℕ) → b < block_count B → enters G B R S b ≡ true →
      slot 0 finding_size (hits b (enters G B R S)) (cycle_of F R L).lent.findings
      ≡ finding_of b (group_of B b) (kind_of B b)
      (first_of B b (words_read G B R S b)) (second_of B b (words_read G B R S b)) (new_block G B R S b)
  -- 01, "Finding": unused finding bytes are zero
  pub unused : (i : ℕ) → finding_size * k ≤ i → byte_at (cycle_of F R L).lent.findings i ≡ 0
  -- 01, "What the reviewer must be able to rely on": each state that an accepted cycle leaves is well formed
  pub formed : state_formed G B (cycle_of F R L).lent.state ≡ true

-- 01, "What the reviewer must be able to rely on": the same of a project
abbrev pub CycledBy : List ℕ → List ℕ → Lent → Project → ℕ → Type 0
CycledBy F R L P k = Cycled F R L P.groups P.blocks P.outputs L.state k

-- 01, "What the reviewer must be able to rely on": demand 2, and that the fresh state of an accepted project is well
-- formed
pub record Demand2 : Type 0 where
  pub cycles :
      (F R : List ℕ) (L : Lent) (k : ℕ) → (cycle_of F R L).answer ≡ Ok k → CycledBy F R L (project_of F) k
  pub fresh :
      (F : List ℕ) → verdict F ≡ Ok tt →
      state_formed (project_of F).groups (project_of F).blocks (fresh_for (project_of F)) ≡ true

-- ---- demand 3: only the order along links matters

-- 01, "What the reviewer must be able to rely on": demand 3, over demand 2's definition. Two accepted files whose
-- projects are alike give the same answers and leave the same bytes, over the same records, refused ones among them
unfoldable pub Demand3 : Type 0
Demand3 =
    (F F' : List ℕ) → verdict F ≡ Ok tt → verdict F' ≡ Ok tt →
    Alike (project_of F) (project_of F') → (Rs : List (List ℕ)) (L : Lent) → run F Rs L ≡ run F' Rs L

-- ---- a whole trace: the calls of the demands, one after the other

-- 01, "The trace program": how a trace over some records ends, and what it prints but for its last line
pub record Printout : Type 0 where
  pub end : Result Ran Refusal
  pub text : List ℕ

-- 01, "The trace program": the cycle call folded over the records, each from what the one before it left, up to the
-- first that is turned down. c cycles have run so far, with n findings
unfoldable pub trace_over : List ℕ → List (List ℕ) → Lent → ℕ → ℕ → Printout
trace_over F [] L c n = record { end = all_ran c n; text = [] }
trace_over F (R ∷ Rs) L c n =
    goes_on (cycle_of F R L).answer (λ r. record { end = Err r; text = [] })
    (λ k.
    let rest = trace_over F Rs (cycle_of F R L).lent (c + 1) (n + k) in
    record {
      end = rest.end;
      text = lines_of (project_of F).blocks (c + 1) k (cycle_of F R L).lent.findings ++ rest.text;
    })

-- 01, "The trace program": what is turned down first ends it. The first number that is not 0, and 0 where each is
unfoldable pub first_number : List ℕ → ℕ
first_number [] = 0
first_number (zero ∷ ns) = first_number ns
first_number (suc n ∷ ns) = suc n

-- 01, "Turned down": the numbers that calls answered, 0 for accepted
abbrev pub numbers_of : List Left → List ℕ
numbers_of ls = map (λ (l : Left). number_in l.answer) ls

-- 01, "The trace program": `tracer::trace` answers `end_of F`. Each text that is handed to its writing functions is a
-- piece of `trace_text F` (`tracer`, Text `Told` and `last_line`); that each piece is written, once and in order, is
-- read off its few lines and tested. End and text are, of a file that is turned down, its number, and of an accepted
-- one the fold of the cycle call over the records of T from the fresh state. The end's number is the first that is not
-- 0 of the file's and the calls'. Renumbering changes neither end nor text, where T is the same
pub record Traces : Type 0 where
  pub refused :
      (F : List ℕ) (n : ℕ) → number_of (verdict F) ≡ suc n →
      (end_number (end_of F) ≡ suc n) × (trace_text F ≡ refused_line (suc n))
  pub folded :
      (F : List ℕ) → verdict F ≡ Ok tt →
      let t = trace_over F (records_from F 0 (record_count F)) (fresh_lent F) 0 0 in
      (end_of F ≡ t.end) × (trace_text F ≡ t.text ++ last_line t.end)
  pub number : (F : List ℕ) → end_number (end_of F) ≡ first_number (number_of (verdict F) ∷ numbers_of (calls F))
  pub renumbered :
      (F F' : List ℕ) → verdict F ≡ Ok tt → verdict F' ≡ Ok tt →
      Alike (project_of F) (project_of F') → body_in F body_t ≡ body_in F' body_t →
      (end_of F ≡ end_of F') × (trace_text F ≡ trace_text F')

-- A cycle call over an accepted file, from buffers of their sizes and a well-formed state: it answers and leaves what a
-- step does, and what it leaves may be lent to the next call. Assumes nothing.
use Rattle.wire.proofs.Usual.{◌≡◌, refl, sym, ◌∙◌, subst, Bool, true, false, List, ℕ, ◌-◌, ◌*◌, ◌≤◌}
use Rattle.wire.proofs.Usual.{arith, eq-eqb, length, replicate, length-append, length-replicate}
use native.Mathlib.Nat.{mul-le-mul_left}
use Rattle.std.specs.Prelude.{Ok}
use Rattle.wire.specs.Words.{bytes4}
use Rattle.wire.proofs.Records.{length-gather}
use Rattle.wire.proofs.Packing.{hits_most, entries-length}
use Rattle.project.specs.Project.{Project, block_count, word_size, output_count}
use Rattle.casefile.specs.Bodies.{project_of}
use Rattle.casefile.specs.Refusal.{verdict}
use Rattle.casefile.proofs.Accepted.{accepted}
use Rattle.block.specs.Finding.{finding_size}
use Rattle.evaluator.specs.State.{state_length, outputs_length, findings_length, state_formed}
use Rattle.evaluator.specs.declared.Refusal.TheVariants.{Record}
use Rattle.wire.specs.Packed.{entries, packed}
use Rattle.evaluator.specs.Cycle.{new_outputs, new_findings, enters, finding, output_word}
use Rattle.evaluator.specs.Answer.{record_ok, Lent, Left, sizes_ok, call_tested, call_verdict, leaves, cycle_of}
use Rattle.evaluator.specs.Steps.{step_answer, step_state, step_findings}
use Rattle.evaluator.proofs.Running.{found_length}
use Rattle.evaluator.proofs.Checking.{Taken, taken}
use Rattle.evaluator.proofs.Checked.{new_long, new_formed}
use Rattle.evaluator.proofs.Calls.{tested_record, tested_none, verdict_tested, call_refused, call_done}

-- ---- how long what a cycle leaves is

module _ (w : ℕ) (hit : ℕ → Bool) (f : ℕ → List ℕ) (long : (b : ℕ) → length (f b) ≡ w) where
  entries_few : (n : ℕ) → length (entries n hit f) ≤ w * n
  entries_few n = omega (arith, entries-length w hit f n (λ b _. long b), mul-le-mul_left w (hits_most n hit))

  packed_long : (n : ℕ) → length (packed (w * n) n hit f) ≡ w * n
  unfolding packed
  packed_long n =
      let m = w * n - length (entries n hit f) in
      length-append (entries n hit f) (replicate m 0)
      ∙ omega (arith, length-replicate {A = ℕ} m 0, entries_few n)

module _ (G B R S : List ℕ) where
  pub findings_long : length (new_findings G B R S) ≡ findings_length B
  unfolding new_findings findings_length finding
  findings_long =
      packed_long finding_size (enters G B R S) (finding G B R S) (λ b. found_length B b _ _) (block_count B)

  pub outputs_long : (O : List ℕ) → length (new_outputs G B O R S) ≡ outputs_length O
  unfolding new_outputs outputs_length
  outputs_long O =
      length-gather word_size (output_count O) (λ o. bytes4 (output_word G B O R S o)) (λ o _. refl)

-- buffers of their sizes
pub sizes_are : (P : Project) (L : Lent) → length L.state ≡ state_length P.groups P.blocks →
    length L.outputs ≡ outputs_length P.outputs → length L.findings ≡ findings_length P.blocks →
    sizes_ok P L ≡ true
unfolding sizes_ok
sizes_are P L s o d = rw (eq-eqb _ _ s, eq-eqb _ _ o, eq-eqb _ _ d)

-- ---- the call

-- l is what a step with the record R leaves of what was lent, and may be lent again
pub record Stepped (P : Project) (R : List ℕ) (L : Lent) (l : Left) : Type 0 where
  pub answer : l.answer ≡ step_answer P.groups P.inputs P.blocks R L.state
  pub state : l.lent.state ≡ step_state P.groups P.inputs P.blocks R L.state
  pub findings : l.lent.findings ≡ step_findings P.groups P.inputs P.blocks R L.state L.findings
  pub sizes : sizes_ok P l.lent ≡ true
  pub formed : state_formed P.groups P.blocks l.lent.state ≡ true

pub stepped : (F R : List ℕ) (L : Lent) → verdict F ≡ Ok tt → sizes_ok (project_of F) L ≡ true →
    state_formed (project_of F).groups (project_of F).blocks L.state ≡ true →
    Stepped (project_of F) R L (cycle_of F R L)
unfolding step_answer step_state step_findings
stepped F R L z sizes formed = go (record_ok P.groups P.inputs R) refl
  where
    P : Project
    P = project_of F

    t : Taken P
    t = taken F (accepted F z)

    tested : call_tested P R L ≡ call_verdict F R L
    tested = verdict_tested F R L z P refl

    go : (b : Bool) → record_ok P.groups P.inputs R ≡ b → Stepped P R L (cycle_of F R L)
    go true e =
        subst (Stepped P R L) (sym (call_done F R L (sym tested ∙ sym (tested_none P R L sizes formed e))))
        (record {
          answer = rw e;
          state = rw e;
          findings = rw e;
          sizes =
              sizes_are P (leaves (Ok tt) P R L).lent (new_long P.groups P.blocks R L.state t.sound)
              (outputs_long P.groups P.blocks R L.state P.outputs)
              (findings_long P.groups P.blocks R L.state);
          formed = new_formed P.groups P.blocks R L.state t.sound formed;
        })
    go false e =
        subst (Stepped P R L)
        (sym (call_refused F R L Record (sym tested ∙ sym (tested_record P R L sizes formed e))))
        (record {
          answer = rw e;
          state = rw e;
          findings = rw e;
          sizes = sizes;
          formed = formed;
        })

-- A fresh state that was written is that of an accepted file, and one that was not has the file's refusal.
use Rattle.wire.proofs.Usual.{◌≡◌, sym, ◌∙◌, List, ℕ}
use Rattle.std.specs.Prelude.{Result, Ok}
use Rattle.casefile.specs.Bodies.{project_of}
use Rattle.evaluator.specs.declared.Refusal.{Refusal}
use Rattle.evaluator.specs.Fresh.{fresh_verdict}
use Rattle.evaluator.proofs.Calls.{handed_on}
use Rattle.tracer.proofs.Starting.{is_accepted, is_fresh, is_refused, run_is, ordered_of}
use Rattle.tracer.proofs.trace_cycles.Goals as goal

-- a state was written
written : (F S : List ℕ) {v : Result (Unit {0}) Refusal} → v ≡ fresh_verdict F S → v ≡ Ok tt → fresh_verdict F S ≡ Ok tt
written F S e z = sym e ∙ z

pub returns-in_err-fresh : goal.returns-in_err-fresh
returns-in_err-fresh c =
    handed_on c.from_residual.ensures.1
    ∙ is_refused c.args.file.now c.args.state.now _ c.requires.offered.size
    (sym c.fresh.ensures.answered ∙ c.in_err-fresh.was)

pub block_order-order-requires : goal.block_order-order-requires
unfolding project_of
block_order-order-requires c =
    let F = c.args.file.now in
    let S = c.args.state.now in
    let fresh = written F S c.fresh.ensures.answered c.in_ok-fresh.was in
    ordered_of F c.args.c _ (is_accepted F S fresh) c.requires.offered.counts c.requires.handed.blocks

pub run-requires-clause-started : goal.run-requires-clause-started
unfolding project_of
run-requires-clause-started c =
    let F = c.args.file.now in
    let S = c.args.state.now in
    let yes = is_accepted F S (written F S c.fresh.ensures.answered c.in_ok-fresh.was) in
    let h = c.requires.handed in
    record {
      accepted = yes;
      counts = c.requires.offered.counts;
      groups = h.groups;
      inputs = h.inputs;
      blocks = h.blocks;
      records = h.records;
      order = c.block_order-order.ensures;
      clean = c.requires.offered.clean yes;
    }

pub run-requires-clause-state_value : goal.run-requires-clause-state_value
run-requires-clause-state_value c =
    let F = c.args.file.now in
    let S = c.args.state.now in
    let fresh = written F S c.fresh.ensures.answered c.in_ok-fresh.was in
    (c.fresh.ensures.left ∙ is_fresh F S fresh, c.requires.text_len)

pub returns : goal.returns
returns c =
    let F = c.args.file.now in
    let S = c.args.state.now in
    c.run.ensures ∙ run_is F S (written F S c.fresh.ensures.answered c.in_ok-fresh.was)

-- A turn takes the first of the calls that are left: the step over its record does what that call does.
use Rattle.wire.proofs.Usual.{◌≡◌, refl, sym, ap, ◌∙◌, List, ℕ, ◌/◌, ◌≤◌, arith, length}
use Rattle.wire.proofs.Usual.{replicate, length-replicate}
use Rattle.std.specs.Prelude.{Result}
use Rattle.project.specs.declared.Counts.{Counts}
use Rattle.project.specs.Project.{row_of}
use Rattle.casefile.specs.Bodies.{project_of}
use Rattle.evaluator.specs.declared.Refusal.{Refusal}
use Rattle.evaluator.specs.State.{state_length, findings_length}
use Rattle.evaluator.specs.Fresh.{fresh_for}
use Rattle.evaluator.specs.Steps.{step_answer, step_state, step_findings}
use Rattle.evaluator.proofs.FreshFormed.{fresh_length}
use Rattle.evaluator.proofs.Calls.{handed_on}
use Rattle.tracer.specs.Asks.{Started}
use Rattle.tracer.proofs.Starting.{standing_of, grouped_of, listed_of, begun_of, size_some, count_is}
use Rattle.tracer.proofs.Starting.{record_is, few_records}
use Rattle.tracer.proofs.Turning.{Here, formed_here, begins, ran, call, Turned, turned, tells}
use Rattle.tracer.proofs.Turning.{finds_few, finds_none, continues, stops}
use Rattle.tracer.proofs.run.Goals as goal

-- the state has its size
state_fits : (F S₀ S : List ℕ) → length S ≡ length S₀ → S₀ ≡ fresh_for (project_of F) →
    length S ≡ state_length (project_of F).groups (project_of F).blocks
state_fits F S₀ S l e = l ∙ ap length e ∙ fresh_length (project_of F)

-- what is cleared is as it was at first
cleared : (D₀ D1 : List ℕ) (n m : ℕ) → D₀ ≡ replicate n 0 → m ≡ length D₀ → D1 ≡ replicate m 0 →
    D1 ≡ D₀
cleared D₀ D1 n m z l e =
    e ∙ ap (λ (m : ℕ). replicate m 0) (l ∙ ap length z ∙ length-replicate {A = ℕ} n 0) ∙ sym z

module _ {F : List ℕ} {c : Counts} {G I B T K D₀ : List ℕ} (s : Started F c G I B T K D₀) where
  -- how many records there are
  few : {n : ℕ} → n ≡ length T / c.size → n ≤ 65536
  few e = omega (arith, e ∙ count_is s, few_records F s.accepted)

  -- the step did what the call of the cycle does
  done_by : {n k t : ℕ} {S : List ℕ} (h : Here F n k t S) {R : List ℕ} → R ≡ row_of c.size k T →
      {a : Result ℕ Refusal} {S1 D1 : List ℕ} (D : List ℕ) → a ≡ step_answer G I B R S → S1 ≡ step_state G I B R S →
      D1 ≡ step_findings G I B R S D → Turned (call F k h.lent) a S1 D1
  done_by {k = k} h r D e l f = turned s.accepted h s.groups s.inputs s.blocks (r ∙ record_is s k) D e l f

pub record_count-n-requires : goal.record_count-n-requires
record_count-n-requires c = size_some c.requires.started

pub loop-done-init : goal.loop-done-init
loop-done-init c =
    let s = c.requires.started in (
      omega arith,
      refl,
      refl,
      refl,
      begins c.args.file.now _ s.accepted (c.record_count-n.ensures ∙ count_is s) c.requires.state_value.0,
    )

pub groups_in_error-errors-requires-clause-standing :
    goal.groups_in_error-errors-requires-clause-standing
groups_in_error-errors-requires-clause-standing c =
    standing_of c.requires.started c.loop-done.state
    (state_fits c.args.file.now c.args.state.now _ c.loop-done.invariant.1 c.requires.state_value.0)

pub groups_in_error-errors-requires-clause-grouped :
    goal.groups_in_error-errors-requires-clause-grouped
groups_in_error-errors-requires-clause-grouped c = grouped_of c.requires.started

pub step-requires-clause-listed : goal.step-requires-clause-listed
step-requires-clause-listed c = listed_of c.requires.started

pub step-requires-clause-begun : goal.step-requires-clause-begun
step-requires-clause-begun c =
    let s = c.requires.started in
    let i = c.loop-done.invariant in
    begun_of s _ c.loop-done.state c.loop-done.findings c.groups_in_error-errors.ensures
    (state_fits c.args.file.now c.args.state.now _ i.1 c.requires.state_value.0) (formed_here i.4) (i.2 ∙ s.clean)

-- a record is turned down
pub returns-in_err-k : goal.returns-in_err-k
returns-in_err-k c =
    let h = c.loop-done.invariant.4 in
    let e = c.step.ensures in
    let u = done_by c.requires.started h c.record_at-rec.ensures c.loop-done.findings e.answered e.left e.told in
    handed_on c.from_residual.ensures.1 ∙ stops h c.loop-done-test.true c.in_err-k.was u

pub overflow_add-total : goal.overflow_add-total
overflow_add-total c =
    let h = c.loop-done.invariant.4 in
    let e = c.step.ensures in
    let u = done_by c.requires.started h c.record_at-rec.ensures c.loop-done.findings e.answered e.left e.told in
    omega (
      arith,
      c.loop-done.invariant.0,
      c.loop-done-test.true,
      few c.requires.started c.record_count-n.ensures,
      finds_few h c.loop-done-test.true c.in_ok-k.was u,
    )

pub overflow_cast-cycle : goal.overflow_cast-cycle
overflow_cast-cycle c =
    omega (arith, c.loop-done-test.true, few c.requires.started c.record_count-n.ensures)

-- what is printed of a cycle is the lines of what it found
pub print_cycle-requires-clause-told : goal.print_cycle-requires-clause-told
print_cycle-requires-clause-told c =
    let h = c.loop-done.invariant.4 in
    let e = c.step.ensures in
    let u = done_by c.requires.started h c.record_at-rec.ensures c.loop-done.findings e.answered e.left e.told in
    tells h c.loop-done-test.true c.in_ok-k.was u c.requires.started.blocks refl

pub print_cycle-requires-clause-k_bound : goal.print_cycle-requires-clause-k_bound
print_cycle-requires-clause-k_bound c =
    let h = c.loop-done.invariant.4 in
    let e = c.step.ensures in
    let u = done_by c.requires.started h c.record_at-rec.ensures c.loop-done.findings e.answered e.left e.told in (
      finds_few h c.loop-done-test.true c.in_ok-k.was u,
      c.loop-done.invariant.3 ∙ c.requires.state_value.1,
    )

pub print_cycle-requires-clause-findings_value : goal.print_cycle-requires-clause-findings_value
print_cycle-requires-clause-findings_value c =
    let h = c.loop-done.invariant.4 in
    let e = c.step.ensures in
    let u = done_by c.requires.started h c.record_at-rec.ensures c.loop-done.findings e.answered e.left e.told in
    finds_none h c.loop-done-test.true c.in_ok-k.was u

pub loop-done-preserved : goal.loop-done-preserved
loop-done-preserved c =
    let a = c.args in
    let s = c.requires.started in
    let i = c.loop-done.invariant in
    let e = c.step.ensures in
    let l = c.loop-done-test.true in
    let u = done_by s i.4 c.record_at-rec.ensures c.loop-done.findings e.answered e.left e.told in (
      omega (arith, i.0, finds_few i.4 l c.in_ok-k.was u),
      c.step.auto.state ∙ i.1,
      cleared a.findings.now _ (findings_length (project_of a.file.now).blocks) (length c.step.new.findings)
          s.clean (c.step.auto.findings ∙ ap length i.2) c.print_cycle.ensures,
      c.print_cycle.auto.text ∙ i.3,
      continues i.4 l s.accepted c.in_ok-k.was u,
    )

pub overflow_cast-result : goal.overflow_cast-result
overflow_cast-result c = omega (arith, few c.requires.started c.record_count-n.ensures)

-- or all have run
pub returns : goal.returns
returns c = ran c.loop-done.invariant.4 (omega (arith, c.loop-done-test.false, c.loop-done.auto.done-end))

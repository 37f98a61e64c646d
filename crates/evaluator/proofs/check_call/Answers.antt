-- At each `return` the tests that led there give the refusal (`Calls`).
use Rattle.wire.proofs.Usual.{◌≡◌, sym, ◌∙◌, subst, Bool, List, ℕ}
use Rattle.std.specs.Prelude.{Result, Ok}
use Rattle.wire.proofs.Places.{ok, bad}
use Rattle.project.specs.declared.Counts.{Counts}
use Rattle.project.specs.Project.{Project, counts_in}
use Rattle.casefile.specs.declared.table.Rule.{Rule}
use Rattle.casefile.specs.Bodies.{project_of}
use Rattle.casefile.specs.Refusal.{verdict}
use Rattle.evaluator.specs.State.{formed_with, state_formed}
use Rattle.evaluator.specs.Answer.{lends, call_verdict}
use Rattle.evaluator.proofs.Checking.{Taken, groups_counted, few, whole, listed, sizes_fit}
use Rattle.evaluator.proofs.Calls.{checked_file, handed_on, file_ok, file_taken, verdict_tested, tested_sizes}
use Rattle.evaluator.proofs.Calls.{tested_state, tested_record, tested_none}
use Rattle.evaluator.proofs.check_call.Goals as goal

-- where the file F is accepted, its project P is
tested : (F : List ℕ) {P : Project} → P ≡ project_of F → {v : Result (Unit {0}) Rule} → v ≡ verdict F → v ≡ Ok tt →
    Taken P
tested F project checked is = subst Taken (sym project) (file_taken F checked is)

-- what the check of the state says of P
state_told : {P : Project} {k : Counts} → k ≡ counts_in P → Taken P → (S : List ℕ) → {x : Bool} →
    x ≡ formed_with k.groups P.blocks S → x ≡ state_formed P.groups P.blocks S
unfolding state_formed
state_told {P} e t S x = x ∙ (λ i. formed_with (groups_counted e t i) P.blocks S)

pub returns-in_err-check : goal.returns-in_err-check
unfolding call_verdict
returns-in_err-check c =
    handed_on c.from_residual.ensures.1
    ∙ checked_file c.args.file.now _ c.check.ensures c.in_err-check.was

pub sizes_ok-requires : goal.sizes_ok-requires
sizes_ok-requires c = few c.counts-c.ensures (tested c.args.file.now c.requires c.check.ensures c.in_ok-check.was)

pub returns-then-not-sizes_ok : goal.returns-then-not-sizes_ok
returns-then-not-sizes_ok c =
    let t = tested c.args.file.now c.requires c.check.ensures c.in_ok-check.was in
    let lent = lends c.args.state.now c.args.outputs.now c.args.findings.now in
    let sizes = c.sizes_ok.ensures ∙ sizes_fit c.counts-c.ensures t lent in
    tested_sizes _ c.args.rec.now lent (bad sizes c.if-not-sizes_ok.true)
    ∙ verdict_tested c.args.file.now c.args.rec.now lent (file_ok c.args.file.now c.check.ensures c.in_ok-check.was) _
    c.requires

pub state_ok-requires : goal.state_ok-requires
state_ok-requires c = whole c.counts-c.ensures (tested c.args.file.now c.requires c.check.ensures c.in_ok-check.was)

pub returns-then-not-state_ok : goal.returns-then-not-state_ok
returns-then-not-state_ok c =
    let t = tested c.args.file.now c.requires c.check.ensures c.in_ok-check.was in
    let lent = lends c.args.state.now c.args.outputs.now c.args.findings.now in
    let sizes = c.sizes_ok.ensures ∙ sizes_fit c.counts-c.ensures t lent in
    let state = state_told c.counts-c.ensures t c.args.state.now c.state_ok.ensures in
    tested_state _ c.args.rec.now lent (ok sizes c.if-not-sizes_ok.false) (bad state c.if-not-state_ok.true)
    ∙ verdict_tested c.args.file.now c.args.rec.now lent (file_ok c.args.file.now c.check.ensures c.in_ok-check.was) _
    c.requires

pub record_ok-requires : goal.record_ok-requires
record_ok-requires c = listed c.counts-c.ensures (tested c.args.file.now c.requires c.check.ensures c.in_ok-check.was)

pub returns-then-not-record_ok : goal.returns-then-not-record_ok
returns-then-not-record_ok c =
    let t = tested c.args.file.now c.requires c.check.ensures c.in_ok-check.was in
    let lent = lends c.args.state.now c.args.outputs.now c.args.findings.now in
    let sizes = c.sizes_ok.ensures ∙ sizes_fit c.counts-c.ensures t lent in
    let state = state_told c.counts-c.ensures t c.args.state.now c.state_ok.ensures in
    tested_record _ c.args.rec.now lent (ok sizes c.if-not-sizes_ok.false) (ok state c.if-not-state_ok.false)
    (bad c.record_ok.ensures c.if-not-record_ok.true)
    ∙ verdict_tested c.args.file.now c.args.rec.now lent (file_ok c.args.file.now c.check.ensures c.in_ok-check.was) _
    c.requires

pub returns : goal.returns
returns c =
    let t = tested c.args.file.now c.requires c.check.ensures c.in_ok-check.was in
    let lent = lends c.args.state.now c.args.outputs.now c.args.findings.now in
    let sizes = c.sizes_ok.ensures ∙ sizes_fit c.counts-c.ensures t lent in
    let state = state_told c.counts-c.ensures t c.args.state.now c.state_ok.ensures in
    tested_none _ c.args.rec.now lent (ok sizes c.if-not-sizes_ok.false) (ok state c.if-not-state_ok.false)
    (ok c.record_ok.ensures c.if-not-record_ok.false)
    ∙ verdict_tested c.args.file.now c.args.rec.now lent (file_ok c.args.file.now c.check.ensures c.in_ok-check.was) _
    c.requires

-- One answer, and no second, of each public function that answers with more than a number or writes into what it is
-- lent. `Post` is the function's contract, as its own crate has it: it says the words, and two that meet the same words
-- are equal, by `second_answer`. The arguments stand in the function's order, in what is seen as they are at exit, and
-- `r` is the result. Assumes nothing.
use Rattle.wire.proofs.Usual.{◌≡◌, ℕ, List, Bool, sets, length, replicate, take, drop}
use Rattle.numbers.proofs.Unique.{second_answer}
use Rattle.wire.specs.Words.{bytes4}
use Rattle.numbers.specs.Types.{value, type_of, signed, z_of}
use Rattle.numbers.specs.Results.{settled, outcome, rounding_of}
use Rattle.kind.specs.Kinds.{kind_from, family_of}
use Rattle.kind.specs.Devices.{device_from, device_of}
use Rattle.kind.specs.Parameters.{limits_of}
use Rattle.project.specs.Project.{link_in, counts_of, counts_in, row_of, input_size, block_size, output_size}
use Rattle.project.specs.Project.{parameters_in}
use Rattle.casefile.specs.Bodies.{project_of, starts_of, stretch_of}
use Rattle.casefile.specs.Refusal.{verdict}
use Rattle.block.specs.State.{fresh_bytes}
use Rattle.block.specs.Step.{rest_bytes, decouple_bytes, twohand_bytes, arithmetic_bytes}
use Rattle.block.specs.Finding.{finding_of, finding_in}
use Rattle.std.specs.Prelude.{Result}
use Rattle.evaluator.specs.declared.Refusal.{Refusal}
use Rattle.evaluator.specs.Answer.{Lent, lends}
use Rattle.evaluator.specs.Fresh.{sizes_of, fresh_number, fresh_verdict}
use Rattle.evaluator.specs.Asks.{order_list, error_list}
use Rattle.report.specs.Lines.{finding_line, end_line, refused_line}
use Rattle.report.specs.LedgerLines.{rate_line, no_rate_line, bend_line}
use Rattle.year.specs.Ledger.{verdict as ledger_verdict}
use Rattle.year.specs.Months.{share_of}
use Rattle.year.specs.Year.{year_of}
use Rattle.yearbook.specs.Text.{told}
use Rattle.tracer.specs.Traced.{end_of}
use Rattle.hagglethwait.specs.Calls.{answer_number}
use Rattle.demands.specs.Words.{Gives, TurnWords, LineWords, CycleWords, FreshWords, StepWords, SizesWords}
use Rattle.demands.specs.Words.{Columns, columns, LedgerWords, BodiesWords}
use Rattle.demands.specs.Words.{OneAnswer, of1, of2, of3, of4, of5, of6, of9}

-- ---- two that meet the same words

pair_same : {N : Type 0} {x y : record { answer : N; bytes : List ℕ }} →
    x.answer ≡ y.answer → x.bytes ≡ y.bytes → x ≡ y
pair_same p q = λ i. record { answer = p i; bytes = q i }

turn_same : {made old : List ℕ} {x y : record { answer : Bool; bytes : List ℕ }} →
    TurnWords made old x → TurnWords made old y → x ≡ y
turn_same p q = pair_same (second_answer p.enters q.enters) (second_answer p.left q.left)

line_same : {line old : List ℕ} {x y : record { answer : ℕ; bytes : List ℕ }} →
    LineWords line old x → LineWords line old y → x ≡ y
line_same p q = pair_same (second_answer p.whole q.whole) (second_answer p.bytes q.bytes)

fresh_same : {N : Type 0} {answer : List ℕ → List ℕ → N} {F old : List ℕ}
    {x y : record { answer : N; bytes : List ℕ }} →
    FreshWords answer F old x → FreshWords answer F old y → x ≡ y
fresh_same p q = pair_same (second_answer p.answered q.answered) (second_answer p.left q.left)

step_same : {G I B R S D : List ℕ} {x y : record { answer : Result ℕ Refusal; state : List ℕ; findings : List ℕ }} →
    StepWords G I B R S D x → StepWords G I B R S D y → x ≡ y
step_same p q = λ i. record {
  answer = second_answer p.answered q.answered i;
  state = second_answer p.left q.left i;
  findings = second_answer p.told q.told i;
}

cycle_same : {N : Type 0} {tells : Result ℕ Refusal → N} {F R : List ℕ} {L : Lent}
    {x y : record { answer : N; lent : Lent }} →
    CycleWords tells F R L x → CycleWords tells F R L y → x ≡ y
cycle_same p q = λ i. record {
  answer = second_answer p.answered q.answered i;
  lent = record {
    state = second_answer p.left q.left i;
    outputs = second_answer p.shown q.shown i;
    findings = second_answer p.told q.told i;
  };
}

sizes_same : {F : List ℕ} {s o d : ℕ}
    {x y : record { answer : ℕ; state : ℕ; outputs : ℕ; findings : ℕ }} →
    SizesWords F s o d x → SizesWords F s o d y → x ≡ y
sizes_same p q = λ i. record {
  answer = second_answer p.answered q.answered i;
  state = second_answer p.stated q.stated i;
  outputs = second_answer p.shown q.shown i;
  findings = second_answer p.told q.told i;
}

ledger_same : {F : List ℕ} {L : Columns} {x y : record { answer : ℕ; lent : Columns }} →
    LedgerWords F L x → LedgerWords F L y → x ≡ y
ledger_same p q = λ i. record {
  answer = second_answer p.answered q.answered i;
  lent = record {
    findings = second_answer p.found q.found i;
    dismissed = second_answer p.gone q.gone i;
    rates = second_answer p.rated q.rated i;
    bends = second_answer p.bent q.bent i;
  };
}

bodies_same : {F : List ℕ}
    {x y : record { groups : List ℕ; inputs : List ℕ; blocks : List ℕ; outputs : List ℕ; trace : List ℕ }} →
    BodiesWords F x → BodiesWords F y → x ≡ y
bodies_same p q = λ i. record {
  groups = second_answer p.groups q.groups i;
  inputs = second_answer p.inputs q.inputs i;
  blocks = second_answer p.blocks q.blocks i;
  outputs = second_answer p.outputs q.outputs i;
  trace = second_answer p.trace q.trace i;
}

-- ---- two that meet the same contract

-- what says words of which two are equal has one answer
one :
    {K : Type 0} {A R S : K → Type 0} {P : (κs : K) → A κs → R κs → S κs → Type 0} {X : Type 0}
    {Words : (κs : K) → A κs → X → Type 0} {seen : (κs : K) → S κs → R κs → X} →
    ((κs : K) (a : A κs) (x y : X) → Words κs a x → Words κs a y → x ≡ y) →
    ((κs : K) (a : A κs) (r : R κs) (s : S κs) → P κs a r s → Words κs a (seen κs s r)) →
    OneAnswer P Words seen
one same says = record {
  says = says;
  second = λ κs a r r' s s' p q. same κs a _ _ (says κs a r s p) (says κs a r' s' q);
}

-- so has a contract that is one equation
gives :
    {K : Type 0} {A R S : K → Type 0} {X : Type 0}
    {defined : (κs : K) → A κs → X} {seen : (κs : K) → S κs → R κs → X} →
    OneAnswer {A = A} {R = R} (λ κs a r s. seen κs s r ≡ defined κs a) (λ κs a. Gives (defined κs a)) seen
gives = one (λ κs a x y. second_answer) (λ κs a r s p. p)

-- ---- the functions, crate by crate

pub wire_one :
    OneAnswer Rattle.wire.proofs.put.Reads.Post
    (of3 (λ dst at src. Gives (sets dst.now at src.now))) (of3 (λ dst at src r. dst.now))
    × OneAnswer Rattle.wire.proofs.write32.Reads.Post
    (of3 (λ s i w. Gives (sets s.now i (bytes4 w)))) (of3 (λ s i w r. s.now))
    × OneAnswer Rattle.wire.proofs.clear.Reads.Post
    (of1 (λ s. Gives (replicate (length s.now) 0))) (of1 (λ s r. s.now))
    × OneAnswer Rattle.wire.proofs.bytes32.Reads.Post (of1 (λ w. Gives (bytes4 w))) (λ κs s r. r)
    × OneAnswer Rattle.wire.proofs.part.Reads.Post
    (of3 (λ s at size. Gives (take size (drop at s.now)))) (λ κs s r. r.now)
wire_one = (gives, gives, gives, gives, gives)

pub numbers_one :
    OneAnswer Rattle.numbers.proofs.NumType.load.Reads.Post (of2 (λ t w. Gives (signed (value t w)))) (λ κs s r. r)
    × OneAnswer Rattle.numbers.proofs.NumType.settle.Reads.Post (of2 (λ t v. Gives (settled t (z_of v)))) (λ κs s r. r)
    × OneAnswer Rattle.numbers.proofs.compute.Reads.Post
    (of6 (λ op ta a tb b t. Gives (outcome op ta a tb b t))) (λ κs s r. r)
    × OneAnswer Rattle.numbers.proofs.NumTypeFromU8.from.Reads.Post (of1 (λ b. Gives (type_of b))) (λ κs s r. r)
    × OneAnswer Rattle.numbers.proofs.RoundingFromU8.from.Reads.Post (of1 (λ b. Gives (rounding_of b))) (λ κs s r. r)
numbers_one = (gives, gives, gives, gives, gives)

pub kind_one :
    OneAnswer Rattle.kind.proofs.device_of.Reads.Post (of1 (λ device. Gives (device_of device))) (λ κs s r. r)
    × OneAnswer Rattle.kind.proofs.family_of.Reads.Post (of1 (λ kind. Gives (family_of kind))) (λ κs s r. r)
    × OneAnswer Rattle.kind.proofs.kinds.KindTryFromU8.try_from.Reads.Post
    (of1 (λ byte. Gives (kind_from byte))) (λ κs s r. r)
    × OneAnswer Rattle.kind.proofs.devices.DeviceTryFromU8.try_from.Reads.Post
    (of1 (λ byte. Gives (device_from byte))) (λ κs s r. r)
    × OneAnswer Rattle.kind.proofs.limits_of.Reads.Post (of1 (λ p. Gives (limits_of p.now))) (λ κs s r. r)
kind_one = (gives, gives, gives, gives, gives)

pub project_one :
    OneAnswer Rattle.project.proofs.counts_of.Reads.Post
    (of4 (λ groups inputs blocks outputs. Gives (counts_of groups.now inputs.now blocks.now outputs.now)))
    (λ κs s r. r)
    × OneAnswer Rattle.project.proofs.source_of.Reads.Post
    (of2 (λ rec port. Gives (link_in rec.now port))) (λ κs s r. r)
    × OneAnswer Rattle.project.proofs.record_at.Reads.Post
    (of3 (λ records size k. Gives (row_of size k records.now))) (λ κs s r. r.now)
    × OneAnswer Rattle.project.proofs.input_record.Reads.Post
    (of2 (λ inputs i. Gives (row_of input_size i inputs.now))) (λ κs s r. r.now)
    × OneAnswer Rattle.project.proofs.block_record.Reads.Post
    (of2 (λ blocks b. Gives (row_of block_size b blocks.now))) (λ κs s r. r.now)
    × OneAnswer Rattle.project.proofs.output_record.Reads.Post
    (of2 (λ outputs o. Gives (row_of output_size o outputs.now))) (λ κs s r. r.now)
    × OneAnswer Rattle.project.proofs.parameters_of.Reads.Post
    (of1 (λ rec. Gives (parameters_in rec.now))) (λ κs s r. r.now)
project_one = (gives, gives, gives, gives, gives, gives, gives)

pub casefile_one :
    OneAnswer Rattle.casefile.proofs.check.Reads.Post (of1 (λ file. Gives (verdict file.now))) (λ κs s r. r)
    × OneAnswer Rattle.casefile.proofs.counts_in.Reads.Post
    (of1 (λ file. Gives (counts_in (project_of file.now)))) (λ κs s r. r)
    × OneAnswer Rattle.casefile.proofs.starts_of.Reads.Post
    (of1 (λ file. Gives (starts_of file.now))) (λ κs s r. r)
    × OneAnswer Rattle.casefile.proofs.body.Reads.Post
    (of3 (λ file starts e. Gives (stretch_of file.now starts e))) (λ κs s r. r.now)
    × OneAnswer Rattle.casefile.proofs.reader.Bodies.of.Reads.Post (of1 (λ file. BodiesWords file.now))
    (λ κs s r. record {
      groups = r.groups.now;
      inputs = r.inputs.now;
      blocks = r.blocks.now;
      outputs = r.outputs.now;
      trace = r.trace.now;
    })
    × OneAnswer Rattle.casefile.proofs.reader.Bodies.counts.Reads.Post
    (of1 (λ b. Gives (counts_of b.groups.now b.inputs.now b.blocks.now b.outputs.now))) (λ κs s r. r)
casefile_one = (
  gives,
  gives,
  one (λ κs a x y. second_answer) (λ κs a r s p. p.0),
  gives,
  one (λ κs a x y. bodies_same)
      (λ κs a r s p. record
      { groups = p.0; inputs = p.1.0; blocks = p.1.1.0; outputs = p.1.1.1.0; trace = p.1.1.1.1 }),
  gives,
)

pub block_one :
    OneAnswer Rattle.block.proofs.rest.Reads.Post
    (of3 (λ phase ack s. Gives (sets s.now 0 (rest_bytes phase ack s.now)))) (of3 (λ phase ack s r. s.now))
    × OneAnswer Rattle.block.proofs.stop.Reads.Post
    (of1 (λ s. Gives (sets s.now 0 fresh_bytes))) (of1 (λ s r. s.now))
    × OneAnswer Rattle.block.proofs.decouple_step.Reads.Post
    (of3 (λ phase x s. TurnWords (decouple_bytes phase x) s.now))
    (of3 (λ phase x s r. record { answer = r; bytes = s.now }))
    × OneAnswer Rattle.block.proofs.twohand_step.Reads.Post
    (of5 (λ p phase ms x s. TurnWords (twohand_bytes p.now phase ms x s.now) s.now))
    (of5 (λ p phase ms x s r. record { answer = r; bytes = s.now }))
    × OneAnswer Rattle.block.proofs.arithmetic_step.Reads.Post
    (of6 (λ kind p phase x y s. TurnWords (arithmetic_bytes kind p.now phase x y s.now) s.now))
    (of6 (λ kind p phase x y s r. record { answer = r; bytes = s.now }))
    × OneAnswer Rattle.block.proofs.fresh.Reads.Post (λ κs a. Gives fresh_bytes) (λ κs s r. r)
    × OneAnswer Rattle.block.proofs.finding.Reads.Post
    (of6 (λ number group kind x y s. Gives (finding_of number group kind x y s.now))) (λ κs s r. r)
    × OneAnswer Rattle.block.proofs.read_finding.Reads.Post (of1 (λ f. Gives (finding_in f.now))) (λ κs s r. r)
block_one = (
  gives,
  gives,
  one (λ κs a x y. turn_same) (λ κs a r s p. record { left = p.0; enters = p.1 }),
  one (λ κs a x y. turn_same) (λ κs a r s p. record { left = p.0; enters = p.1 }),
  one (λ κs a x y. turn_same) (λ κs a r s p. record { left = p.0; enters = p.1 }),
  gives,
  gives,
  gives,
)

pub evaluator_one :
    OneAnswer Rattle.evaluator.proofs.cycle.Reads.Post
    (of5 (λ file rec state outputs findings.
    CycleWords (λ n. n) file.now rec.now (lends state.now outputs.now findings.now)))
    (of5 (λ file rec state outputs findings r.
    record { answer = r; lent = lends state.now outputs.now findings.now }))
    × OneAnswer Rattle.evaluator.proofs.sizes_of.Reads.Post
    (of1 (λ file. Gives (sizes_of file.now))) (λ κs s r. r)
    × OneAnswer Rattle.evaluator.proofs.fresh.Reads.Post
    (of2 (λ file state. FreshWords fresh_verdict file.now state.now))
    (of2 (λ file state r. record { answer = r; bytes = state.now }))
    × OneAnswer Rattle.evaluator.proofs.unchecked.block_order.Reads.Post
    (of2 (λ c blocks. Gives (order_list blocks.now))) (λ κs s r. r)
    × OneAnswer Rattle.evaluator.proofs.unchecked.groups_in_error.Reads.Post
    (of3 (λ c blocks state. Gives (error_list c.groups blocks.now state.now))) (λ κs s r. r)
    × OneAnswer Rattle.evaluator.proofs.unchecked.step.Reads.Post
    (of9 (λ c groups inputs blocks order errors rec state findings.
    StepWords groups.now inputs.now blocks.now rec.now state.now findings.now))
    (of9 (λ c groups inputs blocks order errors rec state findings r.
    record { answer = r; state = state.now; findings = findings.now }))
evaluator_one = (
  one (λ κs a x y. cycle_same)
      (λ κs a r s p. record { answered = p.0; left = p.1.0; shown = p.1.1.0; told = p.1.1.1 }),
  gives,
  one (λ κs a x y. fresh_same) (λ κs a r s p. record { answered = p.0; left = p.1 }),
  gives,
  gives,
  one (λ κs a x y. step_same)
      (λ κs a r s p. record { answered = p.0; left = p.1.0; told = p.1.1 }),
)

pub report_one :
    OneAnswer Rattle.report.proofs.finding_line.Reads.Post
    (of9 (λ out cycle block text diagnosis ta x tb y.
    LineWords (finding_line cycle block text diagnosis ta x tb y) out.now))
    (of9 (λ out cycle block text diagnosis ta x tb y r. record { answer = r; bytes = out.now }))
    × OneAnswer Rattle.report.proofs.end_line.Reads.Post
    (of3 (λ out cycles findings. LineWords (end_line cycles findings) out.now))
    (of3 (λ out cycles findings r. record { answer = r; bytes = out.now }))
    × OneAnswer Rattle.report.proofs.refused_line.Reads.Post
    (of2 (λ out number. LineWords (refused_line number) out.now))
    (of2 (λ out number r. record { answer = r; bytes = out.now }))
    × OneAnswer Rattle.report.proofs.rate_line.Reads.Post
    (of5 (λ out month findings dismissed bits. LineWords (rate_line month findings dismissed bits) out.now))
    (of5 (λ out month findings dismissed bits r. record { answer = r; bytes = out.now }))
    × OneAnswer Rattle.report.proofs.no_rate_line.Reads.Post
    (of4 (λ out month findings dismissed. LineWords (no_rate_line month findings dismissed) out.now))
    (of4 (λ out month findings dismissed r. record { answer = r; bytes = out.now }))
    × OneAnswer Rattle.report.proofs.bend_line.Reads.Post
    (of2 (λ out month. LineWords (bend_line month) out.now))
    (of2 (λ out month r. record { answer = r; bytes = out.now }))
report_one = (
  one (λ κs a x y. line_same) (λ κs a r s p. p),
  one (λ κs a x y. line_same) (λ κs a r s p. p),
  one (λ κs a x y. line_same) (λ κs a r s p. p),
  one (λ κs a x y. line_same) (λ κs a r s p. p),
  one (λ κs a x y. line_same) (λ κs a r s p. p),
  one (λ κs a x y. line_same) (λ κs a r s p. p),
)

pub year_one :
    OneAnswer Rattle.year.proofs.check.Reads.Post (of1 (λ file. Gives (ledger_verdict file.now))) (λ κs s r. r)
    × OneAnswer Rattle.year.proofs.share_of.Reads.Post (of1 (λ l. Gives (share_of l))) (λ κs s r. r)
    × OneAnswer Rattle.year.proofs.year_of.Reads.Post (of1 (λ file. Gives (year_of file.now))) (λ κs s r. r)
year_one = (gives, gives, gives)

pub yearbook_one :
    OneAnswer Rattle.yearbook.proofs.tell.Reads.Post (of1 (λ file. Gives (told file.now))) (λ κs s r. r)
yearbook_one = gives

pub tracer_one :
    OneAnswer Rattle.tracer.proofs.trace.Reads.Post (of1 (λ file. Gives (end_of file.now))) (λ κs s r. r)
tracer_one = gives

pub hagglethwait_one :
    OneAnswer Rattle.hagglethwait.proofs.hagglethwait_sizes.Reads.Post
    (of4 (λ file state outputs findings.
    SizesWords file.now state.now outputs.now findings.now))
    (of4 (λ file state outputs findings r.
    record { answer = r; state = state.now; outputs = outputs.now; findings = findings.now }))
    × OneAnswer Rattle.hagglethwait.proofs.hagglethwait_fresh.Reads.Post
    (of2 (λ file state. FreshWords fresh_number file.now state.now))
    (of2 (λ file state r. record { answer = r; bytes = state.now }))
    × OneAnswer Rattle.hagglethwait.proofs.hagglethwait_cycle.Reads.Post
    (of5 (λ file rec state outputs findings.
    CycleWords answer_number file.now rec.now (lends state.now outputs.now findings.now)))
    (of5 (λ file rec state outputs findings r.
    record { answer = r; lent = lends state.now outputs.now findings.now }))
    × OneAnswer Rattle.hagglethwait.proofs.hagglethwait_ledger.Reads.Post
    (of5 (λ file findings dismissed rates bends.
    LedgerWords file.now (columns findings.now dismissed.now rates.now bends.now)))
    (of5 (λ file findings dismissed rates bends r.
    record { answer = r; lent = columns findings.now dismissed.now rates.now bends.now }))
hagglethwait_one = (
  one (λ κs a x y. sizes_same)
      (λ κs a r s p. record { answered = p.0; stated = p.1.0; shown = p.1.1.0; told = p.1.1.1 }),
  one (λ κs a x y. fresh_same) (λ κs a r s p. record { answered = p.0; left = p.1 }),
  one (λ κs a x y. cycle_same)
      (λ κs a r s p. record { answered = p.0; left = p.1.0; shown = p.1.1.0; told = p.1.1.1 }),
  one (λ κs a x y. ledger_same)
      (λ κs a r s p. record
      { answered = p.0; found = p.1.0; gone = p.1.1.0; rated = p.1.1.1.0; bent = p.1.1.1.1 }),
)

-- What is printed is what the record says, each input by its type.
use Rattle.wire.proofs.Usual.{subst}
use Rattle.block.specs.declared.FindingRecord.{FindingRecord}
use Rattle.report.specs.Lines.{Printed}
use Rattle.tracer.specs.Text.{line_of}
use Rattle.tracer.proofs.lines.finding_line.Goals as goal

pub returns : goal.returns
unfolding line_of
returns c =
    let a = c.args in
    let line = c.finding_line in
    subst (λ (f : FindingRecord). Printed (line_of a.blocks.now a.cycle f) a.out.now line.new.out line.result)
    c.read_finding-said.ensures
    (rw (← c.shown_type.ensures, ← c.shown_type-2.ensures) line.ensures)

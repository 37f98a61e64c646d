-- A turn stores the line of finding i behind those before it: there is room for one line more.
use Rattle.wire.proofs.Usual.{refl, ◌∙◌, arith}
use Rattle.report.specs.Lines.{line_most}
use Rattle.report.proofs.Parts.{part_long}
use Rattle.tracer.proofs.Lining.{lines_none, line_more}
use Rattle.tracer.proofs.lines.cycle_lines.Goals as goal

pub loop-i-init : goal.loop-i-init
loop-i-init c = (omega arith, refl, lines_none _ _ _ _)

pub loop-i-preserved : goal.loop-i-preserved
loop-i-preserved c =
    let a = c.args in
    let l = c.loop-i in
    let i = l.invariant in
    let line = c.finding_line-at in (
      omega (arith, i.0, line.ensures.short),
      part_long l.out line.new.out l.at line_most line.auto.out ∙ i.1,
      line_more a.blocks.now a.findings.now a.cycle l.i i.2 (omega arith) c.part-f.ensures line.ensures,
    )

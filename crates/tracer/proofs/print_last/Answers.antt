-- The buffer holds the last line whole, and that is written.
use Rattle.wire.proofs.Usual.{ap, ◌∙◌, arith}
use Rattle.report.proofs.Lines.{printed_whole}
use Rattle.tracer.specs.Text.{last_line}
use Rattle.tracer.proofs.print_last.Goals as goal

pub write_last-requires : goal.write_last-requires
write_last-requires c =
    printed_whole c.last_line-size.ensures (omega (arith, c.requires.1)) ∙ ap last_line c.requires.0

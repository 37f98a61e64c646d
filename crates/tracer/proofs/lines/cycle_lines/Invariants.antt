-- `tracer::lines::cycle_lines` meets its contract: before turn i the buffer starts with the lines of the first i
-- findings, and a turn stores one line more behind them.
use Rattle.wire.proofs.Usual.{◌≡◌, ◌*◌, ◌≤◌, length}
use Rattle.report.specs.Lines.{Put, line_most}
use Rattle.tracer.specs.Text.{lines_of}
use Rattle.tracer.proofs.lines.cycle_lines.Given as goal

abbrev pub invariant-loop-i : goal.invariant-loop-i
invariant-loop-i l =
    (l.at ≤ line_most * l.i)
    × (length l.out ≡ length l.initial.out)
    × Put (lines_of l.blocks l.cycle l.i l.findings) l.initial.out 0 l.out l.at

-- `yearbook::month_lines` meets its contract: a turn stores one line more behind the others.
use Rattle.wire.proofs.Usual.{◌*◌, ◌≤◌}
use Rattle.report.specs.Lines.{Put, line_most}
use Rattle.yearbook.specs.Text.{months_text}
use Rattle.yearbook.proofs.month_lines.Given as goal

abbrev pub invariant-loop-m : goal.invariant-loop-m
invariant-loop-m l = (l.end ≤ line_most * l.m) × Put (months_text l.lines l.m) l.initial.out 0 l.out l.end

-- The last of the pieces leaves room for the line feed.
use Rattle.wire.proofs.Usual.{◌≤◌, arith, length, length-append}
use Rattle.report.proofs.Lines.{lengths, word_eleven}
use Rattle.report.proofs.finding_line.Goals as goal

pub print-requires : goal.print-requires
print-requires c =
    let long : length c.input.new.self ≤ 63 = grind (arith, lengths) in
    rw c.input-2.ensures (simp length-append (omega (arith, long, word_eleven)))

-- The title, the months and the bend stand one behind the other.
use Rattle.wire.proofs.Usual.{◌+◌, ◌≤◌, length, arith}
use Rattle.report.proofs.Parts.{printed_put}
use Rattle.yearbook.specs.Text.{table_text}
use Rattle.yearbook.proofs.Behind.{behind, line_behind, put_long}
use Rattle.yearbook.proofs.table_lines.Goals as goal

pub returns-clause-put : goal.returns-clause-put
unfolding table_text
returns-clause-put c =
    let t = c.title_line-end in
    let m = c.month_lines-end in
    let b = c.bend_line in
    let few : t.result + m.result + b.result ≤ length c.args.out.now =
    omega (arith, t.ensures.short, m.ensures.upper_bound, b.ensures.short, c.requires) in
    let months = behind (printed_put t.ensures) (omega (arith, few, t.auto.out)) m.ensures.put in
    line_behind months (omega (arith, few, put_long months)) b.ensures

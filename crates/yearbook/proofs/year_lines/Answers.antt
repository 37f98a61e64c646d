-- The two tables, one behind the other.
use Rattle.wire.proofs.Usual.{arith}
use Rattle.yearbook.specs.Text.{year_text}
use Rattle.yearbook.proofs.Behind.{behind}
use Rattle.yearbook.proofs.year_lines.Goals as goal

pub returns-clause-put : goal.returns-clause-put
unfolding year_text
returns-clause-put c =
    let e = c.table_lines-half in
    let p = c.table_lines in
    behind e.ensures.put
    (omega (arith, e.ensures.upper_bound, p.ensures.upper_bound, e.auto.out, c.requires)) p.ensures.put

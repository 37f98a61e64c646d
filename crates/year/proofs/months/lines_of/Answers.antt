-- Each place is filled with the line of its month.
use Rattle.std.proofs.Common.{rules}
use Rattle.year.specs.Months.{line_of}
use Rattle.year.specs.Year.{month_line, lines_of}
use Rattle.year.proofs.Filling.{from_fn_is}
use Rattle.year.proofs.months.lines_of.Goals as goal

pub returns : goal.returns
unfolding lines_of
returns c =
    from_fn_is (line_of 0 0) (month_line c.args.c c.args.file.now) (λ x b q k. search rules) c.from_fn.ensures.items

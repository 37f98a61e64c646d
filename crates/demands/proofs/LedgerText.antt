-- What the ledger program prints of a ledger of six findings, computed from the definitions: both tables, the rates'
-- bits and the two bends. Assumes nothing.
use Rattle.wire.proofs.Usual.{◌≡◌, refl}
use lib.Ieee.{div, of_int, round, to_bits, of_bits, eq}
use Rattle.wire.specs.Places.{first_bad, all}
use Rattle.wire.specs.Packed.{hits}
use Rattle.contents.specs.Contents.{body_start, body_size, body_of, follows_ok, contents_ok}
use Rattle.report.specs.Decimal.{digits_within, decimal}
use Rattle.report.specs.LedgerLines.{hexadecimal, month_front, rate_line, no_rate_line, bend_line}
use Rattle.report.specs.Samples.{codes}
use Rattle.year.specs.Ledger.{finding_count, finding_at, values_ok, kept_in, months_ok, verdict}
use Rattle.year.specs.Months.{found, dismissed, line_of, share_of}
use Rattle.year.specs.Bends.{sum_of, pool_of, sides_at, larger, largest, bend_of}
use Rattle.year.specs.Year.{month_line, lines_of as table_lines, table_of, year_of}
use Rattle.yearbook.specs.Text.{month_text, months_text, table_text, year_text, answer_of, ledger_text}
use Rattle.demands.specs.LedgerExample.{example_ledger, lines_of, example_prints}

pub example_text : ledger_text example_ledger ≡ example_prints
unfolding example_ledger lines_of codes ledger_text answer_of year_text table_text months_text month_text year_of
    table_of table_lines month_line bend_of largest larger sides_at pool_of sum_of line_of share_of found dismissed
    verdict months_ok kept_in values_ok finding_at finding_count bend_line no_rate_line rate_line
    month_front hexadecimal decimal digits_within contents_ok follows_ok body_of body_size body_start hits all
    first_bad div of_int round to_bits of_bits eq
example_text = refl

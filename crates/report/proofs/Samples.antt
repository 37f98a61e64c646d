-- The listing of 01, lines at the types' limits and lines of 02, W4, under one claim: what the definitions give is the
-- text and a line feed, at every row. antt computes it.
-- Assumes nothing.
use Rattle.wire.proofs.Usual.{◌≡◌, refl, ◌++◌}
use mathlib.Core.List.{map}
use Rattle.numbers.specs.Types.{value}
use Rattle.report.specs.Decimal.{digits_within, decimal, signed_decimal}
use Rattle.report.specs.Lines.{finding_line, end_line, refused_line, line_feed}
use Rattle.report.specs.LedgerLines.{hexadecimal, month_front, rate_line, no_rate_line, bend_line}
use Rattle.report.specs.Samples.{codes, Sample, found, samples}

pub samples_hold : map (λ (r : Sample). r.got) samples ≡ map (λ (r : Sample). codes r.want ++ line_feed) samples
unfolding value digits_within decimal signed_decimal finding_line end_line refused_line codes found
    hexadecimal month_front rate_line no_rate_line bend_line
samples_hold = refl

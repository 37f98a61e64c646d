-- `year::months::counts_of` meets its contract: the loop counts finding by finding.
use Rattle.wire.proofs.Usual.{◌≡◌, ◌&&◌, length}
use Rattle.wire.specs.Packed.{hits}
use Rattle.year.specs.Ledger.{finding_at}
use Rattle.year.specs.Months.{counts, is_dismissed}
use Rattle.year.proofs.months.counts_of.Given as goal

abbrev pub invariant-loop-f : goal.invariant-loop-f
invariant-loop-f l =
    (l.findings ≡ hits (length l.yielded) (λ j. counts l.c (finding_at l.month j)))
    × (l.dismissed
    ≡ hits (length l.yielded) (λ j. counts l.c (finding_at l.month j) && is_dismissed (finding_at l.month j)))

-- The test of a finding is that of its values.
use Rattle.std.proofs.Common.{rules, refl, arith}
use borrow.Author.Tests.{tests}
use Rattle.wire.proofs.Iterating.{all_over_records}
use Rattle.year.specs.Ledger.{finding_size, finding_count, finding_at, values_ok}
use Rattle.year.proofs.rules.values_right.Goals as goal

pub returns : goal.returns
unfolding finding_count finding_at
returns c =
    all_over_records (λ k. values_ok (finding_at c.args.month.now k)) values_ok finding_size c.args.month.now
    (omega arith) c.all.ensures.ran (search rules) (search rules) (λ x b q k. search (rules, tests)) (λ j l. refl)

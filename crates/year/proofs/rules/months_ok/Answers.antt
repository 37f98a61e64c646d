-- The test of a month is its rule.
use Rattle.std.proofs.Common.{rules}
use borrow.Author.Tests.{tests}
use Rattle.wire.proofs.Iterating.{all_over_range}
use Rattle.year.specs.Ledger.{month_count, kept_in, months_ok}
use Rattle.year.proofs.rules.months_ok.Goals as goal

pub returns : goal.returns
unfolding months_ok kept_in
returns c =
    all_over_range (kept_in c.args.a c.args.file.now) month_count c.all.ensures.ran (search rules)
    (λ x b q k. search (rules, tests))

-- The chain asks `follows` of each body before the last.
use Rattle.std.proofs.Common.{rules}
use borrow.Author.Tests.{tests}
use Rattle.wire.proofs.Iterating.{all_over_range}
use Rattle.contents.specs.Contents.{follows_ok}
use Rattle.contents.proofs.no_gap.Goals as goal

pub returns : goal.returns
returns c =
    all_over_range (follows_ok c.args.file.now) c.args.last c.all.ensures.ran (search rules)
    (λ x b q k. search (rules, tests))

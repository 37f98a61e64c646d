-- Each place of the range is tested as the definition tests it.
use Rattle.std.proofs.Common.{rules}
use borrow.Author.Tests.{tests}
use Rattle.wire.proofs.Iterating.{all_over_range}
use Rattle.evaluator.specs.State.{head_formed}
use Rattle.evaluator.proofs.checks.groups_formed.Goals as goal

pub returns : goal.returns
returns c =
    all_over_range (head_formed c.args.state.now) c.args.n c.all.ensures.ran (search rules)
    (λ x b q k. search (rules, tests))

use Rattle.std.proofs.Common.{rules}
use borrow.Author.Tests.{tests}
use Rattle.wire.proofs.Iterating.{all_over_range}
use Rattle.project.specs.Project.{group_count}
use Rattle.casefile.specs.Rules.{group_record_ok}
use Rattle.casefile.proofs.records.groups_ok.Goals as goal

pub returns : goal.returns
unfolding group_record_ok
returns c = all_over_range (group_record_ok c.args.groups.now) (group_count c.args.groups.now) c.all.ensures.ran
    (search rules) (λ x b q k. search (rules, tests))

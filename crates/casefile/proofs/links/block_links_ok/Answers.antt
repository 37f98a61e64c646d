use Rattle.std.proofs.Common.{rules}
use borrow.Author.Tests.{tests}
use Rattle.wire.proofs.Iterating.{all_over_range}
use Rattle.project.specs.Project.{link_count}
use Rattle.casefile.specs.Rules.{link_ok}
use Rattle.casefile.proofs.links.block_links_ok.Goals as goal

pub returns : goal.returns
returns c = all_over_range (link_ok c.args.inputs.now c.args.blocks.now c.args.r.now) link_count c.all.ensures.ran
    (search rules) (λ x b q k. search (rules, tests))

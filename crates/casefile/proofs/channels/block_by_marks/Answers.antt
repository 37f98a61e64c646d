use Rattle.std.proofs.Common.{rules}
use borrow.Author.Tests.{tests}
use Rattle.wire.proofs.Iterating.{all_over_range}
use Rattle.project.specs.Project.{link_count}
use Rattle.casefile.specs.Asks.{channel_by, channels_by}
use Rattle.casefile.proofs.channels.block_by_marks.Goals as goal

pub returns : goal.returns
unfolding channels_by channel_by
returns c = all_over_range (channel_by c.args.blocks.now c.args.marks.now c.args.b) link_count c.all.ensures.ran
    (search rules) (λ x b q k. search (rules, tests))

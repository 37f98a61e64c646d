-- The marks are those of all links and of O.
use Rattle.std.proofs.Common.{rules}
use borrow.Author.Tests.{tests}
use Rattle.wire.proofs.Usual.{◌∙◌}
use Rattle.wire.proofs.Iterating.{all_over_range}
use Rattle.project.specs.Project.{block_count}
use Rattle.casefile.specs.Asks.{channels_by}
use Rattle.casefile.proofs.Marking.{unread}
use Rattle.casefile.proofs.channels.channels_ok.Goals as goal

pub returns : goal.returns
unfolding block_count
returns c =
    all_over_range (channels_by c.args.blocks.now c.mark_outputs.new.marks) (block_count c.args.blocks.now)
    c.all.ensures.ran (search rules) (λ x b q k. search (rules, tests))
    ∙ unread c.args.blocks.now c.args.outputs.now c.mark_blocks.ensures c.mark_outputs.ensures
    c.mark_outputs.array_long c.requires

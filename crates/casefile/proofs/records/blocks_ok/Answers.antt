use Rattle.std.proofs.Common.{rules, refl, arith}
use borrow.Author.Tests.{tests}
use Rattle.wire.proofs.Iterating.{all_over_records}
use Rattle.project.specs.Project.{device, group_count, block_count, block_size, row_of}
use Rattle.casefile.specs.Rules.{block_record_ok, block_rule}
use Rattle.casefile.proofs.records.blocks_ok.Goals as goal

pub returns : goal.returns
unfolding block_record_ok block_count row_of
returns c = all_over_records (block_record_ok c.args.groups.now c.args.blocks.now)
    (block_rule (device c.args.groups.now) (group_count c.args.groups.now)) block_size c.args.blocks.now
    (omega arith) c.all.ensures.ran (search rules) (search rules) (λ x b q k. search (rules, tests)) (λ j l. refl)

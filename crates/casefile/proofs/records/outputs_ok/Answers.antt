use Rattle.std.proofs.Common.{rules, refl, arith}
use borrow.Author.Tests.{tests}
use Rattle.wire.proofs.Usual.{List, ℕ}
use Rattle.wire.proofs.Iterating.{all_over_records}
use Rattle.project.specs.Project.{group_count, block_count, block_record, output_block_in, output_count, output_size}
use Rattle.project.specs.Project.{row_of}
use Rattle.casefile.specs.Rules.{output_record_ok, output_rule}
use Rattle.casefile.proofs.records.outputs_ok.Goals as goal

pub returns : goal.returns
unfolding output_record_ok block_count output_count row_of
returns c = all_over_records (output_record_ok c.args.groups.now c.args.blocks.now c.args.outputs.now)
    (λ (R : List ℕ). output_rule (group_count c.args.groups.now) (block_count c.args.blocks.now) R
    (block_record c.args.blocks.now (output_block_in R))) output_size c.args.outputs.now
    (omega arith) c.all.ensures.ran (search rules) (search rules) (λ x b q k. search (rules, tests)) (λ j l. refl)

use Rattle.std.proofs.Common.{rules, refl, arith}
use borrow.Author.Tests.{tests}
use Rattle.wire.proofs.Iterating.{all_over_records}
use Rattle.project.specs.Project.{group_count, input_count, input_size, row_of}
use Rattle.casefile.specs.Rules.{input_record_ok, input_rule}
use Rattle.casefile.proofs.records.inputs_ok.Goals as goal

pub returns : goal.returns
unfolding input_record_ok input_count row_of
returns c = all_over_records (input_record_ok c.args.groups.now c.args.inputs.now)
    (input_rule (group_count c.args.groups.now))
    input_size c.args.inputs.now (omega arith) c.all.ensures.ran (search rules) (search rules)
    (λ x b q k. search (rules, tests)) (λ j l. refl)

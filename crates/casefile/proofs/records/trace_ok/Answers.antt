-- Few groups and inputs make a record of few bytes, and of some.
use Rattle.wire.proofs.Usual.{ap, ℕ, ◌+◌, ◌*◌, ◌%◌, eqb, length}
use Rattle.project.specs.Project.{head_size, word_size, input_count, record_size}
use Rattle.casefile.specs.Rules.{trace_ok}
use Rattle.casefile.proofs.records.trace_ok.Goals as goal

pub returns : goal.returns
unfolding trace_ok record_size input_count
returns c =
    ap (λ (g : ℕ). eqb (length c.args.records.now % (head_size + g + word_size * input_count c.args.inputs.now)) 0)
    c.group_count.ensures

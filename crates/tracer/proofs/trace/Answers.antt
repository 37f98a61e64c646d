-- The bodies are the file's, and the buffers' parts have the sizes that the counts say.
use Rattle.wire.proofs.Usual.{ap, ◌∙◌}
use Rattle.project.specs.Project.{counts_in}
use Rattle.casefile.proofs.Handed.{project_is}
use Rattle.tracer.proofs.Starting.{state_sized, findings_zero}
use Rattle.tracer.proofs.trace.Goals as goal

pub trace_cycles-end-requires-clause-handed : goal.trace_cycles-end-requires-clause-handed
trace_cycles-end-requires-clause-handed c =
    let b = c.of-bodies.ensures in
    record { groups = b.groups; inputs = b.inputs; blocks = b.blocks; records = b.trace }

pub trace_cycles-end-requires-clause-offered : goal.trace_cycles-end-requires-clause-offered
trace_cycles-end-requires-clause-offered c =
    let F = c.args.file.now in
    let b = c.of-bodies.ensures in
    let e = c.counts-c.ensures ∙ ap counts_in (project_is F b.groups b.inputs b.blocks b.outputs) in
    record {
      counts = e;
      size = λ z. state_sized F e z c.min.ensures c.min-blocks.ensures;
      clean = λ z. findings_zero F e z c.min-blocks.ensures;
    }

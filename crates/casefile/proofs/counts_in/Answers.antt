-- The bodies are those of the file's project.
use Rattle.wire.proofs.Usual.{ap, ◌∙◌}
use Rattle.project.specs.Project.{counts_in}
use Rattle.casefile.proofs.Handed.{project_is}
use Rattle.casefile.proofs.counts_in.Goals as goal

pub returns : goal.returns
returns c =
    let e = c.of.ensures in
    c.counts.ensures ∙ ap counts_in (project_is c.args.file.now e.groups e.inputs e.blocks e.outputs)

-- One byte is set, and none past the last port.
use Rattle.std.specs.Prelude.{Some}
use mathlib.Core.Logic.{inl, inr}
use Rattle.project.specs.declared.Source.TheVariants.{Output}
use Rattle.casefile.specs.Rules.{passes}
use Rattle.casefile.proofs.Marking.{unmarked, past_last, marked_one}
use Rattle.casefile.proofs.channels.mark.Goals as goal

pub returns-then-b-ge64 : goal.returns-then-b-ge64
returns-then-b-ge64 c =
    unmarked c.args.marks.now (passes (Some (Output c.args.block c.args.port)))
    (past_last c.args.block c.args.port (inl c.if-b-ge64.true))

pub returns-then-p-ge-PORTS : goal.returns-then-p-ge-PORTS
returns-then-p-ge-PORTS c =
    unmarked c.args.marks.now (passes (Some (Output c.args.block c.args.port)))
    (past_last c.args.block c.args.port (inr c.if-p-ge-PORTS.true))

pub returns : goal.returns
returns c =
    marked_one c.args.marks.now c.args.block c.args.port c.if-b-ge64.false c.if-p-ge-PORTS.false c.told-marks

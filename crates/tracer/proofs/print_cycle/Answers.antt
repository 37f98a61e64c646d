-- The buffer holds the cycle's lines whole, and these are written.
use Rattle.wire.proofs.Usual.{sym, subst, arith}
use Rattle.report.proofs.Parts.{put_whole}
use Rattle.tracer.specs.Text.{Told}
use Rattle.tracer.proofs.print_cycle.Goals as goal

pub write_cycle-requires : goal.write_cycle-requires
write_cycle-requires c =
    let e = c.cycle_lines-size.ensures in
    subst (Told c.args.file.now c.args.cycle)
    (sym (put_whole e.put (omega (arith, e.upper_bound, c.requires.k_bound.1))))
    c.requires.told

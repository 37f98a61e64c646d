-- `year::bends::bend_of` meets its contract: the loop keeps the best month so far.
use Rattle.year.specs.Ledger.{month_count}
use Rattle.year.specs.Bends.{sides_at}
use Rattle.year.proofs.Bending.{Top}
use Rattle.year.proofs.bends.bend_of.Given as goal

abbrev pub invariant-loop-m : goal.invariant-loop-m
invariant-loop-m l = Top (sides_at l.lines) month_count l.best l.m

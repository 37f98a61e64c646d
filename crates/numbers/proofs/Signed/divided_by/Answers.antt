-- `Signed::divided_by` is the quotient in ℤ, rounded: one law for both signs. Assumes nothing.
use Rattle.std.proofs.Common.{ap, ◌∙◌, arith}
use mir.Val.{bool_byte as from_bool}
use Rattle.numbers.specs.Types.{z_of}
use Rattle.numbers.proofs.Laws.{by_zero, rounded, not_same, sgn_div}
use Rattle.numbers.proofs.Signed.divided_by.Goals as goal

pub returns-then-d-eq0 : goal.returns-then-d-eq0
returns-then-d-eq0 c =
    let x = c.args in
    rw c.if-d-eq0.true (by_zero x.rounding (z_of x.self) x.b.neg)

pub returns : goal.returns
returns c =
    let x = c.args in
    let d = x.b.mag in
    let e = not_same x.self.neg x.b.neg in
    rw e (rounded x.rounding _ x.self.mag d c.from.result
    (c.from.ensures ∙ ap from_bool (rw e at c.goes_away-away.ensures))
    ∙ sgn_div x.rounding x.self.neg x.b.neg x.self.mag d (omega arith))

-- A turn stores the last digit of those that are left; at the end none is left, and they fill the places.
use Rattle.wire.proofs.Usual.{◌≡◌, ap, ◌∙◌, refl, arith, length, ℕ, ◌-◌}
use Rattle.io.specs.Digits.{last_digits}
use Rattle.wire.proofs.Packing.{sets_whole}
use Rattle.report.proofs.Puts.{behind_none, behind_more, behind_all}
use Rattle.report.proofs.Making.{length_last, last-digit}
use Rattle.report.proofs.pieces.write_digits.Goals as goal

pub loop-k-init : goal.loop-k-init
loop-k-init g c =
    let l = c.args.places.now in
    behind_none l 0 _ (omega (arith, length_last g.row.BASE (length l) c.args.n))

pub loop-k-preserved : goal.loop-k-preserved
loop-k-preserved g c =
    behind_more c.loop-k.invariant (c.loop-k.k - 1) _ (omega (arith, c.loop-k-test.true))
    (last-digit g.row.BASE c.loop-k.k _ c.loop-k-test.true c.digit.ensures)
    refl

pub returns : goal.returns
returns g c =
    let l = c.args.places.now in
    let none : c.loop-k.k ≡ 0 = omega (arith, c.loop-k-test.false) in
    behind_all c.loop-k.invariant (ap (λ (k : ℕ). last_digits g.row.BASE k c.loop-k.rest) none)
    ∙ sets_whole (last_digits g.row.BASE (length l) c.args.n) l (length_last g.row.BASE (length l) c.args.n)

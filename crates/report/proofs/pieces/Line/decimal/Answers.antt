-- The digits, as many as the number has, are the number in decimal, and stand behind what there is.
use Rattle.wire.proofs.Usual.{◌≡◌, ap, ◌∙◌, ◌++◌, sym, arith, length, take, length-take-le, sets, List, ℕ, ◌+◌}
use Rattle.wire.proofs.Usual.{◌≤◌}
use native.Mathlib.Nat.{add-sub_cancel_left}
use borrow.Rule.Slice.PartMut.{mid_len}
use Rattle.io.specs.Digits.{last_digits}
use Rattle.wire.proofs.Stores.{overwritten}
use Rattle.report.specs.Decimal.{decimal}
use Rattle.report.proofs.Making.{added, last-decimal, length_last}
use Rattle.report.proofs.pieces.Line.decimal.Goals as goal

pub returns : goal.returns
returns c =
    let l = c.self.inside in
    let n = c.args.n in
    let k = c.digit_count.result in
    let value = c.digit_count.ensures.value in
    let long : length (decimal n) ≡ k = ap length (sym (last-decimal value)) ∙ length_last 10 k n in
    let used = length-take-le l.used l.bytes (omega arith) in
    let fits : l.used + k ≤ length l.bytes = omega (arith, used, ap length c.self.view_is) in
    let places = mid_len l.used (l.used + k) l.bytes fits ∙ add-sub_cancel_left l.used k in
    let digits =
    rw c.from.ensures at c.write_digits.ensures
    ∙ ap (λ (m : ℕ). last_digits 10 m n) places
    ∙ last-decimal value in
    ap (take (l.used + k)) (overwritten (decimal n) l.bytes l.used k long fits c.write_digits.new.places digits)
    ∙ ap (λ (m : ℕ). take (l.used + m) (sets l.bytes l.used (decimal n))) (sym long)
    ∙ added l.bytes (decimal n) l.used (omega (arith, fits, long))
    ∙ ap (λ (s : List ℕ). s ++ decimal n) c.self.view_is

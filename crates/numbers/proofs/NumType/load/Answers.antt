-- `NumType::load` gives the sign and the magnitude of the word's value: the word itself, or what is left of it to 2 ^
-- 32. Assumes nothing.
use Rattle.std.proofs.Common.{sym, ◌∙◌, true, ◌-◌, arith}
use Rattle.numbers.proofs.Laws.{value_low, value_high, value_plain, below_zero, abs_sgn}
use Rattle.numbers.proofs.NumType.load.Goals as goal
use Rattle.numbers.proofs.NumType.load.Goals.{else-is_signed-via-then-is_signed+else-w-ge2147483648}
use Rattle.numbers.proofs.NumType.load.Goals.{else-is_signed-via-else-is_signed}

pub returns-then-w-ge2147483648 : goal.returns-then-w-ge2147483648
returns-then-w-ge2147483648 c =
    let m = 4294967296 - c.args.w in
    rw (
      c.from.ensures,
      value_high c.args.self (sym c.is_signed.ensures ∙ c.if-is_signed.true) c.if-w-ge2147483648.true (omega arith),
      below_zero m (omega arith),
      abs_sgn true m,
    )

pub returns-else-is_signed : goal.returns-else-is_signed
returns-else-is_signed c =
    let t = c.args.self in
    let e = c.is_signed.ensures in
    rw c.from-else-is_signed.ensures (elim c.else-is_signed.branch [
      | else-is_signed-via-then-is_signed+else-w-ge2147483648 w ↦
          rw (value_low t {w = c.args.w} (sym e ∙ w.if-is_signed.true) (omega (arith, w.if-w-ge2147483648.false)))
      | else-is_signed-via-else-is_signed w ↦ rw (value_plain t (sym e ∙ w.if-is_signed.false))
    ])

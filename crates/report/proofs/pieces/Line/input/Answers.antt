-- The magnitude of a word's number has 32 bits; its digits are those of the number, with a minus sign in front where
-- the number is below 0.
use Rattle.wire.proofs.Usual.{sym, ap, ◌∙◌, arith}
use Rattle.numbers.specs.Types.{value}
use Rattle.numbers.specs.declared.Signed.{Signed}
use Rattle.numbers.proofs.Range.{value_small}
use Rattle.report.proofs.Decimal.{signed_minus, signed_plain}
use Rattle.report.proofs.Making.{next_of}
use Rattle.report.proofs.pieces.Line.input.Goals as goal
use Rattle.report.proofs.pieces.Line.input.Goals.{then-v, else-v}

pub overflow_cast-v : goal.overflow_cast-v
overflow_cast-v c =
    let magnitude = ap (λ (s : Signed). s.mag) c.load-v.ensures in
    record { fits = rw magnitude (value_small c.args.t c.args.w (omega arith)) }

pub returns : goal.returns
returns c =
    let z = value c.args.t c.args.w in
    let sign = ap (λ (s : Signed). s.neg) c.load-v.ensures in
    let magnitude = ap (λ (s : Signed). s.mag) c.load-v.ensures in
    elim c.if-v.branch [
      | then-v w ↦
          rw (← (signed_minus z (sym sign ∙ w.if-v.true)), ← magnitude)
          (next_of _ 32 _ c.push.ensures
          (next_of _ 45 _ w.push-then-v.ensures (rw w.self-is at c.decimal.ensures)))
      | else-v w ↦
          rw (← (signed_plain z (sym sign ∙ w.if-v.false)), ← magnitude)
          (next_of _ 32 _ c.push.ensures (rw w.self-is at c.decimal.ensures))
    ]

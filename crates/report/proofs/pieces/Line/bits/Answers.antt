-- The 16 digits are the number's in hexadecimal.
use Rattle.wire.proofs.Usual.{ap, ◌∙◌, ◌++◌, List, ℕ}
use Rattle.report.proofs.Making.{last_hexadecimal, next_of}
use Rattle.report.proofs.pieces.Line.bits.Goals as goal

pub returns : goal.returns
returns c =
    next_of _ 32 _ c.push.ensures
    (c.add.ensures
    ∙ ap (λ (t : List ℕ). c.push.new.self ++ t) (c.write_digits.ensures ∙ last_hexadecimal 16 c.args.n))

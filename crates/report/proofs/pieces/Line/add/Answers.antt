-- The text stands behind what there was.
use Rattle.wire.proofs.Usual.{ap, ◌∙◌, ◌++◌, arith, length, length-take-le, List, ℕ}
use Rattle.report.proofs.Making.{added}
use Rattle.report.proofs.pieces.Line.add.Goals as goal

pub returns : goal.returns
returns c =
    let l = c.self.inside in
    let t = c.args.text.now in
    let long = ap length c.self.view_is in
    let used = length-take-le l.used l.bytes (omega arith) in
    rw c.put.ensures (added l.bytes t l.used (omega arith))
    ∙ ap (λ (s : List ℕ). s ++ t) c.self.view_is

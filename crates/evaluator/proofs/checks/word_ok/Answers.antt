-- 0 and 1 are words of every type.
use Rattle.wire.proofs.Usual.{◌≡◌, Bool, true, false, cond, ℕ, ◌≤◌, eqb}
use borrow.Author.Tests.{le-leb}
use lib.Dec.{leb}
use Rattle.numbers.specs.Types.{type_of, inside}
use Rattle.numbers.proofs.Range.{bit_inside}
use Rattle.kind.specs.Ports.{BOOL}
use Rattle.block.specs.Shows.{word_ok}
use Rattle.evaluator.proofs.checks.word_ok.Goals as goal

bit_ok : (t w : ℕ) → w ≤ 1 → true ≡ word_ok t w
unfolding word_ok
bit_ok t w l = go (eqb t BOOL)
  where
    go : (b : Bool) → true ≡ cond b (leb w 1) (inside (type_of t) w)
    go true = rw (le-leb w 1 l)
    go false = rw (bit_inside (type_of t) w l)

pub returns-then-w-le1 : goal.returns-then-w-le1
returns-then-w-le1 c = bit_ok c.args.t c.args.w c.if-w-le1.true

-- What the four blocks share: the two words as sign and magnitude, and their exact result in the output's type.
-- Assumes nothing.
use mathlib.Core.Path.{◌≡◌, ap, ◌∙◌}
use Prim.Native.Nat.{ℕ, ◌^◌, ◌<◌}
use Rattle.numbers.specs.Types.{value, signed, z_of}
use Rattle.numbers.specs.Results.{exact, settled, outcome}
use Rattle.numbers.specs.declared.NumType.{NumType}
use Rattle.numbers.specs.declared.Op.{Op}
use Rattle.numbers.specs.declared.OutOfRange.{OutOfRange}
use Rattle.std.proofs.Common.{Result}
use Rattle.numbers.specs.declared.Signed.{Signed}
use Rattle.numbers.proofs.Laws.{loaded}
use Rattle.numbers.proofs.Range.{value_small}

pub small : (t : NumType) (w : ℕ) {x : Signed} → x ≡ signed (value t w) → w < 2 ^ 32 → x.mag < 2 ^ 32
small t w e l = rw e (value_small t w l)

pub settles : (op : Op) (ta : NumType) (a : ℕ) (tb : NumType) (b : ℕ) (t : NumType) (r : Signed) {x y : Signed}
    {o : Result ℕ OutOfRange} → x ≡ signed (value ta a) → y ≡ signed (value tb b) →
    z_of r ≡ exact op (z_of x) (z_of y) → o ≡ settled t (z_of r) → o ≡ outcome op ta a tb b t
unfolding outcome
settles op ta a tb b t r {x} {y} p q e s =
    s ∙ ap (settled t) (e ∙ (λ i. exact op (loaded x (value ta a) p i) (loaded y (value tb b) q i)))

-- A text that is stored at the front of what a buffer has left stands behind the text that is there. Assumes nothing.
use Rattle.wire.proofs.Usual.{◌≡◌, ap, ◌∙◌, subst, List, ◌++◌, ℕ, zero-add, ◌+◌, ◌-◌, ◌≤◌, arith}
use Rattle.wire.proofs.Usual.{length, take, drop, sets}
use borrow.Rule.Slice.PartMut.{put_mid}
use lib.Seq.{length-sets}
use native.Mathlib.Nat.{add-sub_cancel_left}
use Rattle.report.specs.Lines.{Printed, Put}
use Rattle.report.proofs.Puts.{◌then◌}
use Rattle.report.proofs.Parts.{part_stored, printed_put}

-- the part of a buffer from `at` on
abbrev pub rest : List ℕ → ℕ → List ℕ
rest out at = take (length out - at) (drop at out)

-- a store leaves a buffer as long as it was
pub put_long : {text before after : List ℕ} {at next : ℕ} → Put text before at after next →
    length after ≡ length before
put_long {text} {before} {after} {at} p = ap length p.bytes ∙ length-sets before at text

tail_stored : (X Y v : List ℕ) (at : ℕ) → at + length v ≤ length X → Y ≡ sets (rest X at) 0 v →
    put_mid at (length X - at) X Y ≡ sets X at v
tail_stored X Y v at l e =
    subst (λ (k : ℕ). Y ≡ sets (take k (drop at X)) 0 v → put_mid at k X Y ≡ sets X at v)
    (add-sub_cancel_left at (length X - at))
    (part_stored X Y v at (length X - at) (omega (arith, l)) (omega (arith, l))) e

pub behind : {text more out₀ out out₁ : List ℕ} {at size : ℕ} → Put text out₀ 0 out at →
    at + size ≤ length out → Put more (rest out at) 0 out₁ size →
    Put (text ++ more) out₀ 0 (put_mid at (length out - at) out out₁) (at + size)
behind {text} {more} {out₀} {out} {out₁} {at} {size} p l q =
    let whole = q.place ∙ zero-add (length more) in
    p then record {
      bytes = tail_stored out out₁ more at (omega (arith, l, whole)) q.bytes;
      place = ap (λ (n : ℕ). at + n) whole;
    }

pub line_behind : {text line out₀ out out₁ : List ℕ} {at size : ℕ} → Put text out₀ 0 out at →
    at + size ≤ length out → Printed line (rest out at) out₁ size →
    Put (text ++ line) out₀ 0 (put_mid at (length out - at) out out₁) (at + size)
line_behind p l q = behind p l (printed_put q)

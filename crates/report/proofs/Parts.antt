-- Text that is stored in a part of a buffer. Assumes nothing.
use Rattle.wire.proofs.Usual.{◌≡◌, sym, ap, ◌∙◌, List, ◌++◌, ℕ, zero-add, ◌+◌, ◌-◌}
use Rattle.wire.proofs.Usual.{◌≤◌, arith, length, take, drop, length-drop, length-take-le, sets}
use borrow.Rule.Slice.PartMut.{put_mid, post_of, Post-is, same_len_mid}
use mathlib.Core.List.{append_assoc}
use native.Mathlib.Nat.{add-sub_cancel_left}
use lib.ListN.{take-append-drop}
use lib.Seq.{sets-eq, drop-drop, drop-append-le}
use Rattle.report.specs.Lines.{line_most, Printed, Put}
use Rattle.report.proofs.Puts.{◌then◌}
use Rattle.report.proofs.Lines.{line_front}

-- what is stored at the front of the n bytes of a buffer from `at` on is stored in the buffer
pub part_stored : (X Y v : List ℕ) (at n : ℕ) → at + n ≤ length X → length v ≤ n →
    Y ≡ sets (take (at + n - at) (drop at X)) 0 v → put_mid at (at + n - at) X Y ≡ sets X at v
part_stored X Y v at n l k e =
    (λ i. take at X ++ ((e ∙ part) i ++ post i))
    ∙ ap (λ (t : List ℕ). take at X ++ t)
    (append_assoc v (drop (length v) mid) (drop (at + n) X) ∙ ap (λ (t : List ℕ). v ++ t) rest)
    ∙ sym (append_assoc (take at X) v (drop (at + length v) X))
    ∙ sym (sets-eq v X at (omega arith))
  where
    mid : List ℕ
    mid = take (at + n - at) (drop at X)

    long : length mid ≡ n
    long = length-take-le (at + n - at) (drop at X) (omega (arith, length-drop at X)) ∙ add-sub_cancel_left at n

    post : post_of at (at + n - at) X ≡ drop (at + n) X
    post = Post-is at (at + n) X (omega arith)

    part : sets mid 0 v ≡ v ++ drop (length v) mid
    part =
        sets-eq v mid 0 (omega (arith, long))
        ∙ ap (λ (m : ℕ). v ++ drop m mid) (zero-add (length v))

    rest : drop (length v) mid ++ drop (at + n) X ≡ drop (at + length v) X
    rest =
        let size : at + (at + n - at) ≡ at + n = omega arith in
        ap (λ (t : List ℕ). drop (length v) mid ++ t)
        (sym (drop-drop (at + n - at) at X ∙ ap (λ (m : ℕ). drop m X) size))
        ∙ sym (drop-append-le (length v) mid (drop (at + n - at) (drop at X)) (omega (arith, long)))
        ∙ ap (drop (length v)) (take-append-drop (at + n - at) (drop at X))
        ∙ drop-drop (length v) at X

-- and the buffer stays as long
pub part_long : (X Y : List ℕ) (at n : ℕ) → length Y ≡ length (take (at + n - at) (drop at X)) →
    length (put_mid at (at + n - at) X Y) ≡ length X
part_long X Y at n e = same_len_mid at (at + n - at) X Y e

-- a line at the front of a buffer
pub printed_put : {line before after : List ℕ} {size : ℕ} → Printed line before after size →
    Put line before 0 after size
printed_put {line} p = record { bytes = p.bytes; place = p.whole ∙ sym (zero-add (length line)) }

-- a line behind a text
pub line_behind : {text line out₀ out out₁ : List ℕ} {from at size : ℕ} →
    Put text out₀ from out at → at + line_most ≤ length out →
    Printed line (take (at + line_most - at) (drop at out)) out₁ size →
    Put (text ++ line) out₀ from (put_mid at (at + line_most - at) out out₁) (at + size)
line_behind {text} {line} {out₀} {out} {out₁} {from} {at} {size} p l q =
    p then record {
      bytes = part_stored out out₁ line at line_most l (omega (arith, q.whole, q.short)) q.bytes;
      place = ap (λ (n : ℕ). at + n) q.whole;
    }

-- a text at the front of a buffer that has room for it
pub put_whole : {text before after : List ℕ} {size : ℕ} → Put text before 0 after size →
    size ≤ length before → take size after ≡ text
put_whole {text} {before} {after} {size} p h =
    let long : size ≡ length text = p.place ∙ zero-add (length text) in
    rw (p.bytes, long) (line_front text before (omega (arith, long)))

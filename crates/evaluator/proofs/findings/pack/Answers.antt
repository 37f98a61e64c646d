-- After the turn of block b the findings of the first b + 1 blocks are packed (`Packing`).
use Rattle.wire.proofs.Usual.{◌≡◌, sym, ap, ◌∙◌, List, ℕ, ◌+◌, ◌*◌, ◌/◌, ◌≤◌, ◌<◌, arith, length}
use Rattle.wire.proofs.Usual.{take, drop, replicate, length-drop, sets, length-take-le}
use mathlib.Core.Path.{subst₂}
use Rattle.project.specs.Project.{row_of}
use Rattle.block.specs.Finding.{is_finding, finding_size}
use Rattle.evaluator.specs.Asks.{note_in, is_noted}
use Rattle.wire.proofs.Packing.{Kept, kept_start, kept_slot, kept_miss, kept_hit}
use Rattle.evaluator.proofs.findings.pack.Goals as goal
use Rattle.evaluator.proofs.findings.pack.Goals.{then-is_noted, else-is_noted}

module _ (D : List ℕ) (n b : ℕ) (e : length D ≡ finding_size * n) (l : b < n) where
  -- the buffer has room for the records of all blocks
  room : finding_size * (b + 1) ≤ length D
  room = omega arith

  note_long : length (note_in D b) ≡ finding_size
  unfolding row_of
  note_long = length-take-le finding_size (drop (finding_size * b) D) (simp length-drop (omega arith))

-- the record of block b is as it was
note_same : (D D' : List ℕ) (b : ℕ) → drop (finding_size * b) D' ≡ drop (finding_size * b) D →
    note_in D' b ≡ note_in D b
unfolding row_of
note_same D D' b e = ap (take finding_size) e

noted_same : (D D' : List ℕ) (b : ℕ) → drop (finding_size * b) D' ≡ drop (finding_size * b) D →
    is_noted D' b ≡ is_noted D b
unfolding is_noted
noted_same D D' b e = ap is_finding (note_same D D' b e)

pub loop-b-init : goal.loop-b-init
loop-b-init c = kept_start finding_size _ _ _

pub loop-b-preserved : goal.loop-b-preserved
unfolding row_of
loop-b-preserved c =
    let a = c.args in
    let l = c.loop-b in
    let D = a.findings.now in
    let test = c.loop-b-test.true in
    let fits = room D (length D / finding_size) l.b c.requires.long test in
    let still = kept_slot finding_size (is_noted D) (note_in D) D l.findings l.k l.b l.invariant fits in
    let hit = c.is_noted.ensures ∙ noted_same D l.findings l.b still in
    let kept : List ℕ → ℕ → Type 0 = λ d k. Kept finding_size (is_noted D) (note_in D) D d k (l.b + 1) in
    elim c.if-is_noted.branch [
      | then-is_noted w ↦
          subst₂ kept
          (sym (w.findings-is ∙ w.move_record.ensures ∙ ap (λ (v : List ℕ). sets
          (sets l.findings (finding_size * l.b) (replicate finding_size 0)) (finding_size * l.k) v)
          (note_same D l.findings l.b still)))
          (sym w.k-is)
          (kept_hit finding_size (is_noted D) (note_in D) D l.findings l.k l.b l.invariant
          fits (sym hit ∙ w.if-is_noted.true) (note_long D (length D / finding_size) l.b c.requires.long test))
      | else-is_noted w ↦
          subst₂ kept (sym w.findings-is) (sym w.k-is)
          (kept_miss finding_size (is_noted D) (note_in D) D l.findings l.k l.b
          l.invariant fits (sym hit ∙ w.if-is_noted.false) (c.requires.empty l.b test
          (sym hit ∙ w.if-is_noted.false)))
    ]

-- Lines that are stored one behind the other, each in the bytes behind the ones before it. Assumes nothing.
use Rattle.wire.proofs.Usual.{◌≡◌, refl, sym, ap, ◌∙◌, subst, List, ◌++◌, ℕ, ◌+◌, ◌-◌, ◌*◌, ◌≤◌, length}
use Rattle.wire.proofs.Usual.{take, drop}
use borrow.Rule.Slice.PartMut.{put_mid}
use native.Mathlib.Numerals.{add-one}
use Rattle.project.specs.Project.{row_of}
use Rattle.block.specs.Finding.{finding_size, finding_in}
use Rattle.report.specs.Lines.{line_most, Printed, Put}
use Rattle.report.proofs.Parts.{line_behind}
use Rattle.tracer.specs.Text.{line_of, lines_of}

-- no line
pub lines_none : (B D out : List ℕ) (c : ℕ) → Put (lines_of B c 0 D) out 0 out 0
unfolding lines_of
lines_none B D out c = record { bytes = refl; place = refl }

-- one line more
pub line_more : (B D : List ℕ) (c i : ℕ) {out₀ out out₁ f : List ℕ} {at size : ℕ} →
    Put (lines_of B c i D) out₀ 0 out at → at + line_most ≤ length out →
    f ≡ take finding_size (drop (finding_size * i) D) →
    Printed (line_of B c (finding_in f)) (take (at + line_most - at) (drop at out)) out₁ size →
    Put (lines_of B c (i + 1) D) out₀ 0 (put_mid at (at + line_most - at) out out₁) (at + size)
unfolding lines_of row_of
line_more B D c i {out₀} {out} {out₁} {f} {at} {size} p l e q =
    subst (λ (t : List ℕ). Put t out₀ 0 (put_mid at (at + line_most - at) out out₁) (at + size)) (sym lines)
    (line_behind p l q)
  where
    lines : lines_of B c (i + 1) D ≡ lines_of B c i D ++ line_of B c (finding_in f)
    lines =
        ap (λ (k : ℕ). lines_of B c k D) (add-one i)
        ∙ ap (λ (r : List ℕ). lines_of B c i D ++ line_of B c (finding_in r)) (sym e)

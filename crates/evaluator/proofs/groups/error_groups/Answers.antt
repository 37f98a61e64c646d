-- After the block b the marks are those of the first b + 1 blocks.
use Rattle.wire.proofs.Usual.{◌≡◌, sym, ap, ◌∙◌, subst, List, ℕ, ◌+◌, arith, set}
use Rattle.project.specs.Project.{group_in, block_count}
use Rattle.block.specs.State.{is_error}
use Rattle.evaluator.proofs.Deciding.{Marked, marked_start, marked_miss, marked_hit, marked_end}
use Rattle.evaluator.proofs.groups.error_groups.Goals as goal
use Rattle.evaluator.proofs.groups.error_groups.Goals.{then-is_error, else-is_error}

pub loop-b-init : goal.loop-b-init
loop-b-init c = marked_start _ _ _

pub loop-b-preserved : goal.loop-b-preserved
loop-b-preserved c =
    let L = c.args.layout.now in
    let S = c.args.state.now in
    let l = c.loop-b in
    let code = c.is_error.ensures ∙ ap is_error c.cell.ensures in
    let kept : List ℕ → Type 0 = λ m. Marked L.groups L.blocks.now S m (l.b + 1) in
    elim c.if-is_error.branch [
      | then-is_error w ↦
          let g = w.group_of-g.ensures ∙ ap group_in w.record.ensures in
          subst kept (sym (w.marks-is ∙ ap (λ (j : ℕ). set l.marks j 1) g))
          (marked_hit L.groups L.blocks.now S l.marks l.b l.invariant (sym code ∙ w.if-is_error.true)
          (c.requires.grouped.groups l.b c.loop-b-test.true))
      | else-is_error w ↦
          subst kept (sym w.marks-is)
          (marked_miss L.groups L.blocks.now S l.marks l.b l.invariant (sym code ∙ w.if-is_error.false))
    ]

pub returns : goal.returns
returns c =
    let L = c.args.layout.now in
    let l = c.loop-b in
    let end : l.b ≡ block_count L.blocks.now = omega (arith, L.whole.count) in
    marked_end L.groups L.blocks.now c.args.state.now l.marks
    (subst (Marked L.groups L.blocks.now c.args.state.now l.marks) end l.invariant)

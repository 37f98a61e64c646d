-- A turn stores the line of one month more.
use Rattle.wire.proofs.Usual.{◌≡◌, ap, List, ◌++◌, ℕ, ◌+◌, ◌≤◌, length, arith}
use native.Mathlib.Numerals.{add-one}
use Rattle.year.specs.declared.Line.{Line}
use Rattle.year.specs.Bends.{line_at}
use Rattle.yearbook.specs.Text.{months_text, month_text}
use Rattle.yearbook.proofs.Behind.{line_behind}
use Rattle.yearbook.proofs.month_lines.Goals as goal

months_more : (L : List Line) (n : ℕ) → months_text L (n + 1) ≡ months_text L n ++ month_text (n + 1) (line_at L n)
unfolding months_text
months_more L n = ap (months_text L) (add-one n)

pub loop-m-preserved : goal.loop-m-preserved
loop-m-preserved c =
    let i = c.loop-m.invariant in
    let p = c.month_line-end in
    let room : c.loop-m.end + p.result ≤ length c.loop-m.out =
    omega (arith, i.0, p.ensures.short, c.loop-m.auto.out, c.loop-m-test.true, c.requires) in (
      omega (arith, i.0, p.ensures.short),
      rw (months_more c.args.lines.now c.loop-m.m) (line_behind i.1 room p.ensures),
    )

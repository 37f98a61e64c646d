-- `block::run_step` meets its contract where no pair differs and none is waited for: the transition alone.
use Rattle.std.proofs.Common.{◌≡◌, sym, ◌∙◌, Bool, true, not, ◌&&◌, List, ℕ}
use Rattle.wire.proofs.Usual.{not-true}
use Rattle.wire.proofs.Places.{both_left, both_right}
use Rattle.kind.specs.Parameters.{active_mask}
use Rattle.block.specs.State.{is_waiting, plain, code_of, decode}
use Rattle.block.specs.Twohand.{hands_of, next_code, twohand_run}
use Rattle.block.specs.Asks.{Even}
use Rattle.block.proofs.Steady.{steady, moves_on}
use Rattle.block.proofs.twohand.run_step.Goals as goal

-- the whole rule is the transition there
transits : (P s : List ℕ) (ms x active code : ℕ) (waited even : Bool) → active ≡ active_mask P → code ≡ code_of s →
    waited ≡ is_waiting code → (even ≡ true → Even active x) → not waited && even ≡ true →
    twohand_run P ms x (decode s) ≡ plain (next_code (code_of s) (hands_of (active_mask P) x))
unfolding decode
transits P s ms x active code waited even a k w e t =
    steady P ms x (decode s) (rw k at (sym w ∙ not-true waited (both_left (not waited) even t)))
    (rw a at (e (both_right (not waited) even t)))

pub returns-then-is_waiting-none_differs-clause-left :
    goal.returns-then-is_waiting-none_differs-clause-left
returns-then-is_waiting-none_differs-clause-left c =
    rw (transits c.args.p.now c.args.s.now c.args.ms c.args.x c.from-active.result c.code_of-code.result
    c.is_waiting.result c.none_differs.result (c.from-active.ensures ∙ c.active_mask.ensures) c.code_of-code.ensures
    c.is_waiting.ensures c.none_differs.ensures c.if-is_waiting-none_differs.true)
    (c.keep.ensures ∙ rw (
      c.plain.ensures,
      c.next_code.ensures,
      c.hands_of.ensures,
      c.code_of-code.ensures,
      c.from-active.ensures,
      c.active_mask.ensures,
    ))

pub returns-then-is_waiting-none_differs-clause-enters :
    goal.returns-then-is_waiting-none_differs-clause-enters
returns-then-is_waiting-none_differs-clause-enters c =
    rw (transits c.args.p.now c.args.s.now c.args.ms c.args.x c.from-active.result c.code_of-code.result
    c.is_waiting.result c.none_differs.result (c.from-active.ensures ∙ c.active_mask.ensures) c.code_of-code.ensures
    c.is_waiting.ensures c.none_differs.ensures c.if-is_waiting-none_differs.true)
    (sym (moves_on c.args.s.now (code_of c.args.s.now) (hands_of (active_mask c.args.p.now) c.args.x)))

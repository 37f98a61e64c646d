-- TWOHAND where no pair differs and none is waited for: no time is counted and there is no error, so it takes the
-- transition.
-- Assumes nothing.
use Rattle.wire.proofs.Usual.{◌≡◌, refl, Bool, true, false, cond, ◌&&◌, List, ℕ, ◌+◌, ◌%◌, arith, eqb, ltb}
use borrow.Author.Tests.{le-ltb}
use Rattle.kind.specs.Parameters.{active_mask, limits_of}
use Rattle.kind.specs.declared.Limits.{Limits}
use Rattle.block.specs.State.{only_if, is_waiting, plain, encode, enters_from}
use Rattle.block.specs.Twohand.{hands_of, pair_time, time_since, times_of, next_code, error_bits, moved, judged}
use Rattle.block.specs.Twohand.{twohand_run}
use Rattle.block.specs.Asks.{Even}
use Rattle.block.proofs.Bits.{or_false}
use Rattle.block.proofs.TwohandFormed.{next_moves}
use Rattle.block.specs.declared.BlockState.{BlockState}
use Rattle.block.specs.declared.Hands.{Hands}
use Rattle.block.specs.declared.Times.{Times}

abbrev none : Times
none = record { first = 0; second = 0; since = 0 }

-- a pair that does not differ has no time
unpaired : (d stored ms : ℕ) → pair_time d false stored ms ≡ 0
unfolding pair_time
unpaired d stored ms = go (ltb 0 d)
  where
    go : (b : Bool) → cond (b && false) (cond (eqb stored 0) 1 (stored + ms)) 0 ≡ 0
    go true = refl
    go false = refl

unwaited : (t code entry ms : ℕ) → is_waiting code ≡ false → time_since t code entry ms ≡ 0
unfolding time_since
unwaited t code entry ms w = rw w

zero_either : (b : Bool) → only_if b 0 % 65536 ≡ 0
zero_either true = refl
zero_either false = refl

judged_plain : (l : Limits) (code : ℕ) (h : Hands) → is_waiting code ≡ false →
    judged l none code h ≡ plain (next_code code h)
unfolding judged error_bits moved
judged_plain l code h w =
    let e = or_false (eqb code 11) (eqb code 12) w in
    rw (
      le-ltb (l.first + 1) 0 (omega arith),
      le-ltb (l.second + 1) 0 (omega arith),
      le-ltb l.between 0 (omega arith),
      e.0,
      e.1,
      zero_either (eqb (next_code code h) code),
    )

module _ (P : List ℕ) (ms x : ℕ) (old : BlockState) (w : is_waiting old.code ≡ false)
    (e : Even (active_mask P) x) where
  times_none : times_of (limits_of P) (active_mask P) ms x old ≡ none
  times_none =
      let l = limits_of P in
      rw (e.first, e.second, unpaired l.first old.first ms, unpaired l.second old.second ms, unwaited) refl

  pub steady : twohand_run P ms x old ≡ plain (next_code old.code (hands_of (active_mask P) x))
  unfolding twohand_run
  steady = rw times_none (judged_plain (limits_of P) old.code (hands_of (active_mask P) x) w)

-- it does not enter ERROR
pub moves_on : (s : List ℕ) (code : ℕ) (h : Hands) → enters_from s (encode (plain (next_code code h))) ≡ false
unfolding enters_from encode
moves_on s code h = rw (next_moves code h).errs_not

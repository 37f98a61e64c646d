-- TWOHAND in phase RUN, and whether its fault is present. 01, "TWOHAND.". x is the effective mask (Inputs.antt), l the
-- limits D1, D2 and T, ms the elapsed time.
use Rattle.std.specs.Prelude.{ℕ, ◌+◌, ◌/◌, ◌%◌, Bool, not, cond, ◌&&◌, ◌||◌, List, eqb, ltb}
use Rattle.kind.specs.Parameters.{active_mask, limits_of}
use Rattle.kind.specs.declared.Limits.{Limits}
use Rattle.block.specs.State.{only_if, RUN, SAFE, BUTTON1, BUTTON2, RELEASE, is_waiting, in_error}
use Rattle.block.specs.declared.BlockState.{BlockState}
use Rattle.block.specs.declared.Hands.{Hands}
use Rattle.block.specs.declared.Times.{Times}

-- ---- the pairs

-- 01, "The case file": pairs 0,1 and 2,3, of a mask of four bits
abbrev pub first_pair : ℕ → ℕ
first_pair m = m % 4

abbrev pub second_pair : ℕ → ℕ
second_pair m = m / 4

-- 01, "TWOHAND.": a pair is full when all its active inputs are true. Inactive bits of the effective mask are 0, so its
-- bits are then the active ones.
abbrev pub is_full : ℕ → ℕ → Bool
is_full active pair = eqb pair active

-- 01, "TWOHAND.": the two values of a pair differ; a pair with one active input never does
abbrev pub differs : ℕ → ℕ → Bool
differs active pair = eqb active 3 && not (eqb (pair % 2) (pair / 2))

-- 01, "TWOHAND.": whether each pair is full, and whether everything is clear
abbrev pub hands_of : ℕ → ℕ → Hands
hands_of active x = record {
  full1 = is_full (first_pair active) (first_pair x);
  full2 = is_full (second_pair active) (second_pair x);
  clear = eqb x 0;
}

-- ---- the times

-- 01, "Block state": a pair's stored time, 0 if agreeing or not counted, else 1 + ms; "TWOHAND.": the first differing
-- cycle counts 0, each later one adds its elapsed time
unfoldable pub pair_time : ℕ → Bool → ℕ → ℕ → ℕ
pair_time d differ stored ms = cond (ltb 0 d && differ) (cond (eqb stored 0) 1 (stored + ms)) 0

-- 01, "TWOHAND.", bit 2: the time since entering 11 or 12, entry counting 0; where T is 0 that time stays 0
unfoldable pub time_since : ℕ → ℕ → ℕ → ℕ → ℕ
time_since t code entry ms = cond (is_waiting code && ltb 0 t) (entry + ms) 0

-- the three times with this cycle's
abbrev pub times_of : Limits → ℕ → ℕ → ℕ → BlockState → Times
times_of l active ms x old = record {
  first = pair_time l.first (differs (first_pair active) (first_pair x)) old.first ms;
  second = pair_time l.second (differs (second_pair active) (second_pair x)) old.second ms;
  since = time_since l.between old.code old.entry ms;
}

-- ---- errors and transitions

-- 01, "TWOHAND.", bit 0 / 1: differed for more than D ms; the stored time is one more than the ms
abbrev pub is_overdue : ℕ → ℕ → Bool
is_overdue d time = ltb (d + 1) time

-- 01, "TWOHAND.", bit 6: in 11 the second pair is full and the first is not, or in 12 the mirror
abbrev pub changed_over : ℕ → Hands → Bool
changed_over code h =
    (eqb code BUTTON1 && h.full2 && not h.full1) || (eqb code BUTTON2 && h.full1 && not h.full2)

-- 01, "TWOHAND.": errors come before transitions, all that apply are set together: bits 0, 1, 2 and 6
unfoldable pub error_bits : Limits → Times → ℕ → Hands → ℕ
error_bits l t code h =
    only_if (is_overdue l.first t.first) 1
    + only_if (is_overdue l.second t.second) 2
    + only_if (ltb l.between t.since) 4
    + only_if (changed_over code h) 64

-- 01, "TWOHAND.": the transitions. From 3: first pair full to 11 (also if both are full), else second full to 12,
-- else stay. From 11 or 12: both full to 1, one full stays. From 1: all true stays, else 13. From 2, 5 and 13, and
-- from 11 or 12 with neither pair full: to 3 if clear, else 13. A block in 4 makes its group pending, so it does not
-- meet phase RUN: it would go the way of 2 and 5.
unfoldable pub next_code : ℕ → Hands → ℕ
next_code code h =
    cond (eqb code SAFE) (cond h.full1 BUTTON1 (cond h.full2 BUTTON2 SAFE))
    (cond (is_waiting code && (h.full1 || h.full2)) (cond (h.full1 && h.full2) RUN code)
    (cond (eqb code RUN) (cond (h.full1 && h.full2) RUN RELEASE)
    (cond h.clear SAFE RELEASE)))

-- 01, "TWOHAND.": no error: the next code, with the times. The entry time goes on while the code stays. Nothing is
-- cut by `% 65536` where the parameters are accepted: the times are then at most D + 1 and T.
unfoldable pub moved : ℕ → ℕ → Times → BlockState
moved code next t = record {
  code = next;
  diagnosis = 0;
  first = t.first % 65536;
  second = t.second % 65536;
  entry = only_if (eqb next code) t.since % 65536;
  output = 0;
}

-- 01, "TWOHAND.": after an error all times are 0
abbrev pub or_error : ℕ → BlockState → BlockState
or_error d c = cond (eqb d 0) c (in_error d)

unfoldable pub judged : Limits → Times → ℕ → Hands → BlockState
judged l t code h = or_error (error_bits l t code h) (moved code (next_code code h) t)

-- 01, "TWOHAND.": one cycle in phase RUN
unfoldable pub twohand_run : List ℕ → ℕ → ℕ → BlockState → BlockState
twohand_run P ms x old =
    judged (limits_of P) (times_of (limits_of P) (active_mask P) ms x old) old.code (hands_of (active_mask P) x)

-- 01, "TWOHAND.": fault present: bit 0 / 1, that pair still differs; bit 2 or 6, not everything clear; with several
-- bits, any of these
unfoldable pub twohand_fault : List ℕ → ℕ → ℕ → Bool
twohand_fault P d x =
    (eqb (d % 2) 1 && differs (first_pair (active_mask P)) (first_pair x))
    || (eqb (d / 2 % 2) 1 && differs (second_pair (active_mask P)) (second_pair x))
    || ((eqb (d / 4 % 2) 1 || eqb (d / 64 % 2) 1) && not (eqb x 0))

-- Which bytes of a block are well formed. 01, "Block state".
use Rattle.std.specs.Prelude.{ℕ, ◌+◌, ◌/◌, ◌%◌, Bool, false, not, cond, ◌&&◌, ◌||◌, List, eqb, leb, ltb}
use Rattle.std.specs.Prelude.{Option, Some, None}
use Rattle.wire.specs.Words.{byte_at}
use Rattle.numbers.specs.Types.{type_of, inside}
use Rattle.kind.specs.Kinds.{family_of}
use Rattle.kind.specs.Parameters.{limits_of, output_type}
use Rattle.kind.specs.declared.Family.{Family}
use Rattle.kind.specs.declared.Family.TheVariants.{Decouple, Twohand, Arithmetic}
use Rattle.kind.specs.declared.Limits.{Limits}
use Rattle.block.specs.State.{RUN, STOP, ERROR, RESET, is_waiting, is_counting, decode}
use Rattle.block.specs.declared.BlockState.{BlockState}

-- 01, "Block state": no time is counted
abbrev pub untimed : BlockState → Bool
untimed c = eqb c.first 0 && eqb c.second 0 && eqb c.entry 0

-- 01, "Block state": stored output 0 outside state 1
abbrev pub zero_outside : BlockState → Bool
zero_outside c = eqb c.code RUN || eqb c.output 0

-- 01, "One cycle": DECOUPLE has only 1 and 2
abbrev pub decouple_code : ℕ → Bool
decouple_code code = eqb code RUN || eqb code STOP

-- 01, "Block state": diagnosis nonzero exactly in 4, in which DECOUPLE is never; stored output 0 to 255
unfoldable pub decouple_ok : BlockState → Bool
decouple_ok c =
    decouple_code c.code && eqb c.diagnosis 0 && untimed c && ltb c.output 256 && zero_outside c

-- 01, "One cycle": arithmetic has 1, 2, 4, 5
abbrev pub arithmetic_code : ℕ → Bool
arithmetic_code code = eqb code RUN || eqb code STOP || eqb code ERROR || eqb code RESET

-- 01, "Block state": diagnosis nonzero exactly in 4, arithmetic 1 or 2
abbrev pub arithmetic_diagnosis : ℕ → ℕ → Bool
arithmetic_diagnosis code d = cond (eqb code ERROR) (eqb d 1 || eqb d 2) (eqb d 0)

-- 01, "Block state": stored output inside its type t and 0 outside state 1
unfoldable pub arithmetic_ok : ℕ → BlockState → Bool
arithmetic_ok t c =
    arithmetic_code c.code
    && arithmetic_diagnosis c.code c.diagnosis
    && untimed c
    && inside (type_of t) c.output
    && zero_outside c

-- 01, "One cycle": TWOHAND has all codes
abbrev pub twohand_code : ℕ → Bool
twohand_code code = is_counting code || eqb code STOP || eqb code ERROR || eqb code RESET

-- 01, "Block state": TWOHAND any of bits 0, 1, 2, 6, but 0 or 1 only where that pair's D is above 0, and 2 only where
-- T is
unfoldable pub twohand_bits : Limits → ℕ → Bool
twohand_bits l d =
    not (eqb d 0)
    && ltb d 128
    && eqb (d / 8 % 8) 0
    && (eqb (d % 2) 0 || ltb 0 l.first)
    && (eqb (d / 2 % 2) 0 || ltb 0 l.second)
    && (eqb (d / 4 % 2) 0 || ltb 0 l.between)

-- 01, "Block state": diagnosis nonzero exactly in 4
unfoldable pub twohand_diagnosis : Limits → ℕ → ℕ → Bool
twohand_diagnosis l code d = cond (eqb code ERROR) (twohand_bits l d) (eqb d 0)

-- 01, "Block state": a pair time is at most D + 1, and 0 unless D is above 0 and the code is 1, 3, 11, 12 or 13
unfoldable pub pair_time_ok : ℕ → ℕ → ℕ → Bool
pair_time_ok d code time = leb time (d + 1) && (eqb time 0 || (ltb 0 d && is_counting code))

-- 01, "Block state": the entry time is at most T and 0 outside 11/12
unfoldable pub entry_ok : ℕ → ℕ → ℕ → Bool
entry_ok t code time = leb time t && (eqb time 0 || is_waiting code)

-- 01, "Block state"; the stored output of TWOHAND is 0
unfoldable pub twohand_ok : Limits → BlockState → Bool
twohand_ok l c =
    twohand_code c.code
    && twohand_diagnosis l c.code c.diagnosis
    && pair_time_ok l.first c.code c.first
    && pair_time_ok l.second c.code c.second
    && entry_ok l.between c.code c.entry
    && eqb c.output 0

-- 01, "Block state": a state of a block of a family with parameters P; what is no kind has none
unfoldable pub formed : Option Family → List ℕ → BlockState → Bool
formed (Some Decouple) P c = decouple_ok c
formed (Some Twohand) P c = twohand_ok (limits_of P) c
formed (Some Arithmetic) P c = arithmetic_ok (output_type P) c
formed None P c = false

-- 01, "Block state": bytes 1, 10 and 11 are 0
abbrev pub spare_ok : List ℕ → Bool
spare_ok s = eqb (byte_at s 1) 0 && eqb (byte_at s 10) 0 && eqb (byte_at s 11) 0

-- 01, "Block state": the bytes s of a block of kind k with parameters P are well formed
unfoldable pub well_formed : ℕ → List ℕ → List ℕ → Bool
well_formed k P s = spare_ok s && formed (family_of k) P (decode s)

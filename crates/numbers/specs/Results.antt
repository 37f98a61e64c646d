-- What ADD, SUB, MUL and DIV give: the exact result of the two inputs in ℤ, then whether the output type holds it, and
-- the numbers that a finding shows of it. Sum, difference and product are the library's, `lt_z` its order; of naturals,
-- `/` and `%` cut, and `-` stops at 0, which the divisor less its remainder does not reach. 001, 4.16 to 4.19, and
-- where it is silent 01, "Arithmetic.". Assumes nothing.
use Rattle.std.specs.Prelude.{ℕ, ◌+◌, ◌-◌, ◌/◌, ◌%◌, Bool, true, false, cond, not, ◌&&◌, ltb, leb, eqb, ℤ, pos}
use Rattle.std.specs.Prelude.{nat_abs, ◌+ℤ◌, ◌-ℤ◌, ◌*ℤ◌, Result, Ok, Err}
use Rattle.std.specs.Int.Signed.{lt_z}
use Rattle.numbers.specs.Types.{lo, hi, value, word_of, sgn, is_neg}
use Rattle.numbers.specs.declared.NumType.{NumType}
use Rattle.numbers.specs.declared.Rounding.{Rounding}
use Rattle.numbers.specs.declared.Rounding.TheVariants.{Floor, Ceil, Round}
use Rattle.numbers.specs.declared.Op.{Op}
use Rattle.numbers.specs.declared.Op.TheVariants.{Add, Sub, Mul, Div}
use Rattle.numbers.specs.declared.OutOfRange.{OutOfRange}
use Rattle.numbers.specs.declared.OutOfRange.TheVariants.{Below, Above}

-- ---- the quotient

-- Whether two signs differ: a product or a quotient that is not 0 is then below 0. General.
abbrev pub differ : Bool → Bool → Bool
differ true b = not b
differ false b = b

-- Whether the rounded quotient is one further from 0 than the quotient with its fraction cut off. neg: dividend and
-- divisor have different signs; remainder and divisor are without theirs. 01, "Arithmetic.": floor cuts the fraction
-- off; ceil takes the smallest whole number not below the quotient, so only a quotient above 0 moves; round goes half
-- away from zero: the remainder is at least what is left to the divisor (02, W5). 001, 4.19.1, has the three by name:
-- "Nachkommastellen werden abgeschnitten", "die nächstgrößere Ganzzahl", "kaufmännisch gerundet (d.h. 2,5 wird zu 3
-- gerundet)".
abbrev pub away : Rounding → Bool → ℕ → ℕ → Bool
away Floor neg remainder divisor = false
away Ceil neg remainder divisor = not neg && ltb 0 remainder
away Round neg remainder divisor = leb (divisor - remainder) remainder

-- The rounded quotient of a dividend and a divisor without their signs; neg: they have different ones. 01,
-- "Arithmetic.".
unfoldable pub rounded_div : Rounding → Bool → ℕ → ℕ → ℤ
rounded_div r neg dividend divisor = sgn neg (dividend / divisor + cond (away r neg (dividend % divisor) divisor) 1 0)

-- a by b, rounded, and 0 where b is 0. 001, 4.19.1: "Ist der Eingang AnalogIn2 = 0 wird der Ausgang AnalogOut auf 0
-- gesetzt. In diesem Fall wird kein Fehler ausgegeben."; 01, "Arithmetic.".
unfoldable pub quotient : Rounding → ℤ → ℤ → ℤ
quotient r a b =
    cond (eqb (nat_abs b) 0) (pos 0) (rounded_div r (differ (is_neg a) (is_neg b)) (nat_abs a) (nat_abs b))

-- ---- the result

-- The exact result of the two inputs: ADD (001, 4.16.1), SUB, the first less the second (4.17.1), MUL (4.18.1), DIV,
-- the first by the second (4.19.1); exact by 01, "Arithmetic.".
unfoldable pub exact : Op → ℤ → ℤ → ℤ
exact Add a b = a +ℤ b
exact Sub a b = a -ℤ b
exact Mul a b = a *ℤ b
exact (Div r) a b = quotient r a b

-- An exact result in an output of type t: below the type, above it, or the word that stores it. 01, "Arithmetic.";
-- underflow and overflow of 001, 4.16.2.
unfoldable pub settled : NumType → ℤ → Result ℕ OutOfRange
settled t z = cond (lt_z z (lo t)) (Err Below) (cond (lt_z (hi t) z) (Err Above) (Ok (word_of z)))

-- The block: two words of their types, the output's type. 01, "Arithmetic.".
unfoldable pub outcome : Op → NumType → ℕ → NumType → ℕ → NumType → Result ℕ OutOfRange
outcome op ta a tb b t = settled t (exact op (value ta a) (value tb b))

-- ---- the numbers of the file, the state and the findings

-- The rounding that a parameter byte names: 0 floor, 1 ceil, 2 round. The check of the file turns others down, so what
-- they read as is without effect. 01, "The case file".
unfoldable pub rounding_of : ℕ → Rounding
rounding_of b = cond (eqb b 0) Floor (cond (eqb b 1) Ceil Round)

-- The diagnosis: 1 below, 2 above, 0 where the output is right. 01, "Arithmetic."; 001, 4.16.2, 4.17.2, 4.18.2, 4.19.2.
abbrev pub diagnosis : Result ℕ OutOfRange → ℕ
diagnosis (Err Below) = 1
diagnosis (Err Above) = 2
diagnosis (Ok w) = 0

-- The text ID of a diagnosis, 0 where it has none. 01, "Arithmetic."; 001 has the two for all four blocks: 4.16.2,
-- 4.17.2, 4.18.2, 4.19.2.
unfoldable pub text_of : ℕ → ℕ
text_of d = cond (eqb d 1) 0x4080 (cond (eqb d 2) 0x4081 0)

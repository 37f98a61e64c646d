-- Arithmetic in phase RUN, and whether its fault is present. 01, "Arithmetic."; 001, 4.16 to 4.19. k is the kind, x
-- and y the two inputs' words.
use Rattle.std.specs.Prelude.{ℕ, Bool, not, cond, List, eqb, Result, Ok, Err}
use Rattle.numbers.specs.Types.{type_of}
use Rattle.numbers.specs.Results.{outcome, rounding_of, diagnosis}
use Rattle.numbers.specs.declared.Op.{Op}
use Rattle.numbers.specs.declared.Op.TheVariants.{Add, Sub, Mul, Div}
use Rattle.numbers.specs.declared.OutOfRange.{OutOfRange}
use Rattle.kind.specs.Kinds.{ADD, SUB, MUL}
use Rattle.kind.specs.Parameters.{first_type, second_type, output_type, rounding_byte}
use Rattle.block.specs.State.{in_error, running}
use Rattle.block.specs.declared.BlockState.{BlockState}

-- 01, "The case file": of the arithmetic kinds, 3 ADD, 4 SUB, 5 MUL, and 6 DIV, which alone has a rounding. There is no
-- fifth
unfoldable pub op_of : ℕ → ℕ → Op
op_of k rounding = cond (eqb k ADD) Add (cond (eqb k SUB) Sub (cond (eqb k MUL) Mul (Div (rounding_of rounding))))

-- 01, "Arithmetic.": the exact result of the two inputs, in the output's type
unfoldable pub result_of : ℕ → List ℕ → ℕ → ℕ → Result ℕ OutOfRange
result_of k P x y =
    outcome (op_of k (rounding_byte P)) (type_of (first_type P)) x (type_of (second_type P)) y (type_of (output_type P))

-- 01, "Arithmetic.": below the output type ERROR, diagnosis 1; above, ERROR, diagnosis 2; else RUN with the result
abbrev pub resulted : Result ℕ OutOfRange → BlockState
resulted (Err e) = in_error (diagnosis (Err e))
resulted (Ok w) = running w

-- 01, "Arithmetic.": fault present: the present inputs are still out of range
abbrev pub out_of_range : Result ℕ OutOfRange → Bool
out_of_range o = not (eqb (diagnosis o) 0)

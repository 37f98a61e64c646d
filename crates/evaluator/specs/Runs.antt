-- A run: one cycle call after the other over the same file, from what the call before it left (01, "One cycle" and "The
-- trace program"). F is the file, Rs the records, L what the first call is lent.
use Rattle.std.specs.Prelude.{ℕ, List, [], ◌∷◌}
use Rattle.evaluator.specs.Answer.{Lent, Left, cycle_of}

-- 01, "One cycle": what each call answers and leaves, one for each record, refused ones among them
unfoldable pub run : List ℕ → List (List ℕ) → Lent → List Left
run F [] L = []
run F (R ∷ Rs) L = cycle_of F R L ∷ run F Rs (cycle_of F R L).lent

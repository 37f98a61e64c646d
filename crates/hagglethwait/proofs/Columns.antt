-- A column that is made of two tables' lines, one behind the other. Assumes nothing.
use Rattle.wire.proofs.Usual.{◌≡◌, sym, ◌∙◌, List, ◌++◌, ℕ, ◌+◌, length, length-append}
use Rattle.std.proofs.lemmas.List.{map-append}
use mathlib.Core.List.{map}
use lib.ListN.{length-map, get_or-map}
use denote.Param.Members.{Mut}
use Rattle.std.specs.Fn.{Called}
use Rattle.std.specs.Array.{IsFromFnResult}
use Rattle.year.specs.declared.Line.{Line}
use Rattle.year.specs.Bends.{no_line, line_at}
use Rattle.year.proofs.Filling.{is_from, from_fn_is}

-- what `from_fn` fills, where each call gives h of the line of its place and changes nothing
module _ {F A : Type 0} {g : Mut F (ℕ × Unit {0}) A} {f : F} (h : Line → A) (L P : List Line)
    (calls : (x : ℕ) (b : A) (q : F) → Called g f (x, tt) b q → (q ≡ f) × (b ≡ h (line_at (L ++ P) x))) where
  pub column_is : {ys : List A} {n : ℕ} → length L + length P ≡ n → IsFromFnResult g f ys n →
      ys ≡ map h L ++ map h P
  column_is {ys} {n} e r =
      from_fn_is (h no_line) (λ i. h (line_at (L ++ P) i)) calls r
      ∙ sym (is_from (h no_line) (map h (L ++ P)) n _ (length-map (L ++ P) h ∙ length-append L P ∙ e)
      (λ i l. get_or-map h (L ++ P) i no_line))
      ∙ map-append h L P

-- The table of refusals of a file: what the rules passed so far give to the next, and what the answer says of all of
-- them. None names a place of the table. Assumes nothing.
use Rattle.wire.proofs.Usual.{◌≡◌, refl, sym, ap, ◌∙◌, subst, Bool, true, false, cond, not, ◌||◌, true≢false}
use Rattle.wire.proofs.Usual.{List, [], ◌∷◌, ℕ, zero, suc, ◌<◌, ◌≤◌, arith, lt-ltb}
use Rattle.wire.proofs.Usual.{ltb-true, ltb, length}
use mathlib.Core.List.{map}
use native.Mathlib.Nat.{not-suc-le-zero, le_of_suc-le-suc}
use lib.ListN.{get_or}
use Rattle.wire.specs.Places.{first_bad, all}
use Rattle.wire.proofs.Places.{Passed, all_each}
use Rattle.std.proofs.Common.{lit<}
use Rattle.std.specs.Prelude.{Ok, Err}
use Rattle.wire.specs.Tables.{first}
use Rattle.wire.proofs.Tables.{numbered, kept_at, first_zero}
use Rattle.casefile.specs.declared.table.Rule.{Rule}
use Rattle.casefile.specs.declared.table.Rule.TheVariants.{Size, Contents, GroupsSize, Groups, InputsSize}
use Rattle.casefile.specs.declared.table.Rule.TheVariants.{Inputs, BlocksSize, Blocks, Orders, Links}
use Rattle.casefile.specs.declared.table.Rule.TheVariants.{OutputsSize, Outputs, Channels, Trace}
use Rattle.casefile.specs.Bodies.{body_g, body_i, body_b, body_in}
use Rattle.casefile.specs.Refusal.{rules, rule_count, rule_at, refusal_of, holds, file_row, file_table}
use Rattle.casefile.specs.Refusal.{first_broken, verdict, number_of}
use Rattle.casefile.specs.Asks.{Reached}

-- the test of the rule at a place
abbrev pub holds_at : List ℕ → ℕ → Bool
holds_at F k = holds F (rule_at k)

-- no rule has the number 0
pub file_numbered : (F : List ℕ) → numbered (file_table F) ≡ true
unfolding file_table numbered
file_numbered F = refl

pub refusal_some : (r : Rule) → 0 < refusal_of r
refusal_some Size = lit< tt
refusal_some Contents = lit< tt
refusal_some GroupsSize = lit< tt
refusal_some Groups = lit< tt
refusal_some InputsSize = lit< tt
refusal_some Inputs = lit< tt
refusal_some BlocksSize = lit< tt
refusal_some Blocks = lit< tt
refusal_some Orders = lit< tt
refusal_some Links = lit< tt
refusal_some OutputsSize = lit< tt
refusal_some Outputs = lit< tt
refusal_some Channels = lit< tt
refusal_some Trace = lit< tt

-- ---- what later rules count on: where r is the first rule of the number m or a higher one, each rule of a higher
-- number comes after it

first_of : ℕ → ℕ
first_of m = first_bad (λ k. ltb (refusal_of (rule_at k)) m) rule_count

abbrev After : ℕ → Type 0
After m = all (λ k. not (ltb m (refusal_of (rule_at k))) || ltb (first_of m) k) rule_count ≡ true

follows : (a b : Bool) → a ≡ true → not a || b ≡ true → b ≡ true
follows true b e h = h
follows false b e h = absurd (true≢false (sym e))

module _ (F : List ℕ) (k : ℕ) (l : k < rule_count) (i : Passed (holds_at F) rule_count k) where
  earlier : (m : ℕ) {r : Rule} → After m → rule_at (first_of m) ≡ r → m < refusal_of (rule_at k) →
      holds F r ≡ true
  earlier m {r} after is h =
      let n = refusal_of (rule_at k) in
      let before = ltb-true (first_of m) k
      (follows (ltb m n) (ltb (first_of m) k) (lt-ltb m n h) (all_each _ rule_count after k l)) in
      subst (λ (s : Rule). holds F s ≡ true) is (i.each (first_of m) before)

  pub reached : Reached (body_in F body_g) (body_in F body_i) (body_in F body_b) (rule_at k)
  unfolding first_of first_bad all rule_at
  reached = record {
    groups = earlier 3 refl refl;
    inputs = earlier 4 refl refl;
    blocks = earlier 5 refl refl;
  }

-- the same of equal bodies
pub said_of : {G G' I I' B B' : List ℕ} {r : Rule} → G ≡ G' → I ≡ I' → B ≡ B' →
    Reached G' I' B' r → Reached G I B r
said_of g i b w = rw (g, i, b) w

-- ---- the answer, by the first place that fails

module _ (F : List ℕ) where
  broken_at : (rs : List Rule) (k : ℕ) → k < length rs →
      ((j : ℕ) → j < k → holds F (get_or rs j Size) ≡ true) → holds F (get_or rs k Size) ≡ false →
      Err (get_or rs k Size) ≡ first_broken F rs
  broken_at [] k l h e = absurd (not-suc-le-zero l)
  broken_at (r ∷ rs) zero l h e = rw e
  broken_at (r ∷ rs) (suc k) l h e =
      rw (h 0 (omega arith))
      (broken_at rs k (le_of_suc-le-suc l) (λ j m. h (suc j) (omega arith)) e)

  none_broken : (rs : List Rule) → ((j : ℕ) → j < length rs → holds F (get_or rs j Size) ≡ true) →
      Ok tt ≡ first_broken F rs
  none_broken [] h = refl
  none_broken (r ∷ rs) h = rw (h 0 (omega arith)) (none_broken rs (λ j m. h (suc j) (omega arith)))

  pub refused : {k : ℕ} → k < rule_count → Passed (holds_at F) rule_count k → holds_at F k ≡ false →
      Err (rule_at k) ≡ verdict F
  unfolding verdict rule_at
  refused {k} l i e = broken_at rules k l i.each e

  pub accepted : {k : ℕ} → Passed (holds_at F) rule_count k → rule_count ≤ k → Ok tt ≡ verdict F
  unfolding verdict rule_at
  accepted i l = none_broken rules (λ j m. i.each j (omega arith))

  -- ---- the number of an answer

  number_first : (rs : List Rule) → number_of (first_broken F rs) ≡ first (map (file_row F) rs)
  unfolding first
  number_first [] = refl
  number_first (r ∷ rs) = go (holds F r) (number_first rs)
    where
      go : (b : Bool) → number_of (first_broken F rs) ≡ first (map (file_row F) rs) →
          number_of (cond b (first_broken F rs) (Err r)) ≡ cond b (first (map (file_row F) rs)) (refusal_of r)
      go true h = h
      go false h = refl

  pub number_is : number_of (verdict F) ≡ first (file_table F)
  unfolding verdict file_table
  number_is = number_first rules

-- ---- the rules of an accepted file one by one: `search` finds a test among them by what it says, and not by its place

abbrev pub Held : List ℕ → List Rule → Type 0
Held F [] = Unit {0}
Held F (r ∷ rs) = (holds F r ≡ true) × Held F rs

module _ (F : List ℕ) where
  one_by_one : (rs : List Rule) → ((k : ℕ) → kept_at (map (file_row F) rs) k ≡ true) → Held F rs
  one_by_one [] h = tt
  one_by_one (r ∷ rs) h = (h 0, one_by_one rs (λ k. h (suc k)))

  held_accepted : (rs : List Rule) → Held F rs → first_broken F rs ≡ Ok tt
  held_accepted [] h = refl
  held_accepted (r ∷ rs) h = rw h.0 (held_accepted rs h.1)

  all_held : first (file_table F) ≡ 0 → Held F rules
  unfolding file_table
  all_held z = one_by_one rules ((first_zero (file_table F) (file_numbered F)).0 z)

  pub number_zero : first (file_table F) ≡ 0 → verdict F ≡ Ok tt
  unfolding verdict
  number_zero z = held_accepted rules (all_held z)

  pub accepted_zero : verdict F ≡ Ok tt → first (file_table F) ≡ 0
  accepted_zero h = sym (number_is F) ∙ ap number_of h

  pub every : verdict F ≡ Ok tt → Held F rules
  every h = all_held (accepted_zero h)

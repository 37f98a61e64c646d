-- The laws of tables of refusals: `first` tells whether every row is kept and which is the first that is not, and of
-- two tables after each other the first decides where it is not kept. None names a place or a number of a table.
-- Assumes nothing.
use Rattle.wire.proofs.Usual.{◌≡◌, refl, sym, ap, ◌∙◌, subst, Bool, true, false, cond, ◌&&◌, true≢false}
use Rattle.wire.proofs.Usual.{◌≢◌, List, [], ◌∷◌, ◌++◌, ℕ, zero, suc, ◌<◌, dec_lt, arith, ltb-true, ltb}
use mathlib.Core.Logic.{◌↔◌, ◌⊎◌, inl, inr}
use native.Mathlib.Nat.{not-suc-le-zero, le_of_suc-le-suc}
use Rattle.wire.specs.Tables.{Row, first, row_at, FirstIn, AllKept}
use Rattle.wire.proofs.Places.{both_left, both_right}

-- no row has the number 0
unfoldable pub numbered : List Row → Bool
numbered [] = true
numbered (r ∷ rs) = ltb 0 r.number && numbered rs

-- whether the row at k is kept
abbrev pub kept_at : List Row → ℕ → Bool
kept_at rs k = (row_at rs k).kept

-- ---- what `first` is: 0 and every row is kept, or the number of the first that is not

pub record Holding (rs : List Row) (n : ℕ) : Type 0 where
  pub none : n ≡ 0
  pub each : AllKept rs

pub first_is : (rs : List Row) → Holding rs (first rs) ⊎ FirstIn rs (first rs)
unfolding first
first_is [] = inl (record { none = refl; each = λ k. refl })
first_is (r ∷ rs) = go r.kept refl (first_is rs)
  where
    each_more : r.kept ≡ true → AllKept rs → AllKept (r ∷ rs)
    each_more e h zero = e
    each_more e h (suc k) = h k

    earlier_more : (p : ℕ) → r.kept ≡ true → ((j : ℕ) → j < p → kept_at rs j ≡ true) →
        (j : ℕ) → j < suc p → kept_at (r ∷ rs) j ≡ true
    earlier_more p e h zero l = e
    earlier_more p e h (suc j) l = h j (le_of_suc-le-suc l)

    go : (b : Bool) → r.kept ≡ b → Holding rs (first rs) ⊎ FirstIn rs (first rs) →
        Holding (r ∷ rs) (cond r.kept (first rs) r.number)
        ⊎ FirstIn (r ∷ rs) (cond r.kept (first rs) r.number)
    go false e w = inr (record {
      place = 0;
      number = rw e refl;
      fails = e;
      earlier = λ j l. absurd (not-suc-le-zero l);
    })
    go true e (inl h) = inl (record { none = rw e h.none; each = each_more e h.each })
    go true e (inr f) = inr (record {
      place = suc f.place;
      number = rw e f.number;
      fails = f.fails;
      earlier = earlier_more f.place e f.earlier;
    })

-- no two numbers are the first's
module _ {rs : List Row} {a b : ℕ} (f : FirstIn rs a) (g : FirstIn rs b) where
  same_place : f.place ≡ g.place
  same_place = go (dec_lt f.place g.place) (dec_lt g.place f.place)
    where
      go : Dec (f.place < g.place) → Dec (g.place < f.place) → f.place ≡ g.place
      go (yes l) y = absurd (true≢false (sym (g.earlier f.place l) ∙ f.fails))
      go (no x) (yes l) = absurd (true≢false (sym (f.earlier g.place l) ∙ g.fails))
      go (no x) (no y) = omega (arith, x, y)

  pub one_first : a ≡ b
  one_first = sym f.number ∙ ap (λ (k : ℕ). (row_at rs k).number) same_place ∙ g.number

-- a table that is not kept throughout has no row that is not kept, and the reverse
pub kept_not : {rs : List Row} {n : ℕ} → AllKept rs → FirstIn rs n → ⊥
kept_not h f = true≢false (sym (h f.place) ∙ f.fails)

module _ (rs : List Row) where
  pub first_in : {n : ℕ} → FirstIn rs n → first rs ≡ n
  first_in {n} f = go (first_is rs)
    where
      go : Holding rs (first rs) ⊎ FirstIn rs (first rs) → first rs ≡ n
      go (inl h) = absurd (kept_not h.each f)
      go (inr g) = one_first g f

  pub first_none : AllKept rs → first rs ≡ 0
  first_none h = go (first_is rs)
    where
      go : Holding rs (first rs) ⊎ FirstIn rs (first rs) → first rs ≡ 0
      go (inl w) = w.none
      go (inr f) = absurd (kept_not h f)

-- ---- where no row has the number 0

pub number_some : (rs : List Row) → numbered rs ≡ true → (k : ℕ) → kept_at rs k ≡ false →
    0 < (row_at rs k).number
unfolding numbered
number_some [] s k f = absurd (true≢false f)
number_some (r ∷ rs) s zero f = ltb-true 0 r.number (both_left (ltb 0 r.number) (numbered rs) s)
number_some (r ∷ rs) s (suc k) f = number_some rs (both_right (ltb 0 r.number) (numbered rs) s) k f

module _ (rs : List Row) (s : numbered rs ≡ true) where
  pub first_zero : (first rs ≡ 0) ↔ AllKept rs
  first_zero = (λ z. go z (first_is rs), first_none rs)
    where
      go : first rs ≡ 0 → Holding rs (first rs) ⊎ FirstIn rs (first rs) → AllKept rs
      go z (inl h) = h.each
      go z (inr f) = absurd (omega (arith, z, f.number, number_some rs s f.place f.fails))

  pub first_some : (n : ℕ) → n ≢ 0 → (first rs ≡ n) ↔ FirstIn rs n
  first_some n p = (λ e. go e (first_is rs), first_in rs)
    where
      go : first rs ≡ n → Holding rs (first rs) ⊎ FirstIn rs (first rs) → FirstIn rs n
      go e (inl h) = absurd (p (sym e ∙ h.none))
      go e (inr f) = subst (FirstIn rs) e f

-- ---- one table after another

-- the second table's number where the first is kept, the first's where it is not
pub first_kept : (a b : List Row) → AllKept a → first (a ++ b) ≡ first b
unfolding first
first_kept [] b h = refl
first_kept (r ∷ a) b h = rw (h 0) (first_kept a b (λ k. h (suc k)))

pub first_broken : (a b : List Row) → first a ≢ 0 → first (a ++ b) ≡ first a
unfolding first
first_broken [] b h = absurd (h refl)
first_broken (r ∷ a) b h = go r.kept refl (first_broken a b)
  where
    go : (t : Bool) → r.kept ≡ t → (first a ≢ 0 → first (a ++ b) ≡ first a) →
        cond r.kept (first (a ++ b)) r.number ≡ cond r.kept (first a) r.number
    go false e w = rw e
    go true e w = rw e (w (rw e at h))

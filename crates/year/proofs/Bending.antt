-- The earliest month with the largest difference: what a loop over the months keeps, that there is one wherever a month
-- has a finding on both sides, and what the comparison says of the differences themselves. Assumes nothing.
use Rattle.wire.proofs.Usual.{◌≡◌, refl, sym, ap, ◌∙◌, subst, Bool, true, false, not, ◌&&◌, true≢false, List, ℕ}
use Rattle.wire.proofs.Usual.{zero, suc}
use Rattle.wire.proofs.Usual.{◌+◌, ◌-◌, ◌*◌, ◌<◌, ◌≤◌, dec_lt, arith, ltb, lt-ltb, ltb-true}
use Rattle.std.proofs.Common.{Option, Some, None}
use native.Mathlib.Nat.{mul-pos, not-le_of_lt, le_of_lt, le_refl, add-mul, mul_comm}
use native.Mathlib.Numerals.{add-one}
use borrow.Author.Count.{below_more}
use borrow.Author.Tests.{le-ltb, ltb-false}
use lib.Ieee.Positive.{through}
use Rattle.wire.specs.Places.{first_bad, all}
use Rattle.wire.proofs.Places.{hit, done, all_true, fails_all, both_left, both_right}
use Rattle.year.specs.declared.bends.Sides.{Sides}
use Rattle.year.specs.declared.Line.{Line}
use Rattle.year.specs.Ledger.{month_count}
use Rattle.year.specs.Bends.{both_sides, over, under, larger, sides_at, largest, bend_of}
use Rattle.year.specs.Asks.{better, Counted, SmallBest}
use Rattle.year.proofs.Sums.{sides_small}

-- ---- fractions

under_pos : (s : Sides) → both_sides s ≡ true → 0 < under s
under_pos s h =
    mul-pos (ltb-true 0 _ (both_right (ltb 0 s.upto.findings) _ h))
    (ltb-true 0 _ (both_left (ltb 0 s.upto.findings) _ h))

-- what is larger than t is larger than whatever is not larger than t
larger_over : (s t u : Sides) → both_sides u ≡ true → larger u t ≡ false → larger s t ≡ true →
    larger s u ≡ true
unfolding larger
larger_over s t u vu n h = go (dec_lt (over u * under s) (over s * under u))
  where
    go : Dec (over u * under s < over s * under u) → ltb (over u * under s) (over s * under u) ≡ true
    go (yes l) = lt-ltb _ _ l
    go (no x) =
        absurd
        (not-le_of_lt (ltb-true (over t * under s) (over s * under t) h)
        (through (over s) (over u) (over t) (under s) (under u) (under t) (under_pos u vu) (omega (arith, x))
        (ltb-false (over t * under u) (over u * under t) n)))

larger_back : (s t : Sides) → larger s t ≡ true → larger t s ≡ false
unfolding larger
larger_back s t h =
    le-ltb (over s * under t) (over t * under s) (le_of_lt (ltb-true (over t * under s) (over s * under t) h))

larger_self : (s : Sides) → larger s s ≡ false
unfolding larger
larger_self s = le-ltb (over s * under s) (over s * under s) (le_refl _)

-- ---- the loop: v has the sides of each of n months, those below m have been looked at
module _ (v : ℕ → Sides) (n : ℕ) where
  abbrev pub best : ℕ → Bool
  best m = both_sides (v m) && all (λ k. not (both_sides (v k) && larger (v k) (v m))) n

  -- month b, whose sides are s, is the best of those below m
  pub record Best (b : ℕ) (s : Sides) (m : ℕ) : Type 0 where
    pub below : b < m
    pub is : s ≡ v b
    pub good : both_sides (v b) ≡ true
    pub over : (k : ℕ) → k < m → both_sides (v k) ≡ true → larger (v k) (v b) ≡ false
    pub first : (k : ℕ) → k < b → both_sides (v k) ≡ true → larger (v b) (v k) ≡ true

  -- none of the months below m has a finding on both sides
  abbrev pub Dull : ℕ → Type 0
  Dull m = (k : ℕ) → k < m → both_sides (v k) ≡ false

  abbrev pub Top : Option (ℕ × Sides) → ℕ → Type 0
  Top (Some t) m = Best t.0 t.1 m
  Top None m = Dull m

  pub begin : Dull 0
  begin k l = absurd (omega arith)

  -- a month that is better
  pub take : (o : Option (ℕ × Sides)) (m : ℕ) → Top o m → better (v m) o ≡ true → Best m (v m) (m + 1)
  take o m t h = record {
    below = omega arith;
    is = refl;
    good = good o h;
    over =
        λ k l. below_more (λ k. both_sides (v k) ≡ true → larger (v k) (v m) ≡ false) m
        (λ k q u. larger_back (v m) (v k) (wins o t h k q u)) (λ u. larger_self (v m)) k l;
    first = wins o t h;
  }
    where
      good : (o : Option (ℕ × Sides)) → better (v m) o ≡ true → both_sides (v m) ≡ true
      good (Some t) h = both_left (both_sides (v m)) _ h
      good None h = h

      wins : (o : Option (ℕ × Sides)) → Top o m → better (v m) o ≡ true →
          (k : ℕ) → k < m → both_sides (v k) ≡ true → larger (v m) (v k) ≡ true
      wins (Some (b, s)) t h k q u =
          larger_over (v m) (v b) (v k) u (t.over k q u) (rw t.is at (both_right (both_sides (v m)) (larger (v m) s) h))
      wins None t h k q u = absurd (true≢false (sym u ∙ t k q))

  -- one that is not
  pub keep : (o : Option (ℕ × Sides)) (m : ℕ) → Top o m → better (v m) o ≡ false → Top o (m + 1)
  keep (Some (b, s)) m t h = record {
    below = omega (arith, t.below);
    is = t.is;
    good = t.good;
    over =
        below_more (λ k. both_sides (v k) ≡ true → larger (v k) (v b) ≡ false) m t.over
        (λ u. rw (u, t.is) at h);
    first = t.first;
  }
  keep None m t h = below_more (λ k. both_sides (v k) ≡ false) m t h

  pub some_below : (o : Option (ℕ × Sides)) (t : ℕ × Sides) (m : ℕ) → Top o m → o ≡ Some t → t.0 < m
  some_below o t m h e = let best = subst (λ (x : Option (ℕ × Sides)). Top x m) e h in best.below

  -- all have been looked at
  pub found : (b : ℕ) (s : Sides) → Best b s n → b ≡ first_bad (λ k. not (best k)) n
  found b s t =
      hit (record {
        within = omega (arith, t.below);
        each = λ k q. earlier k q (both_sides (v k)) refl;
      }) {x = not (best b)} refl (rw (t.good, all_true _ n (λ k q. unbeaten k q (both_sides (v k)) refl)))
    where
      unbeaten : (k : ℕ) → k < n → (y : Bool) → both_sides (v k) ≡ y →
          not (both_sides (v k) && larger (v k) (v b)) ≡ true
      unbeaten k q true z = rw (z, t.over k q z)
      unbeaten k q false z = rw z

      earlier : (k : ℕ) → k < b → (y : Bool) → both_sides (v k) ≡ y → not (best k) ≡ true
      earlier k q true z =
          rw (
            z,
            fails_all (λ j. not (both_sides (v j) && larger (v j) (v k))) n b t.below
                (rw (t.good, t.first k q z)),
          )
      earlier k q false z = rw z

  pub nothing : Dull n → n ≡ first_bad (λ k. not (best k)) n
  nothing t = done (record { within = le_refl n; each = λ k q. rw (t k q) }) (le_refl n)

  -- ---- what the definition says, with no loop in it

  pub record Topped (m : ℕ) : Type 0 where
    pub best : Option (ℕ × Sides)
    pub is_top : Top best m

  next : (m : ℕ) (t : Topped m) (x : Bool) → better (v m) t.best ≡ x → Topped (suc m)
  next m t true e = record { best = Some (m, v m); is_top = rw add-one at (take t.best m t.is_top e) }
  next m t false e = record { best = t.best; is_top = rw add-one at (keep t.best m t.is_top e) }

  pub tops : (m : ℕ) → Topped m
  tops zero = record { best = None; is_top = begin }
  tops (suc m) = let t = tops m in next m t (better (v m) t.best) refl

-- ---- the bend of a table

abbrev pub told : Option (ℕ × Sides) → Option ℕ
told (Some t) = Some (t.0 + 1)
told None = None

pub top_bend : (L : List Line) (o : Option (ℕ × Sides)) → Top (sides_at L) month_count o month_count →
    bend_of L ≡ told o
unfolding bend_of largest
top_bend L (Some (b, s)) t = rw (← found (sides_at L) month_count b s t, lt-ltb _ _ t.below)
top_bend L None t = rw (← nothing (sides_at L) month_count t)

-- a best month has small numbers
pub top_small : (L : List Line) → Counted L → (o : Option (ℕ × Sides)) (m : ℕ) → m ≤ month_count →
    Top (sides_at L) month_count o m → SmallBest o
top_small L h (Some (b, s)) m l t = rw t.is (sides_small L h b (omega (arith, l, t.below)))
top_small L h None m l t = tt

-- ---- the differences themselves

compare_same : (g g' a a' c c' k : ℕ) → g + c ≡ a + k → g' + c' ≡ a' + k →
    ltb g g' ≡ ltb (a + c') (a' + c)
compare_same g g' a a' c c' k e e' = go (dec_lt g g')
  where
    go : Dec (g < g') → ltb g g' ≡ ltb (a + c') (a' + c)
    go (yes l) = lt-ltb g g' l ∙ sym (lt-ltb (a + c') (a' + c) (omega arith))
    go (no x) = le-ltb g g' (omega (arith, x)) ∙ sym (le-ltb (a + c') (a' + c) (omega (arith, x)))

module _ (s : Sides) (part : s.upto.dismissed ≤ s.upto.findings) where
  balance : over s + s.upto.dismissed * s.later.findings ≡ s.later.dismissed * s.upto.findings + under s
  balance =
      let d : s.upto.findings - s.upto.dismissed + s.upto.dismissed ≡ s.upto.findings = omega arith in
      let e : (s.upto.findings - s.upto.dismissed) * s.later.findings
      + s.upto.dismissed * s.later.findings ≡ under s =
      sym (add-mul (s.upto.findings - s.upto.dismissed) s.upto.dismissed s.later.findings)
      ∙ ap (λ (x : ℕ). x * s.later.findings) d ∙ mul_comm s.upto.findings s.later.findings in
      omega (arith, e)

  scaled : (k : ℕ) →
      over s * k + s.upto.dismissed * s.later.findings * k
      ≡ s.later.dismissed * s.upto.findings * k + under s * k
  scaled k =
      sym (add-mul (over s) (s.upto.dismissed * s.later.findings) k) ∙ ap (λ (x : ℕ). x * k) balance
      ∙ add-mul (s.later.dismissed * s.upto.findings) (under s) k

-- the comparison is that of r / R - l / L, brought to one denominator, each subtracted term on the other side
pub larger_literal : (s t : Sides) →
    s.upto.dismissed ≤ s.upto.findings → t.upto.dismissed ≤ t.upto.findings →
    larger s t
    ≡ ltb (t.later.dismissed * t.upto.findings * under s + s.upto.dismissed * s.later.findings * under t)
    (s.later.dismissed * s.upto.findings * under t + t.upto.dismissed * t.later.findings * under s)
unfolding larger
larger_literal s t ls lt =
    compare_same (over t * under s) (over s * under t)
    (t.later.dismissed * t.upto.findings * under s) (s.later.dismissed * s.upto.findings * under t)
    (t.upto.dismissed * t.later.findings * under s) (s.upto.dismissed * s.later.findings * under t)
    (under t * under s) (scaled t lt (under s))
    (scaled s ls (under t)
    ∙ ap (λ (x : ℕ). s.later.dismissed * s.upto.findings * under t + x) (mul_comm (under s) (under t)))

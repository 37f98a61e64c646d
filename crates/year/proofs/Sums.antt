-- Sums over months, and what fits. Assumes nothing.
use Rattle.wire.proofs.Usual.{◌≡◌, refl, sym, ap, ap₂, ◌∙◌, ℕ, zero, suc, ◌+◌, ◌-◌, ◌*◌, ◌<◌, ◌≤◌, dec_lt, arith, List}
use Rattle.wire.proofs.Usual.{length, length-drop, take, drop}
use Rattle.std.proofs.Common.{sum_by}
use Rattle.std.proofs.lemmas.List.{get_or-drop}
use Rattle.std.proofs.lemmas.List.Sums.{sum_by_more}
use native.Mathlib.Nat.{mul-le-mul, mul-suc}
use native.Mathlib.Numerals.{add-one}
use Rattle.year.specs.declared.Line.{Line}
use Rattle.year.specs.declared.bends.Sides.{Sides}
use Rattle.year.specs.Ledger.{month_count, month_most}
use Rattle.year.specs.Bends.{sum_of, no_line, line_at, pool_of, sides_at, over, under}
use Rattle.year.specs.Asks.{Counted, pooled, SmallPool, SmallSides}

-- one place more
pub sum_more : (f : ℕ → ℕ) (k n : ℕ) → sum_of f k (n + 1) ≡ sum_of f k n + f (k + n)
unfolding sum_of
sum_more f k n = ap (sum_of f k) (add-one n)

-- each at most so much
pub sum_most : (f : ℕ → ℕ) (most k n : ℕ) → ((m : ℕ) → m < k + n → f m ≤ most) →
    sum_of f k n ≤ most * n
unfolding sum_of
sum_most f most k zero h = omega arith
sum_most f most k (suc n) h =
    omega (arith, sum_most f most k n (λ m l. h m (omega arith)), h (k + n) (omega arith), mul-suc most n)

-- each at most the other's
pub sum_least : (f g : ℕ → ℕ) (k n : ℕ) → ((m : ℕ) → m < k + n → f m ≤ g m) →
    sum_of f k n ≤ sum_of g k n
unfolding sum_of
sum_least f g k zero h = omega arith
sum_least f g k (suc n) h =
    omega (arith, sum_least f g k n (λ m l. h m (omega arith)), h (k + n) (omega arith))

-- a sum above 0 has a part above 0, and the reverse
pub record Some (f : ℕ → ℕ) (k n : ℕ) : Type 0 where
  pub place : ℕ
  pub from : k ≤ place
  pub below : place < k + n
  pub some : 0 < f place

pub sum_some : (f : ℕ → ℕ) (k n : ℕ) → 0 < sum_of f k n → Some f k n
unfolding sum_of
sum_some f k zero l = absurd (omega arith)
sum_some f k (suc n) l = go (sum_some f k n) (dec_lt 0 (sum_of f k n))
  where
    go : (0 < sum_of f k n → Some f k n) → Dec (0 < sum_of f k n) → Some f k (suc n)
    go r (yes q) =
        let s = r q in
        record { place = s.place; from = s.from; below = omega (arith, s.below); some = s.some }
    go r (no q) = record { place = k + n; from = omega arith; below = omega arith; some = omega (arith, q) }

pub some_sum : (f : ℕ → ℕ) (k n i : ℕ) → k ≤ i → i < k + n → f i ≤ sum_of f k n
unfolding sum_of
some_sum f k zero i a l = absurd (omega arith)
some_sum f k (suc n) i a l = go (some_sum f k n i a) (dec_lt i (k + n))
  where
    go : (i < k + n → f i ≤ sum_of f k n) → Dec (i < k + n) → f i ≤ sum_of f k n + f (k + n)
    go r (yes q) = omega (arith, r q)
    go r (no q) = let same : i ≡ k + n = omega (arith, q) in rw same (omega arith)

-- the pool of some months of a table is that of their lines
module _ (L : List Line) (k : ℕ) where
  sum_same : (f : Line → ℕ) (n : ℕ) → k + n ≤ length L →
      sum_by f (take n (drop k L)) ≡ sum_of (λ m. f (line_at L m)) k n
  unfolding sum_of
  sum_same f zero l = refl
  sum_same f (suc n) l =
      ap (λ (m : ℕ). sum_by f (take m (drop k L))) (sym (add-one n))
      ∙ sum_by_more f (drop k L) n no_line (simp length-drop (omega (arith, l)))
      ∙ ap₂ ◌+◌ (sum_same f n (omega (arith, l))) (ap f (get_or-drop k L n no_line))

  pub pool_same : (n : ℕ) → k + n ≤ length L → pooled (take n (drop k L)) ≡ pool_of L k n
  unfolding pool_of
  pool_same n l = λ i. record {
    findings = sum_same (λ m. m.findings) n l i;
    dismissed = sum_same (λ m. m.dismissed) n l i;
  }

-- ---- pools of counted lines are small

module _ (L : List Line) (h : Counted L) where
  pool_small : (k n : ℕ) → k + n ≤ month_count → SmallPool (pool_of L k n)
  unfolding pool_of
  pool_small k n l = record {
    few = omega (arith, sum_most (λ m. (line_at L m).findings) month_most k n (λ m q. h.few m (omega arith)));
    part = sum_least (λ m. (line_at L m).dismissed) (λ m. (line_at L m).findings) k n (λ m q. h.part m (omega arith));
  }

  pub sides_small : (m : ℕ) → m < month_count → SmallSides (sides_at L m)
  unfolding sides_at
  sides_small m l = record {
    upto = pool_small 0 (m + 1) (omega arith);
    later = pool_small (m + 1) (month_count - (m + 1)) (omega arith);
  }

-- ---- and so are the products

module _ {s : Sides} (h : SmallSides s) where
  pub first_le : s.later.dismissed * s.upto.findings ≤ 2414739600
  first_le = mul-le-mul {n₂ = 49140} (omega (arith, h.later.few, h.later.part)) h.upto.few

  pub second_le : (s.upto.findings - s.upto.dismissed) * s.later.findings ≤ 2414739600
  second_le = mul-le-mul {n₂ = 49140} (omega (arith, h.upto.few)) h.later.few

  pub over_le : over s ≤ 4829479200
  over_le = omega (arith, first_le, second_le)

  pub under_le : under s ≤ 2414739600
  under_le = mul-le-mul h.later.few h.upto.few

pub cross_le : {a b : ℕ} → a ≤ 4829479200 → b ≤ 2414739600 → a * b ≤ 11661935000000000000
cross_le p q = omega (arith, mul-le-mul p q)

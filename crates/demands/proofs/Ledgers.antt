-- What is promised of a ledger (02, W4): the number of the first rule that is not kept, each line's counts and rate,
-- the bend, and the second table. Assumes nothing.
use Rattle.wire.proofs.Usual.{◌≡◌, refl, sym, ap, ◌∙◌, subst, true, false, Bool, true≢false, ◌≢◌, List, ℕ}
use Rattle.wire.proofs.Usual.{◌+◌, ◌-◌, ◌*◌, ◌<◌, ◌≤◌, dec_lt, arith, ltb, eq-eqb, ne_eqb, lt-ltb, ltb-true}
use Rattle.std.proofs.Common.{Option, Some, None, Result, Ok, Err}
use lib.IntN.{pos}
use lib.Ieee.{Float, fin, binary64, round, of_bits}
use Rattle.wire.proofs.Places.{both_left, both_right}
use Rattle.contents.specs.Contents.{body_of}
use Rattle.year.specs.declared.Closings.{Closings}
use Rattle.year.specs.declared.Line.{Line}
use Rattle.year.specs.declared.bends.Sides.{Sides}
use Rattle.year.specs.declared.rules.Refusal.{Refusal}
use Rattle.year.specs.Ledger.{month_count, month_most, answer_number, verdict, ledger_table, ledger_number}
use Rattle.year.specs.Months.{found, dismissed, rate_of, line_of, share_of, bits_of}
use Rattle.year.specs.Bends.{sum_of, line_at, pool_of, sides_at, both_sides, under, larger, bend_number}
use Rattle.year.specs.Year.{month_line, lines_of, table_of, year_of}
use Rattle.year.specs.Asks.{Counted}
use Rattle.year.proofs.Counting.{found_few, gone_part}
use Rattle.year.proofs.Rates.{rate_nearest, rate_none, none_rate, rate_all, all_rate, round_bits}
use Rattle.year.proofs.Sums.{sides_small, sum_some, some_sum}
use Rattle.year.proofs.Bending.{Best, Top, tops, top_bend, larger_literal}
use Rattle.year.proofs.Taken.{taken_small, lines_counted, line_is, accepted_zero, zero_accepted, verdict_number}
use Rattle.year.proofs.Taken.{year_number}
use Rattle.year.proofs.Nearness.{round_nearest}
use Rattle.year.proofs.WithoutScript.{body_without, without_script_is}
use Rattle.demands.specs.Demands.{rising}
use Rattle.demands.specs.Ledgers.{Refused, LedgerAnswered, Shared, Lined, Bent, TwoMonths, BendFound, Ledgers}
use Rattle.demands.proofs.Demand1.{by_table}

-- ---- the number

-- an answer is a refusal, or has both tables
by_answer : (F : List ℕ) (r : Result (Unit {0}) Refusal) → verdict F ≡ r → LedgerAnswered F
unfolding year_of ledger_number ledger_table rising
by_answer F r v = record {
  number = rw (year_number F) (by_table (ledger_table F) refl refl);
  checked = verdict_number F ∙ sym (year_number F);
  refused = refused r v;
  accepted = λ z. rw (zero_accepted F (sym (year_number F) ∙ z)) refl;
}
  where
    refused : (r : Result (Unit {0}) Refusal) → verdict F ≡ r → answer_number (year_of F) ≢ 0 →
        Refused (year_of F)
    refused (Ok tt) v h = absurd (h (year_number F ∙ accepted_zero F v))
    refused (Err e) v h = (e, rw v refl)

answered : (F : List ℕ) → LedgerAnswered F
answered F = by_answer F (verdict F) refl

-- ---- a line

-- what a share carries, so that two are told apart
abbrev carried : Option Float → Float
carried (Some x) = x
carried None = fin true 0 (pos 0)

abbrev is_rate : Option Float → Bool
is_rate (Some x) = true
is_rate None = false

module _ (n d : ℕ) (few : n ≤ month_most) (part : d ≤ n) where
  share_none : n ≡ 0 → share_of (line_of n d) ≡ None
  unfolding share_of line_of
  share_none e = rw (eq-eqb n 0 e)

  share_some : 0 < n → share_of (line_of n d) ≡ Some (rate_of n d)
  unfolding share_of line_of
  share_some l = rw (ne_eqb n 0 (λ z. omega (arith, z)))

  shared : Shared n d (share_of (line_of n d))
  shared = record {
    none = (only (dec_lt 0 n), share_none);
    rounded = λ l. share_some l ∙ ap Some (nearest l);
    nearest = λ l. round_nearest d n l part;
    zero = λ l. (
      λ e. none_rate n d l (omega arith) part (ap carried (sym (share_some l) ∙ e)),
      λ e. share_some l ∙ ap Some (rate_none n d l (omega arith) part e),
    );
    one = λ l. (
      λ e. all_rate n d l (omega arith) part (ap carried (sym (share_some l) ∙ e)),
      λ e. share_some l ∙ ap Some (rate_all n d l (omega arith) part e),
    );
    bits = λ l. ap bits_of (share_some l ∙ ap Some (nearest l)) ∙ round_bits d n;
  }
    where
      nearest : 0 < n → rate_of n d ≡ round binary64 false d n
      nearest l = rate_nearest n d l (omega arith) part

      only : Dec (0 < n) → share_of (line_of n d) ≡ None → n ≡ 0
      only (yes l) e = absurd (true≢false (ap is_rate (sym (share_some l) ∙ e)))
      only (no x) e = omega (arith, x)

no_rate : (n d : ℕ) → n ≡ 0 → (line_of n d).rate ≡ fin false 0 (pos 0)
unfolding line_of of_bits
no_rate n d e = rw (eq-eqb n 0 e) refl

line_made : (c : Closings) (F : List ℕ) (m : ℕ) → found c (body_of F m) ≤ month_most →
    Lined c F m (line_of (found c (body_of F m)) (dismissed c (body_of F m)))
unfolding line_of
line_made c F m few = record {
  findings = refl;
  dismissed = refl;
  few = few;
  part = gone_part c (body_of F m);
  share = shared (found c (body_of F m)) (dismissed c (body_of F m)) few (gone_part c (body_of F m));
  field = no_rate (found c (body_of F m)) (dismissed c (body_of F m));
}

lined : (c : Closings) (F : List ℕ) → ledger_number F ≡ 0 → (m : ℕ) → m < month_count →
    Lined c F m (line_at (table_of c F).lines m)
unfolding table_of month_line
lined c F z m l =
    let few : found c (body_of F m) ≤ month_most =
    omega (arith, found_few c (body_of F m), (taken_small F z).month m l) in
    subst (Lined c F m) (sym (line_is c F m l)) (line_made c F m few)

-- ---- the bend

module _ (L : List Line) where
  -- a month with a finding on each side
  two_sides : (m : ℕ) → m < month_count → both_sides (sides_at L m) ≡ true → TwoMonths L
  unfolding sides_at pool_of
  two_sides m l h =
      let s = sides_at L m in
      let f : ℕ → ℕ = λ k. (line_at L k).findings in
      let early = sum_some f 0 (m + 1) (ltb-true 0 _ (both_left (ltb 0 s.upto.findings) _ h)) in
      let late = sum_some f (m + 1) (month_count - (m + 1))
      (ltb-true 0 _ (both_right (ltb 0 s.upto.findings) _ h)) in
      record {
        first = early.place;
        second = late.place;
        apart = omega (arith, early.below, late.from);
        month = omega (arith, late.below);
        findings = early.some;
        others = late.some;
      }

  sides_two : (w : TwoMonths L) → both_sides (sides_at L w.first) ≡ true
  unfolding sides_at pool_of
  sides_two w =
      let f : ℕ → ℕ = λ k. (line_at L k).findings in
      let early = some_sum f 0 (w.first + 1) w.first (omega arith) (omega arith) in
      let late = some_sum f (w.first + 1) (month_count - (w.first + 1)) w.second
      (omega (arith, w.apart)) (omega (arith, w.apart, w.month)) in
      rw (
        lt-ltb 0 (sum_of f 0 (w.first + 1)) (omega (arith, early, w.findings)),
        lt-ltb 0 (sum_of f (w.first + 1) (month_count - (w.first + 1))) (omega (arith, late, w.others)),
      )

  -- of any two months
  compared : Counted L → (k m : ℕ) → k < month_count → m < month_count →
      let s = sides_at L k in
      let t = sides_at L m in
      larger s t
      ≡ ltb
      (t.later.dismissed * t.upto.findings * under s + s.upto.dismissed * s.later.findings * under t)
      (s.later.dismissed * s.upto.findings * under t + t.upto.dismissed * t.later.findings * under s)
  compared c k m p q =
      larger_literal (sides_at L k) (sides_at L m) (sides_small L c k p).upto.part (sides_small L c m q).upto.part

  -- a best month is a bend, and the only one
  best_bent : (b : ℕ) (s : Sides) → Best (sides_at L) month_count b s month_count → Bent L b
  best_bent b s t = record { month = t.below; sides = t.good; most = t.over; earliest = t.first }

  bent_best : (b : ℕ) (s : Sides) → Best (sides_at L) month_count b s month_count → (m : ℕ) → Bent L m → b ≡ m
  bent_best b s t m w = go (dec_lt b m) (dec_lt m b)
    where
      go : Dec (b < m) → Dec (m < b) → b ≡ m
      go (yes l) _ = absurd (true≢false (sym (w.earliest b l t.good) ∙ t.over m w.month w.sides))
      go (no _) (yes l) = absurd (true≢false (sym (t.first m l w.sides) ∙ w.most b t.below t.good))
      go (no x) (no y) = omega (arith, x, y)

  -- by the best of all months, where there is one
  by_best : Counted L → (o : Option (ℕ × Sides)) → Top (sides_at L) month_count o month_count → BendFound L
  by_best c (Some (b, s)) t =
      let is = top_bend L (Some (b, s)) t in
      record {
        after = λ m. (
          λ e. let same : b ≡ m = omega (arith, ap bend_number (sym is ∙ e)) in
              subst (Bent L) same (best_bent b s t),
          λ w. is ∙ ap (λ (k : ℕ). Some (k + 1)) (bent_best b s t m w),
        );
        none = (
          λ e. absurd (omega (arith, ap bend_number (sym is ∙ e))),
          λ h. absurd (true≢false (sym t.good ∙ h b t.below)),
        );
        two = (λ h. two_sides b t.below t.good, λ w e. omega (arith, ap bend_number (sym is ∙ e)));
        compared = compared c;
      }
  by_best c None t =
      let is = top_bend L None t in
      record {
        after = λ m. (
          λ e. absurd (omega (arith, ap bend_number (sym is ∙ e))),
          λ w. absurd (true≢false (sym w.sides ∙ t m w.month)),
        );
        none = (λ e. t, λ h. is);
        two = (
          λ h. absurd (h is),
          λ w e. true≢false (sym (sides_two w) ∙ t w.first (omega (arith, w.apart, w.month))),
        );
        compared = compared c;
      }

  bend_found : Counted L → BendFound L
  bend_found c = let t = tops (sides_at L) month_count month_count in by_best c t.best t.is_top

-- ---- all of it

pub ledgers : Ledgers
unfolding table_of
ledgers = record {
  answered = answered;
  lines = lined;
  bends = λ c F z. bend_found (lines_of c F) (lines_counted c F (taken_small F z));
  bend = λ c F. refl;
  second = λ F z. record {
    accepted = (without_script_is F z).0;
    bodies = body_without F z;
    table = (without_script_is F z).1;
  };
}

-- The rate is the 64-bit float nearest to the quotient of the two counts; it is 0 exactly where none were dismissed,
-- and 1 exactly where all were. Assumes nothing.
use Rattle.wire.proofs.Usual.{◌≡◌, refl, sym, ap, ◌∙◌, subst, Bool, true, false, cond, true≢false, ℕ, zero, suc}
use Rattle.wire.proofs.Usual.{◌+◌, ◌*◌, ◌<◌, ◌≤◌, dec_lt, arith, ltb, eq-eqb, ne_eqb}
use Prim.Native.Nat.{◌^◌}
use native.Mathlib.Nat.{mul-one, one-mul, zero-mul, mul_assoc, mul_comm, mul-pos, mul-le-mul}
use lib.Dec.{T}
use lib.IntN.{pos}
use lib.Ieee.{Float, Format, prec, emax, low, units, odd, nan, inf, fin, binary64, up, down, round, div, of_int, eq, le}
use lib.Ieee.{is_nan, to_bits}
use lib.Ieee.Exact.{HasValue}
use lib.Ieee.Back.{round_whole}
use lib.Ieee.Fits.{down_pos}
use lib.Ieee.Order.{round_mono}
use lib.Ieee.Positive.{first_pos}
use lib.Ieee.Scale.{round_same}
use Rattle.std.proofs.Common.{Some}
use Rattle.year.specs.Months.{rate_of, bits_of}

-- ---- the division is one rounding of the quotient

regroup : (a e d b : ℕ) → a * e * d * b ≡ a * (b * d * e)
regroup a e d b =
    mul_assoc (a * e) d b ∙ mul_assoc a e (d * b)
    ∙ ap (λ (x : ℕ). a * x) (mul_comm e (d * b) ∙ ap (λ (x : ℕ). x * e) (mul_comm d b))

-- of two floats that are whole numbers
quotient : (x y : Float) (a b : ℕ) → 0 < b → HasValue x false a 1 → HasValue y false b 1 →
    div binary64 x y ≡ round binary64 false a b
unfolding div
quotient nan y a b l hx hy = absurd hx
quotient (inf s) y a b l hx hy = absurd hx
quotient (fin s m e) nan a b l hx hy = absurd hy
quotient (fin s m e) (inf t) a b l hx hy = absurd hy
quotient (fin s m e) (fin t n d) a b l hx hy =
    let p : m * up e ≡ a * down e = sym (mul-one (m * up e)) ∙ hx.1 in
    let q : n * up d ≡ b * down d = sym (mul-one (n * up d)) ∙ hy.1 in
    let w : 0 < n * up d = rw q (mul-pos l (down_pos d)) in
    let z : 0 < n = first_pos n (up d) w in
    rw (hx.0, hy.0, ne_eqb n 0 (λ h. absurd (omega arith)))
    (round_same binary64 false (m * up e * down d) (n * up d * down e) a b (mul-pos w (down_pos e)) l
    (rw (p, q) (regroup a (down e) (down d) b)))

-- no count is so large that it is not a float
abbrev count_most : ℕ
count_most = 65536

-- one in 65,536 is a float above 0, and all but one is one below 1
above_none : T (le (round binary64 false 1 count_most) (fin false 0 (pos 0))) → ⊥
unfolding round le
above_none h = h

below_all : T (le (fin false 1 (pos 0)) (round binary64 false 65535 count_most)) → ⊥
unfolding round le
below_all h = h

-- n findings, d of them dismissed
module _ (n d : ℕ) (some : 0 < n) (few : n ≤ count_most) (part : d ≤ n) where
  -- the 64-bit float nearest to d / n, ties to even
  pub rate_nearest : rate_of n d ≡ round binary64 false d n
  unfolding of_int
  rate_nearest =
      quotient _ _ d n some (round_whole binary64 false d (omega arith)) (round_whole binary64 false n (omega arith))

  -- 0 where none were dismissed, and only there: one of them is at least a part in 65,536
  pub rate_none : d ≡ 0 → rate_of n d ≡ fin false 0 (pos 0)
  unfolding round
  rate_none e =
      rate_nearest ∙ round_same binary64 false d n 0 1 some (omega arith) (rw e (zero-mul 1 ∙ sym (zero-mul n)))

  pub none_rate : rate_of n d ≡ fin false 0 (pos 0) → d ≡ 0
  none_rate e = go (dec_lt 0 d)
    where
      least : 0 < d → T (le (round binary64 false 1 count_most) (round binary64 false d n))
      least l = round_mono binary64 1 count_most d n (omega arith) some (mul-le-mul {n₁ = 1} l few)

      go : Dec (0 < d) → d ≡ 0
      go (no q) = omega (arith, q)
      go (yes l) =
          absurd (above_none (subst (λ (x : Float). T (le (round binary64 false 1 count_most) x))
          (sym rate_nearest ∙ e) (least l)))

  -- 1 where all were dismissed, and only there: one that was not is at least a part in 65,536
  pub rate_all : d ≡ n → rate_of n d ≡ fin false 1 (pos 0)
  unfolding round
  rate_all e =
      rate_nearest ∙ round_same binary64 false d n 1 1 some (omega arith)
      (rw e (mul-one n ∙ sym (one-mul n)))

  pub all_rate : rate_of n d ≡ fin false 1 (pos 0) → d ≡ n
  all_rate e = go (dec_lt d n)
    where
      most : d < n → T (le (round binary64 false d n) (round binary64 false 65535 count_most))
      most l = round_mono binary64 d n 65535 count_most some (omega arith) (omega arith)

      go : Dec (d < n) → d ≡ n
      go (no q) = omega (arith, q)
      go (yes l) =
          absurd (below_all (subst (λ (x : Float). T (le x (round binary64 false 65535 count_most)))
          (sym rate_nearest ∙ e) (most l)))

-- ---- its bits

units_real : (f : Format) (s : Bool) (q k : ℕ) → is_nan (units f s q k) ≡ false
unfolding units odd is_nan
units_real f s q k = go (ltb (q * 2 ^ k) (2 ^ (low f + suc (emax f)))) q
  where
    go : (t : Bool) (q : ℕ) → is_nan (cond t (odd (suc (prec f)) s q k (low f)) (inf s)) ≡ false
    go true zero = refl
    go true (suc q) = refl
    go false q = refl

round_real : (f : Format) (s : Bool) (a b : ℕ) → is_nan (round f s a b) ≡ false
unfolding round
round_real f s a b = units_real f s _ _

equal_self : (x : Float) → is_nan x ≡ false → eq x x ≡ true
unfolding eq is_nan
equal_self nan h = absurd (true≢false h)
equal_self (inf true) h = refl
equal_self (inf false) h = refl
equal_self (fin true m e) h = rw (eq-eqb (m * up e * down e) (m * up e * down e) refl)
equal_self (fin false m e) h = rw (eq-eqb (m * up e * down e) (m * up e * down e) refl)

-- what is rounded is a number, and so has bits of its own
pub round_bits : (a b : ℕ) →
    bits_of (Some (round binary64 false a b)) ≡ to_bits binary64 (round binary64 false a b)
round_bits a b = rw (equal_self (round binary64 false a b) (round_real binary64 false a b))

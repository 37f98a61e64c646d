-- TWOHAND's effective mask and the test that no pair differs, by operations on whole masks of four bits. Each is one
-- test that antt computes over all of them.
-- Assumes nothing.
use Rattle.wire.proofs.Usual.{◌≡◌, refl, ◌∙◌, Bool, true, false, not, ◌&&◌, ◌||◌, ℕ, ◌+◌, ◌*◌, ◌/◌, ◌%◌, ◌<◌}
use Rattle.wire.proofs.Usual.{dec_lt, arith, eqb-true, ltb-true, ne_eqb, not-true, eqb, ltb}
use native.Mathlib.Nat.{mod-eq_of_lt}
use lib.Bits.{bit_and, bit_xor}
use Rattle.wire.specs.Places.{first_bad, all}
use Rattle.wire.proofs.Places.{all_each, both_left, both_right}
use Rattle.block.specs.Inputs.{effective_bit, effective_bits}
use Rattle.block.specs.Twohand.{differs}
use Rattle.block.specs.Asks.{Even}

-- ---- the effective mask: each bit is raw, inverted if normally open, and 0 where the input is not active

abbrev right : ℕ → ℕ → ℕ → Bool
right a o r = eqb (bit_and (bit_xor r o) a) (effective_bits a o r)

each : all (λ a. all (λ o. all (right a o) 16) 16) 16 ≡ true
unfolding all first_bad
each = refl

-- the bits of a mask are those of its four last
record Low (m : ℕ) : Type 0 where
  bit0 : m % 16 % 2 ≡ m % 2
  bit1 : m % 16 / 2 % 2 ≡ m / 2 % 2
  bit2 : m % 16 / 4 % 2 ≡ m / 4 % 2
  bit3 : m % 16 / 8 % 2 ≡ m / 8 % 2

low : (m : ℕ) → Low m
low m = record { bit0 = omega arith; bit1 = omega arith; bit2 = omega arith; bit3 = omega arith }

pub masked : (a o r : ℕ) → bit_and (bit_xor (r % 16) (o % 16)) (a % 16) ≡ effective_bits a o r
masked a o r =
    let inner = all_each (λ a. all (λ o. all (right a o) 16) 16) 16 each (a % 16) (omega arith) in
    let whole = all_each (λ o. all (right (a % 16) o) 16) 16 inner (o % 16) (omega arith) in
    let here = all_each (right (a % 16) (o % 16)) 16 whole (r % 16) (omega arith) in
    let p = low a in
    let q = low o in
    let s = low r in
    eqb-true (bit_and (bit_xor (r % 16) (o % 16)) (a % 16)) (effective_bits (a % 16) (o % 16) (r % 16)) here
    ∙ (λ i.
    effective_bit (p.bit0 i) (q.bit0 i) (s.bit0 i)
    + 2 * effective_bit (p.bit1 i) (q.bit1 i) (s.bit1 i)
    + 4 * effective_bit (p.bit2 i) (q.bit2 i) (s.bit2 i)
    + 8 * effective_bit (p.bit3 i) (q.bit3 i) (s.bit3 i))

-- ---- no pair differs

-- a bit of the mask is not that of its neighbour, and both are active: bit 0 for the first pair, bit 2 for the second
abbrev pub apart : ℕ → ℕ → ℕ
apart a x = bit_and (bit_and (bit_and (bit_xor x (x / 2)) a) (a / 2)) 5

abbrev even : ℕ → ℕ → Bool
even a x = not (eqb (apart a x) 0) || (not (differs (a % 4) (x % 4)) && not (differs (a / 4) (x / 4)))

evens : all (λ a. all (even a) 16) 16 ≡ true
unfolding all first_bad
evens = refl

-- active masks of more than four bits have no second pair that differs
module _ (a x : ℕ) (l : ltb x 16 ≡ true) (e : eqb (apart (a % 16) x) 0 ≡ true) where
  both_even : not (differs (a % 16 % 4) (x % 4)) && not (differs (a % 16 / 4) (x / 4)) ≡ true
  both_even =
      let inner = all_each (λ a. all (even a) 16) 16 evens (a % 16) (omega arith) in
      rw e at (all_each (even (a % 16)) 16 inner x (ltb-true x 16 l))

  first_even : differs (a % 4) (x % 4) ≡ false
  first_even =
      let four : a % 16 % 4 ≡ a % 4 = omega arith in
      rw four at (not-true (differs (a % 16 % 4) (x % 4))
      (both_left (not (differs (a % 16 % 4) (x % 4))) (not (differs (a % 16 / 4) (x / 4))) both_even))

  second_even : differs (a / 4) (x / 4) ≡ false
  second_even = go (dec_lt a 16)
    where
      go : Dec (a < 16) → differs (a / 4) (x / 4) ≡ false
      go (yes s) =
          rw (mod-eq_of_lt s) at (not-true (differs (a % 16 / 4) (x / 4))
          (both_right (not (differs (a % 16 % 4) (x % 4))) (not (differs (a % 16 / 4) (x / 4))) both_even))
      go (no n) = rw (ne_eqb (a / 4) 3 (λ q. n (omega arith)))

pub none_apart : (a x : ℕ) → ltb x 16 && eqb (apart (a % 16) x) 0 ≡ true → Even a x
none_apart a x h =
    let l = both_left (ltb x 16) (eqb (apart (a % 16) x) 0) h in
    let e = both_right (ltb x 16) (eqb (apart (a % 16) x) 0) h in
    record { first = first_even a x l e; second = second_even a x l e }

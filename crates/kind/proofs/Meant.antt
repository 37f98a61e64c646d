-- The masks of the devices are what 01, "The case file" and "One cycle", says bit by bit: the bits that each allows,
-- and those that make a group pending. One test that antt computes over all bytes.
-- Assumes nothing.
use Rattle.wire.proofs.Usual.{◌≡◌, refl, sym, Bool, true, false, not, ◌&&◌, ◌||◌, true≢false, List, ℕ, ◌<◌, ltb}
use Rattle.wire.specs.Places.{first_bad, all}
use Rattle.wire.proofs.Places.{all_each, both_left, both_right}
use Rattle.kind.specs.Kinds.{family_of}
use Rattle.kind.specs.Masks.{is_within, meets}
use Rattle.kind.specs.Devices.{EL6900, EL6910, device_of, controls_of, is_com_err, is_module_fault}
use Rattle.kind.specs.Devices.{available, is_pending}
use Rattle.kind.specs.Parameters.{parameters_fit, parameters_ok}

abbrev same : Bool → Bool → Bool
same true b = b
same false b = not b

same_is : (a b : Bool) → same a b ≡ true → a ≡ b
same_is true true h = refl
same_is true false h = absurd (true≢false (sym h))
same_is false true h = absurd (true≢false (sym h))
same_is false false h = refl

abbrev right : ℕ → Bool
right v =
    same (is_within v 7) (ltb v 8)
    && same (is_within v 15) (ltb v 16)
    && same (meets v 4) (is_com_err v)
    && same (meets v 12) (is_com_err v || is_module_fault v)

-- what the masks say of a byte
pub record Meant (v : ℕ) : Type 0 where
  pub controls6900 : is_within v (controls_of (device_of EL6900)) ≡ ltb v 8
  pub controls6910 : is_within v (controls_of (device_of EL6910)) ≡ ltb v 16
  pub pending6900 : is_pending EL6900 v ≡ is_com_err v
  pub pending6910 : is_pending EL6910 v ≡ is_com_err v || is_module_fault v

each : all right 256 ≡ true
unfolding all first_bad is_within meets
each = refl

pub meant : (v : ℕ) → v < 256 → Meant v
unfolding device_of
meant v l =
    let h = all_each right 256 each v l in
    let a = same (is_within v 7) (ltb v 8) in
    let b = same (is_within v 15) (ltb v 16) in
    let c = same (meets v 4) (is_com_err v) in
    let d = same (meets v 12) (is_com_err v || is_module_fault v) in
    let abc = both_left (a && b && c) d h in
    let ab = both_left (a && b) c abc in record {
      controls6900 = same_is (is_within v 7) (ltb v 8) (both_left a b ab);
      controls6910 = same_is (is_within v 15) (ltb v 16) (both_right a b ab);
      pending6900 = same_is (meets v 4) (is_com_err v) (both_right (a && b) c abc);
      pending6910 = same_is (meets v 12) (is_com_err v || is_module_fault v) (both_right (a && b && c) d h);
    }

-- the parameters of a kind that the device has
pub has_parameters : (d k : ℕ) (P : List ℕ) → parameters_ok d k P ≡ true →
    parameters_fit (family_of k) k P ≡ true
unfolding parameters_ok
has_parameters d k P h = both_right (available d k) (parameters_fit (family_of k) k P) h

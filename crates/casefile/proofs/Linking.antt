-- A link that is there exactly if a bit of a mask is set. Assumes nothing.
use Rattle.wire.proofs.Usual.{◌≡◌, refl, ℕ, zero, suc, ◌/◌, ◌%◌, ◌<◌, arith, eqb}
use Rattle.std.specs.Prelude.{Option, Some, None, is_some, ◌^◌}
use mathlib.Core.Bool.{beq}
use Rattle.project.specs.declared.Source.{Source}
use Rattle.project.specs.declared.Source.TheVariants.{External, Output}
use Rattle.casefile.specs.Rules.{linked, bit_of}

bit : (s : Option Source) (b : ℕ) → b < 2 → beq (is_some s) (eqb b 1) ≡ eqb (linked s) b
bit None zero l = refl
bit None (suc zero) l = refl
bit (Some (External i)) zero l = refl
bit (Some (External i)) (suc zero) l = refl
bit (Some (Output a q)) zero l = refl
bit (Some (Output a q)) (suc zero) l = refl
bit s (suc (suc b)) l = absurd (omega arith)

pub linked_bit : (s : Option Source) (mask p : ℕ) →
    beq (is_some s) (eqb (bit_of mask p) 1) ≡ eqb (linked s) (bit_of mask p)
unfolding bit_of
linked_bit s mask p = bit s (mask / 2 ^ p % 2) (omega arith)

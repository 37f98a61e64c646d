-- Bytes that are 0, four at a time: a number of four bytes is 0 exactly where each of them is.
-- Assumes nothing.
use Rattle.wire.proofs.Usual.{◌≡◌, refl, ap, ◌∙◌, Bool, true, false, ◌&&◌, List, ℕ, suc, arith, eqb-true, eq-eqb}
use Rattle.wire.proofs.Usual.{ne_eqb, eqb}
use borrow.Author.Tests.{eqb-false}
use Rattle.wire.specs.Words.{byte_at, word4, le32}
use Rattle.kind.specs.Parameters.{zeros_from}

-- four tests and a fifth
word_zero : (a b c d : ℕ) (z : Bool) →
    eqb a 0 && (eqb b 0 && (eqb c 0 && (eqb d 0 && z))) ≡ eqb (word4 a b c d) 0 && z
word_zero a b c d z = go (eqb a 0) (eqb b 0) (eqb c 0) (eqb d 0) refl refl refl refl
  where
    go : (p q r s : Bool) → eqb a 0 ≡ p → eqb b 0 ≡ q → eqb c 0 ≡ r → eqb d 0 ≡ s →
        p && (q && (r && (s && z))) ≡ eqb (word4 a b c d) 0 && z
    go true true true true e f g h =
        rw (eq-eqb (word4 a b c d) 0 (omega (arith, eqb-true a 0 e, eqb-true b 0 f, eqb-true c 0 g, eqb-true d 0 h)))
    go false q r s e f g h = rw (ne_eqb (word4 a b c d) 0 (λ w. eqb-false a 0 e (omega arith)))
    go true false r s e f g h = rw (ne_eqb (word4 a b c d) 0 (λ w. eqb-false b 0 f (omega arith)))
    go true true false s e f g h = rw (ne_eqb (word4 a b c d) 0 (λ w. eqb-false c 0 g (omega arith)))
    go true true true false e f g h = rw (ne_eqb (word4 a b c d) 0 (λ w. eqb-false d 0 h (omega arith)))

-- four bytes and n more
pub zeros_more : (P : List ℕ) (k n : ℕ) →
    zeros_from P k (suc (suc (suc (suc n))))
    ≡ eqb (word4 (byte_at P k) (byte_at P (suc k)) (byte_at P (suc (suc k))) (byte_at P (suc (suc (suc k))))) 0
    && zeros_from P (suc (suc (suc (suc k)))) n
unfolding zeros_from
zeros_more P k n =
    word_zero (byte_at P k) (byte_at P (suc k)) (byte_at P (suc (suc k))) (byte_at P (suc (suc (suc k))))
    (zeros_from P (suc (suc (suc (suc k)))) n)

and-true : (z : Bool) → z && true ≡ z
and-true true = refl
and-true false = refl

pub and_assoc : (x y z : Bool) → x && (y && z) ≡ x && y && z
and_assoc true y z = refl
and_assoc false y z = refl

-- four bytes, eight and twelve, as the code tests them
pub zeros4 : (P : List ℕ) → zeros_from P 8 4 ≡ eqb (le32 P 8) 0
unfolding zeros_from
zeros4 P = zeros_more P 8 0 ∙ and-true (eqb (le32 P 8) 0)

pub zeros8 : (P : List ℕ) → zeros_from P 4 8 ≡ eqb (le32 P 4) 0 && eqb (le32 P 8) 0
zeros8 P = zeros_more P 4 4 ∙ ap (λ (z : Bool). eqb (le32 P 4) 0 && z) (zeros4 P)

pub zeros12 : (P : List ℕ) → zeros_from P 0 12 ≡ eqb (le32 P 0) 0 && eqb (le32 P 4) 0 && eqb (le32 P 8) 0
zeros12 P =
    zeros_more P 0 8
    ∙ ap (λ (z : Bool). eqb (le32 P 0) 0 && z) (zeros8 P)
    ∙ and_assoc (eqb (le32 P 0) 0) (eqb (le32 P 4) 0) (eqb (le32 P 8) 0)

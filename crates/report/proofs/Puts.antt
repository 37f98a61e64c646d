-- Text that is stored piece by piece: one piece behind another is one text, and characters may be stored from the last
-- to the first, as a number's digits are.
-- Assumes nothing.
use Rattle.wire.proofs.Usual.{◌≡◌, refl, sym, ap, ◌∙◌, List, [], ◌∷◌, ◌++◌, append-nil, ℕ, suc, ◌+◌}
use Rattle.wire.proofs.Usual.{arith, length, set, length-append, sets}
use native.Mathlib.Nat.{add-zero}
use lib.Seq.{append_snoc}
use Rattle.wire.proofs.Stores.{sets-append, set_sets_comm}
use Rattle.report.specs.Lines.{Put}

-- a text, and the text behind it
infixl 5 ◌then◌
pub ◌then◌ : {s t l m n : List ℕ} {at mid next : ℕ} → Put s l at m mid → Put t m mid n next →
    Put (s ++ t) l at n next
◌then◌ {s} {t} {l} {m} {n} {at} p q = record {
  bytes = q.bytes ∙ rw (p.bytes, p.place) (sets-append s t l at);
  place = omega (arith, p.place, q.place, length-append s t);
}

-- ---- characters from the last to the first

-- of a text that is to be stored from `at` on, the front is left, and what is behind it stands from `to` on
pub record Behind (l : List ℕ) (at : ℕ) (text out : List ℕ) (to : ℕ) (front : List ℕ) : Type 0 where
  pub tail : List ℕ
  pub whole : text ≡ front ++ tail
  pub place : to ≡ at + length front
  pub bytes : out ≡ sets l to tail

-- nothing is stored
pub behind_none : (l : List ℕ) (at : ℕ) (text : List ℕ) {to : ℕ} → to ≡ at + length text → Behind l at text l to text
behind_none l at text e = record {
  tail = [];
  whole = sym (append-nil text);
  place = e;
  bytes = refl;
}

module _ {l text out front : List ℕ} {at to : ℕ} (b : Behind l at text out to front) where
  -- one character more, at the place before
  pub behind_more : {out' front' : List ℕ} (next a : ℕ) → suc next ≡ to → front ≡ front' ++ (a ∷ []) →
      out' ≡ set out next a → Behind l at text out' next front'
  behind_more {out'} {front'} next a q f e =
      let size : length front ≡ length front' + 1 = ap length f ∙ length-append front' (a ∷ []) in
      record {
        tail = a ∷ b.tail;
        whole = b.whole ∙ ap (λ (s : List ℕ). s ++ b.tail) f ∙ append_snoc front' a b.tail;
        place = omega (arith, b.place, size, q);
        bytes =
            e
            ∙ rw b.bytes (set_sets_comm b.tail l next to a (omega (arith, q)))
            ∙ ap (λ (k : ℕ). sets (set l next a) k b.tail) (sym q);
      }

  -- nothing is left
  pub behind_all : front ≡ [] → out ≡ sets l at text
  behind_all f =
      let start : to ≡ at = b.place ∙ ap (λ (s : List ℕ). at + length s) f ∙ add-zero at in
      b.bytes
      ∙ ap (λ (k : ℕ). sets l k b.tail) start
      ∙ sym (ap (sets l at) (b.whole ∙ ap (λ (s : List ℕ). s ++ b.tail) f))

-- Integer ranges, once over the type. A result that the type holds is stored whole: the word's value is the result, and
-- the word is well formed; a result is Below exactly when it is below the type's least number, Above exactly when it is
-- above the greatest. A word is stored back as itself. By cases on the number's sign, and on the type only where its
-- reach is compared with 2 ^ 31. Which words are a type's is one law, `words_of`. Assumes nothing.
use mathlib.Core.Path.{◌≡◌, refl, sym, ap, ◌∙◌, subst}
use mathlib.Core.Bool.{Bool, true, false, cond, ◌&&◌}
use Prim.Native.Nat.{ℕ, suc, ◌+◌, ◌-◌, ◌%◌, ◌^◌, ◌≤◌, ◌<◌}
use native.Mathlib.Nat.{lt_of_not-le}
use native.Mathlib.Omega.{arith}
use native.Mathlib.Decide.{dec_le}
use borrow.Author.Tests.{le-leb, lt-leb, leb-true, leb-false}
use lib.Dec.{T, leb, leb→le}
use lib.IntN.{ℤ, pos, negsuc, neg_ℤ, nat_abs, sub_ℕ}
use lib.Signed.{lt_z, le_z, lt_z_no, lt_z_yes, le_z_yes, clash_ℤ, ◌≤ℤ◌, ◌<ℤ◌}
use Rattle.numbers.proofs.Laws.{sub_lt, abs_sgn, under_small, over_small, neg_le, neg_le_pos, not_less}
use Rattle.numbers.proofs.Laws.{word_neg}
use Rattle.numbers.specs.Types.{is_signed, lo, hi, under, over, value, inside, word_of}
use Rattle.numbers.specs.Results.{exact, settled, outcome}
use Rattle.numbers.specs.declared.NumType.{NumType}
use Rattle.numbers.specs.declared.NumType.TheVariants.{Int16, Uint16, Int32, Uint32}
use Rattle.numbers.specs.declared.Op.{Op}
use Rattle.numbers.specs.declared.OutOfRange.{OutOfRange}
use Rattle.numbers.specs.declared.OutOfRange.TheVariants.{Below, Above}
use Rattle.std.proofs.Common.{Result, Ok, Err}

-- ---- the type's reach and 2 ^ 31

-- the words that stand for themselves: those of a type with no numbers below 0, and those below 2 ^ 31
stands_low : (t : NumType) (w : ℕ) → w < 4294967296 → is_signed t && leb 2147483648 w ≡ false →
    w + under t < 4294967296
stands_low Int16 w h e = omega (arith, leb-false 2147483648 w e)
stands_low Uint16 w h e = omega arith
stands_low Int32 w h e = omega (arith, leb-false 2147483648 w e)
stands_low Uint32 w h e = omega arith

-- the others are past the type's greatest number
stands_high : (t : NumType) (w : ℕ) → is_signed t && leb 2147483648 w ≡ true → over t < w
stands_high Int16 w e = omega (arith, leb-true 2147483648 w e)
stands_high Uint16 w e = let x : ◌≡◌ {A = ℕ} 0 1 = cc in absurd (omega arith)
stands_high Int32 w e = omega (arith, leb-true 2147483648 w e)
stands_high Uint32 w e = let x : ◌≡◌ {A = ℕ} 0 1 = cc in absurd (omega arith)

-- ---- from a word to its number and back

and_left : (a b : Bool) → a && b ≡ true → a ≡ true
and_left true b e = refl
and_left false b e = e

and_right : (a b : Bool) → a && b ≡ true → b ≡ true
and_right true b e = e
and_right false b e = let x : ◌≡◌ {A = ℕ} 0 1 = cc in absurd (omega arith)

-- what holds of the word, and of the word less 2 ^ 32 where it is at least 2 ^ 31, holds of its number
by_word : (P : ℤ → Type 0) (t : NumType) (w : ℕ) → w < 4294967296 → P (pos w) →
    (2147483648 ≤ w → P (neg_ℤ (pos (4294967296 - w)))) → P (value t w)
unfolding value
by_word P t w h p q = pick (is_signed t && leb 2147483648 w) refl
  where
    pick : (b : Bool) → is_signed t && leb 2147483648 w ≡ b → P (cond b (sub_ℕ w 4294967296) (pos w))
    pick false e = p
    pick true e = rw (sub_lt h) (q (leb-true 2147483648 w (and_right (is_signed t) (leb 2147483648 w) e)))

-- the magnitude of a word's number is below 2 ^ 32
pub value_small : (t : NumType) (w : ℕ) → w < 2 ^ 32 → nat_abs (value t w) < 2 ^ 32
value_small t w h =
    by_word (λ (z : ℤ). nat_abs z < 4294967296) t w h h (λ k. rw (abs_sgn true (4294967296 - w)) (omega arith))

-- a word stores its own number
pub value_word : (t : NumType) (w : ℕ) → w < 2 ^ 32 → word_of (value t w) ≡ w
value_word t w h =
    by_word (λ (z : ℤ). word_of z ≡ w) t w h refl
    (λ k. word_neg (4294967296 - w) (omega arith) ∙ omega arith)

-- ---- from a number to its word and back

back : (n : ℕ) → suc n ≤ 2147483648 → sub_ℕ (4294967296 - suc n) 4294967296 ≡ negsuc n
back n h =
    let e : 4294967296 - (4294967296 - suc n) ≡ suc n = omega arith in
    sub_lt {a = 4294967296 - suc n} {b = 4294967296} (omega arith) ∙ rw e

up : (t : NumType) (n : ℕ) → n ≤ over t → value t n ≡ pos n
unfolding value
up t n h = pick (is_signed t && leb 2147483648 n) refl
  where
    pick : (b : Bool) → is_signed t && leb 2147483648 n ≡ b → cond b (sub_ℕ n 4294967296) (pos n) ≡ pos n
    pick false e = refl
    pick true e = absurd (omega (arith, stands_high t n e))

down : (t : NumType) (n : ℕ) → suc n ≤ under t → value t (4294967296 - suc n) ≡ negsuc n
unfolding value
down t n h = pick (is_signed t && leb 2147483648 (4294967296 - suc n)) refl
  where
    w : ℕ
    w = 4294967296 - suc n

    pick : (b : Bool) → is_signed t && leb 2147483648 w ≡ b → cond b (sub_ℕ w 4294967296) (pos w) ≡ negsuc n
    pick true e = back n (omega (arith, under_small t))
    pick false e = absurd (omega (arith, under_small t, stands_low t w (omega arith) e))

-- what the type holds comes back from its word
pub word_value : (t : NumType) (z : ℤ) → lo t ≤ℤ z → z ≤ℤ hi t → value t (word_of z) ≡ z
word_value t (pos n) l h = up t n (leb→le n (over t) h.le)
word_value t (negsuc n) l h = down t n (leb→le (suc n) (under t) (subst T (neg_le (under t) (suc n)) l.le))

word_small : (t : NumType) (z : ℤ) → z ≤ℤ hi t → word_of z < 4294967296
word_small t (pos n) h = let k = leb→le n (over t) h.le in omega (arith, over_small t)
word_small t (negsuc n) h = omega arith

-- what is known of the word w that stores z in type t
pub record Stored (t : NumType) (z : ℤ) (w : ℕ) : Type 0 where
  pub whole : value t w ≡ z
  pub formed : inside t w ≡ true
  pub small : w < 2 ^ 32

is_true : (b : Bool) → T b → b ≡ true
is_true true p = refl
is_true false p = absurd p

is_false : (b : Bool) → (T b → ⊥) → b ≡ false
is_false true p = absurd (p tt)
is_false false p = refl

pub stored_word : (t : NumType) (z : ℤ) → lo t ≤ℤ z → z ≤ℤ hi t → Stored t z (word_of z)
unfolding inside
stored_word t z l h =
    let e = word_value t z l h in
    record {
      whole = e;
      formed = rw (e, is_true (le_z (lo t) z) l.le, is_true (le_z z (hi t)) h.le);
      small = word_small t z h;
    }

-- ---- the three outcomes

less : {a b : ℤ} → a <ℤ b → lt_z a b ≡ true
less {a} {b} h = is_true (lt_z a b) h.lt

not_less_than : {a b : ℤ} → b ≤ℤ a → lt_z a b ≡ false
not_less_than {a} {b} h = is_false (lt_z a b) (λ p. clash_ℤ {a = a} {b = b} (lt_z_yes p) h)

-- what is below the type is Below
pub settled_below : (t : NumType) (z : ℤ) → z <ℤ lo t → settled t z ≡ Err Below
unfolding settled
settled_below t z l = rw (less l)

-- what is above the type is Above
pub settled_above : (t : NumType) (z : ℤ) → hi t <ℤ z → settled t z ≡ Err Above
unfolding settled
settled_above t (pos n) h = rw (not_less n (under t), less h)
settled_above t (negsuc n) h = absurd h.lt

-- what the type holds is stored
pub settled_inside : (t : NumType) (z : ℤ) → lo t ≤ℤ z → z ≤ℤ hi t → settled t z ≡ Ok (word_of z)
unfolding settled
settled_inside t z l h = rw (not_less_than l, not_less_than h)

-- where a number stands, by its outcome
data Place (t : NumType) (z : ℤ) : Result ℕ OutOfRange → Type 0 where
  below : z <ℤ lo t → Place t z (Err Below)
  above : hi t <ℤ z → Place t z (Err Above)
  within : lo t ≤ℤ z → z ≤ℤ hi t → Place t z (Ok (word_of z))

placed : (t : NumType) (z : ℤ) → Place t z (settled t z)
unfolding settled
placed t z = pick (lt_z z (lo t)) (lt_z (hi t) z) refl refl
  where
    pick : (a b : Bool) → lt_z z (lo t) ≡ a → lt_z (hi t) z ≡ b →
        Place t z (cond a (Err Below) (cond b (Err Above) (Ok (word_of z))))
    pick true b p q = below (lt_z_yes (rw p tt))
    pick false true p q = above (lt_z_yes (rw q tt))
    pick false false p q = within (lt_z_no (rw p tt)) (lt_z_no (rw q tt))

-- and nothing else is Below
pub below_only : (t : NumType) (z : ℤ) → settled t z ≡ Err Below → z <ℤ lo t
below_only t z e = at (subst (Place t z) e (placed t z))
  where
    at : Place t z (Err Below) → z <ℤ lo t
    at (below h) = h

-- and nothing else is Above
pub above_only : (t : NumType) (z : ℤ) → settled t z ≡ Err Above → hi t <ℤ z
above_only t z e = at (subst (Place t z) e (placed t z))
  where
    at : Place t z (Err Above) → hi t <ℤ z
    at (above h) = h

-- where a result is given, the word's number is the result and the word is one of its type
pub settled-value : (t : NumType) (z : ℤ) (w : ℕ) → settled t z ≡ Ok w → Stored t z w
settled-value t z w e = at w (subst (Place t z) e (placed t z))
  where
    at : (w : ℕ) → Place t z (Ok w) → Stored t z w
    at w (within l h) = stored_word t z l h

-- the same of a block's result
pub outcome-value : (op : Op) (ta : NumType) (a : ℕ) (tb : NumType) (b : ℕ) (t : NumType) (w : ℕ) →
    outcome op ta a tb b t ≡ Ok w → Stored t (exact op (value ta a) (value tb b)) w
unfolding outcome
outcome-value op ta a tb b t w e = settled-value t (exact op (value ta a) (value tb b)) w e

-- ---- well-formed words

same_side : (a b c d : ℕ) → (a ≤ b → c ≤ d) → (b < a → d < c) → leb a b ≡ leb c d
same_side a b c d p q = go (dec_le a b)
  where
    go : Dec (a ≤ b) → leb a b ≡ leb c d
    go (yes l) = le-leb a b l ∙ sym (le-leb c d (p l))
    go (no n) = let l = lt_of_not-le n in lt-leb a b l ∙ sym (lt-leb c d (q l))

and-true : (b : Bool) → b && true ≡ b
and-true true = refl
and-true false = refl

-- The law of a type's words: counted from the word of the least number, and round 2 ^ 32, they are the first ones, as
-- many as the type has numbers.
pub words_of : (t : NumType) (w : ℕ) → w < 2 ^ 32 → leb ((w + under t) % 2 ^ 32) (under t + over t) ≡ inside t w
unfolding inside value
words_of t w h = pick (is_signed t && leb 2147483648 w) refl
  where
    z : Bool → ℤ
    z b = cond b (sub_ℕ w 4294967296) (pos w)

    pick : (b : Bool) → is_signed t && leb 2147483648 w ≡ b →
        leb ((w + under t) % 4294967296) (under t + over t) ≡ le_z (lo t) (z b) && le_z (z b) (hi t)
    pick false e =
        let l = stands_low t w h e in
        rw (neg_le_pos (under t) w)
        (same_side ((w + under t) % 4294967296) (under t + over t) w (over t) (λ k. omega arith) (λ k. omega arith))
    pick true e =
        let o = stands_high t w e in
        let m = 4294967296 - w in
        rw (sub_lt h, neg_le (under t) m, neg_le_pos m (over t), and-true (leb m (under t)))
        (same_side ((w + under t) % 4294967296) (under t + over t) m (under t)
        (λ k. omega (arith, under_small t)) (λ k. omega (arith, under_small t)))

-- a well-formed word's number is stored as that word
pub stored_again : (t : NumType) (w : ℕ) → inside t w ≡ true → w < 2 ^ 32 → settled t (value t w) ≡ Ok w
unfolding inside
stored_again t w f h =
    let z = value t w in
    let l : lo t ≤ℤ z = le_z_yes (rw (and_left (le_z (lo t) z) (le_z z (hi t)) f) tt) in
    let u : z ≤ℤ hi t = le_z_yes (rw (and_right (le_z (lo t) z) (le_z z (hi t)) f) tt) in
    settled_inside t z l u ∙ ap Ok (value_word t w h)

-- 0 and 1 are numbers of every type
one_over : (t : NumType) → 1 ≤ over t
one_over Int16 = omega arith
one_over Uint16 = omega arith
one_over Int32 = omega arith
one_over Uint32 = omega arith

pub bit_inside : (t : NumType) (w : ℕ) → w ≤ 1 → inside t w ≡ true
bit_inside t w l =
    sym (words_of t w (omega arith))
    ∙ le-leb ((w + under t) % 4294967296) (under t + over t) (omega (arith, under_small t, one_over t))

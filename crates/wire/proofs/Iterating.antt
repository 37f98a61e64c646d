-- The library's iterators at the places of a table: `all` over a range, and over the whole records of a buffer.
-- Assumes nothing.
use Rattle.wire.proofs.Usual.{◌≡◌, refl, sym, ap, ◌∙◌, subst, Bool, true, false, cond, ◌&&◌, eqb, eq-eqb, ne_eqb}
use Rattle.wire.proofs.Usual.{ℕ, zero, suc, ◌+◌, ◌*◌, ◌≤◌, ◌<◌, ◌/◌, zero-add, length-append, arith}
use Rattle.wire.proofs.Usual.{List, [], ◌∷◌, ◌++◌, length, take, drop}
use Rattle.std.proofs.Common.{get_or, drop-drop}
use Rattle.std.specs.List.{list_all, range_with_len, FoldsTo, zip, enumerate_from}
use Rattle.std.proofs.lemmas.Slice.Zip.{length-zip, get_or-zip}
use Prim.Native.Nat.{min}
use Rattle.std.proofs.Math.Nat.{min-eq_left}
use Rattle.std.proofs.lemmas.List.FromFn.{length-range_with_len, get_or-range_with_len, length-enumerate_from}
use Rattle.std.proofs.lemmas.List.FromFn.{get_or-enumerate_from}
use denote.Ref.{Bor}
use denote.Param.Members.{Mut}
use Rattle.std.proofs.iter.Yields.{nat_range_steps}
use Rattle.std.specs.declared.option.Option.{Option}
use Rattle.std.specs.declared.ops.Range.{Range}
use Rattle.std.specs.Fn.{Called}
use Rattle.std.specs.Option.{MatchOption}
use Rattle.std.specs.declared.option.Option.TheVariants.{None, Some}
use Rattle.std.specs.declared.iter.Enumerate.{Enumerate}
use Rattle.std.specs.Iterator.{AlwaysYields, YieldsThen, Yields}
use Rattle.std.specs.Iterator.Adapters.{enumerate_source, enumerate_count, enumerate_steps}
use Rattle.std.proofs.lemmas.Iterator.Consumers.{YieldsList-from_enumerate, YieldsList-turn, YieldsList-end}
use Rattle.std.proofs.lemmas.Iterator.{YieldsList}
use Rattle.std.specs.declared.slice.ChunksExact.{ChunksExact}
use Rattle.std.specs.Slice.Iter.{chunks_exact_steps, chunks_exact_rest, chunks_exact_size}
use Rattle.std.proofs.lemmas.Iterator.{YieldsList-from_range}
use Rattle.std.proofs.lemmas.Iterator.Search.{all_from_yields_List}
use native.Mathlib.Nat.{sub-zero, add-div_left, div-eq_of_lt, mul-suc, mul-zero}
use lib.Seq.{take_at, drop_at}
use Rattle.wire.specs.Places.{first_from, first_bad, all}

-- whether a test holds at each item of a list is whether it holds at each place of it
places_from : {X : Type 0} (p : ℕ → Bool) (q : X → Bool) (d : X) (xs : List X) (k : ℕ)
    → ((j : ℕ) → j < length xs → q (get_or xs j d) ≡ p (k + j))
    → list_all q xs ≡ eqb (first_from p (length xs) k) (k + length xs)
places_from p q d [] k same = sym (eq-eqb k (k + 0) (omega arith))
places_from p q d (x ∷ xs) k same =
    go (p k) refl (same 0 (omega arith) ∙ ap p (omega arith))
    (places_from p q d xs (suc k) (λ j l. same (suc j) (omega arith) ∙ ap p (omega arith)))
  where
    go : (b : Bool) → p k ≡ b → q x ≡ p k
        → list_all q xs ≡ eqb (first_from p (length xs) (suc k)) (suc k + length xs)
        → (q x && list_all q xs) ≡ eqb (cond (p k) (first_from p (length xs) (suc k)) k) (k + suc (length xs))
    go true e f later = rw (f, e) (later ∙ ap (eqb (first_from p (length xs) (suc k))) (omega arith))
    go false e f later = rw (f, e) (sym (ne_eqb k (k + suc (length xs)) (λ r. absurd (omega arith))))

pub list_all_places : {X : Type 0} (p : ℕ → Bool) (q : X → Bool) (d : X) (n : ℕ) (xs : List X) → length xs ≡ n
    → ((j : ℕ) → j < n → q (get_or xs j d) ≡ p j) → list_all q xs ≡ all p n
unfolding all first_bad
list_all_places p q d n xs e same = subst (λ (m : ℕ). list_all q xs ≡ eqb (first_from p m 0) m) e
    (places_from p q d xs 0 (λ j l. same j (omega (arith, e)) ∙ ap p (sym (zero-add j)))
    ∙ ap (eqb (first_from p (length xs) 0)) (zero-add (length xs)))

-- over the places themselves
pub all_range : (p : ℕ → Bool) (n : ℕ) → list_all p (range_with_len 0 n) ≡ all p n
all_range p n = list_all_places p p 0 n (range_with_len 0 n) (length-range_with_len 0 n)
    (λ j l. ap p (get_or-range_with_len 0 n j 0 l ∙ zero-add j))

-- the n whole records of w bytes at the front of a buffer
abbrev pub rows : ℕ → ℕ → List ℕ → List (List ℕ)
rows w zero s = []
rows w (suc n) s = take w s ∷ rows w n (drop w s)

pub length-rows : (w n : ℕ) (s : List ℕ) → length (rows w n s) ≡ n
length-rows w zero s = refl
length-rows w (suc n) s = ap suc (length-rows w n (drop w s))

pub row_in : (w n : ℕ) (s : List ℕ) (j : ℕ) (d : List ℕ) → j < n → get_or (rows w n s) j d ≡ take w (drop (w * j) s)
row_in w zero s j d l = absurd (omega arith)
row_in w (suc n) s zero d l = sym (ap (λ (m : ℕ). take w (drop m s)) (mul-zero w))
row_in w (suc n) s (suc j) d l =
    row_in w n (drop w s) j d (omega arith)
    ∙ ap (take w) (drop-drop (w * j) w s ∙ ap (λ (m : ℕ). drop m s) (omega (arith, mul-suc w j)))

-- what the library's iterator over whole records gives
module _ (w : ℕ) (big : 0 < w) where
  zero_not : {n : ℕ} → 0 ≡ suc n → ⊥
  zero_not q = omega (arith, q)

  one_less : {a b : ℕ} → suc a ≡ suc b → a ≡ b
  one_less q = omega (arith, q)

  -- a whole record and what follows it
  whole : (x t : List ℕ) → length x ≡ w → length (x ++ t) / w ≡ suc (length t / w)
  whole x t e =
      ap (λ (m : ℕ). m / w) (length-append x t ∙ ap (λ (m : ℕ). m + length t) e)
      ∙ add-div_left (length t) big ∙ omega arith

  front : (x t : List ℕ) {s : List ℕ} → length x ≡ w → s ≡ x ++ t → x ≡ take w s
  front x t e q = sym (ap (take w) q ∙ take_at x t w e)

  back : (x t : List ℕ) {s : List ℕ} → length x ≡ w → s ≡ x ++ t → t ≡ drop w s
  back x t e q = sym (ap (drop w) q ∙ drop_at x t w e)

  chunks_give : (n : ℕ) (s : ChunksExact ℕ) → chunks_exact_size s ≡ w → length (chunks_exact_rest s) / w ≡ n
      → AlwaysYields chunks_exact_steps (λ y. y.now) s (rows w n (chunks_exact_rest s))
  chunks_give zero s e m = λ x t r. zero_not (sym m ∙ ap (λ (l : List ℕ). length l / w) r.1.0
      ∙ whole x.now (chunks_exact_rest t) (r.1.1 ∙ e))
  chunks_give (suc n) s e m = (
    λ t r. zero_not (sym (div-eq_of_lt (subst (λ (k : ℕ). length (chunks_exact_rest s) < k) e r.1.0)) ∙ m),
    λ x t r. (
      front x.now (chunks_exact_rest t) (r.1.1 ∙ e) r.1.0,
      subst (λ (l : List ℕ). AlwaysYields chunks_exact_steps (λ y. y.now) t (rows w n l))
          (back x.now (chunks_exact_rest t) (r.1.1 ∙ e) r.1.0)
          (chunks_give n t (r.0 ∙ e) (one_less (sym (whole x.now (chunks_exact_rest t) (r.1.1 ∙ e))
          ∙ sym (ap (λ (l : List ℕ). length l / w) r.1.0) ∙ m))),
    ),
  )

  pub YieldsList-from_chunks : {s : ChunksExact ℕ} (n : ℕ) (xs : List ℕ) → chunks_exact_rest s ≡ xs
      → chunks_exact_size s ≡ w
      → length xs / w ≡ n → YieldsList chunks_exact_steps (λ y. y.now) s (rows w n xs)
  YieldsList-from_chunks {s} n xs e f m = record {
    runs = subst (λ (l : List ℕ). AlwaysYields chunks_exact_steps (λ y. y.now) s (rows w n l)) e
        (chunks_give n s f (ap (λ (l : List ℕ). length l / w) e ∙ m));
  }

-- over the whole records of a buffer: t is the test of a record
pub all_rows : (p : ℕ → Bool) (t : List ℕ → Bool) (w n : ℕ) (s : List ℕ)
    → ((j : ℕ) → j < n → t (take w (drop (w * j) s)) ≡ p j) → list_all t (rows w n s) ≡ all p n
all_rows p t w n s same = list_all_places p t [] n (rows w n s) (length-rows w n s)
    (λ j l. ap t (row_in w n s j [] l) ∙ same j l)

-- a `for` over the whole records of a buffer and their numbers
module _ (w : ℕ) (big : 0 < w) (l : List ℕ) (s : Enumerate (ChunksExact ℕ))
    (rest : chunks_exact_rest (enumerate_source s) ≡ l) (size : chunks_exact_size (enumerate_source s) ≡ w)
    (start : enumerate_count s ≡ 0) where
  abbrev records : List (ℕ × List ℕ)
  records = enumerate_from 0 (rows w (length l / w) l)

  numbered : YieldsList (enumerate_steps chunks_exact_steps) (λ (p : ℕ × Bor (List ℕ)). (p.0, p.1.now)) s records
  numbered = YieldsList-from_enumerate (YieldsList-from_chunks w big (length l / w) l rest size refl) start

  wide : length (rows w (length l / w) l) ≡ length l / w
  wide = length-rows w (length l / w) l

  long : length records ≡ length l / w
  long = length-enumerate_from 0 (rows w (length l / w) l) ∙ wide

  -- it has had the turns of ys
  module _ (ys : List (ℕ × Bor (List ℕ))) (t u : Enumerate (ChunksExact ℕ))
      (had : Yields (enumerate_steps chunks_exact_steps) s ys t) (r : Option (ℕ × Bor (List ℕ)))
      (next : enumerate_steps chunks_exact_steps t r u) where
    -- which record the next turn has
    pub row_turn : (x : ℕ × Bor (List ℕ)) → r ≡ Some x →
        (length ys < length l / w) × ((x.0 ≡ length ys) × (x.1.now ≡ take w (drop (w * length ys) l)))
    row_turn x e =
        let k = length ys in
        let turn = YieldsList-turn numbered ys t had r u x e next in
        let here : k < length l / w = omega (arith, turn.0, long) in
        let at = turn.1 ∙ get_or-enumerate_from 0 (rows w (length l / w) l) k (x.0, x.1.now)
        (omega (arith, here, wide)) in (
          here,
          (
            ap (λ (p : ℕ × List ℕ). p.0) at ∙ zero-add k,
            ap (λ (p : ℕ × List ℕ). p.1) at ∙ row_in w (length l / w) l k x.1.now here,
          ),
        )

    -- there is none: it has had all
    pub rows_end : r ≡ None → length ys ≡ length l / w
    rows_end e = (YieldsList-end numbered ys t had r u e next).1 ∙ long

-- a `for` over the whole records of a buffer that has had the turns of ys
module _ (w : ℕ) (big : 0 < w) (l : List ℕ) (s : ChunksExact ℕ) (rest : chunks_exact_rest s ≡ l)
    (size : chunks_exact_size s ≡ w) (ys : List (Bor (List ℕ))) (t u : ChunksExact ℕ)
    (had : Yields chunks_exact_steps s ys t) (r : Option (Bor (List ℕ))) (next : chunks_exact_steps t r u) where
  given : YieldsList chunks_exact_steps (λ (y : Bor (List ℕ)). y.now) s (rows w (length l / w) l)
  given = YieldsList-from_chunks w big (length l / w) l rest size refl

  -- which record the next turn has
  pub record_turn : (x : Bor (List ℕ)) → r ≡ Some x →
      (length ys < length l / w) × (x.now ≡ take w (drop (w * length ys) l))
  record_turn x e =
      let k = length ys in
      let turn = YieldsList-turn given ys t had r u x e next in
      let here : k < length l / w = omega (arith, turn.0, length-rows w (length l / w) l) in
      (here, turn.1 ∙ row_in w (length l / w) l k x.now here)

  -- there is none: it has had all
  pub records_end : r ≡ None → length ys ≡ length l / w
  records_end e = (YieldsList-end given ys t had r u e next).1 ∙ length-rows w (length l / w) l

-- over two lists side by side, of which the second may be longer
pub all_pairs : {X Y : Type 0} (p : ℕ → Bool) (t : X × Y → Bool) (d : X × Y) (n : ℕ) (xs : List X) (ys : List Y)
    → length xs ≡ n → n ≤ length ys → ((j : ℕ) → j < n → t (get_or xs j d.0, get_or ys j d.1) ≡ p j)
    → list_all t (zip xs ys) ≡ all p n
all_pairs p t d n xs ys e long same = list_all_places p t d n (zip xs ys)
    (length-zip xs ys ∙ ap (λ (m : ℕ). min m (length ys)) e ∙ min-eq_left long)
    (λ j l. ap t (get_or-zip xs ys j d (omega (arith, e)) (omega arith)) ∙ same j l)

-- what `all` answers over the numbers from 0 on, and over the whole records of a buffer: p is the test of a place, t
-- that of a record
module _ {F : Type 0} {f : F} {r : Bool} (p : ℕ → Bool) where
  pub all_over_range : {g : Mut F (ℕ × Unit {0}) Bool} {s u : Range ℕ} (n : ℕ)
      → (xs : List ℕ) × (o : Option ℕ) × (j : F) × YieldsThen nat_range_steps s xs o u
      × FoldsTo (λ a x b. Called g a (x, tt) true b) f xs j
      × MatchOption o (r ≡ true) (λ x. (r ≡ false) × ((h : F) × Called g j (x, tt) false h))
      → s ≡ record { start = 0; end = n }
      → ((x : ℕ) (b : Bool) (q : F) → Called g f (x, tt) b q → (q ≡ f) × (b ≡ p x))
      → r ≡ all p n
  all_over_range {g} {s} {u} n ran e calls =
      all_from_yields_List p u f r ran (YieldsList-from_range 0 n n e (sub-zero n)) calls ∙ all_range p n

  pub all_over_records : {g : Mut F (Bor (List ℕ) × Unit {0}) Bool} {s u : ChunksExact ℕ} (t : List ℕ → Bool)
      → (w : ℕ) (l : List ℕ)
      → 0 < w
      → (xs : List (Bor (List ℕ))) × (o : Option (Bor (List ℕ))) × (j : F) × YieldsThen chunks_exact_steps s xs o u
      × FoldsTo (λ a x b. Called g a (x, tt) true b) f xs j
      × MatchOption o (r ≡ true) (λ x. (r ≡ false) × ((h : F) × Called g j (x, tt) false h))
      → chunks_exact_rest s ≡ l → chunks_exact_size s ≡ w
      → ((x : Bor (List ℕ)) (b : Bool) (q : F) → Called g f (x, tt) b q → (q ≡ f) × (b ≡ t x.now))
      → ((j : ℕ) → j < length l / w → t (take w (drop (w * j) l)) ≡ p j)
      → r ≡ all p (length l / w)
  all_over_records {g} {s} {u} t w l big ran e z calls same =
      all_from_yields_List t u f r ran (YieldsList-from_chunks w big (length l / w) l e z refl) calls
      ∙ all_rows p t w (length l / w) l same

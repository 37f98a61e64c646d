-- Records packed in place: those of the places that are hit move to the front of a buffer whose other records are
-- zeros; how many places are hit; and what their entries are. Assumes nothing.
use Rattle.wire.proofs.Usual.{◌≡◌, refl, sym, ap, ap₂, ◌∙◌, Bool, true, false, cond, not, ◌&&◌, List, []}
use Rattle.wire.proofs.Usual.{◌++◌, append-nil, ℕ_discrete}
use Rattle.wire.proofs.Usual.{ℕ, zero, suc, ◌+◌, ◌-◌, ◌*◌, ◌<◌, ◌≤◌, zero-add, arith, length, take, drop}
use Rattle.wire.proofs.Usual.{replicate, length-append, length-replicate, length-drop, sets}
use mathlib.Core.List.{append_assoc}
use native.Mathlib.Nat.{suc-sub-suc, zero-sub, sub-zero, add-zero, mul-zero, mul-suc, mul-le-mul_left, not-suc-le-zero}
use native.Mathlib.Numerals.{add-one}
use borrow.Author.Tests.{not-false}
use lib.ListN.{replicate-append-replicate, take-append-drop}
use lib.Seq.{sets-eq, take_at, drop_at, drop-append-add, drop-append-le, drop-drop, drop-length, take_all}
use Rattle.wire.specs.Packed.{entries, hits, packed}
use Rattle.wire.proofs.Records.{apart}
use Rattle.wire.proofs.Stores.{part_front}

drop-replicate : (j m a : ℕ) → drop j (replicate m a) ≡ replicate (m - j) a
drop-replicate zero m a = ap (λ (k : ℕ). replicate k a) (sym (sub-zero m))
drop-replicate (suc j) zero a = ap (λ (k : ℕ). replicate k a) (sym (zero-sub (suc j)))
drop-replicate (suc j) (suc m) a = drop-replicate j m a ∙ ap (λ (k : ℕ). replicate k a) (sym (suc-sub-suc m j))

-- a run of stores right after p
sets_after : (p q v : List ℕ) → length v ≤ length q → sets (p ++ q) (length p) v ≡ p ++ v ++ drop (length v) q
sets_after p q v l =
    sets-eq v (p ++ q) (length p) (simp length-append (omega arith))
    ∙ ap₂ (λ (x y : List ℕ). x ++ v ++ y) (take_at p q (length p) refl) (drop-append-add p q (length v))

-- What a loop over the places keeps: the first b are packed, k of them were hit; the rest of the buffer is as it was,
-- s.
pub record Kept (w : ℕ) (hit : ℕ → Bool) (f : ℕ → List ℕ) (s buffer : List ℕ) (k b : ℕ) : Type 0 where
  pub few : k ≤ b
  pub count : k ≡ hits b hit
  pub size : length (entries b hit f) ≡ w * k
  pub list : buffer ≡ packed (w * b) b hit f ++ drop (w * b) s

-- a run of stores over a whole buffer
pub sets_whole : (v l : List ℕ) → length v ≡ length l → sets l 0 v ≡ v
sets_whole v l e =
    sets-eq v l 0 (omega arith) ∙ ap (λ (t : List ℕ). v ++ t)
    (ap (λ (k : ℕ). drop k l) (zero-add (length v) ∙ e) ∙ drop-length l) ∙ append-nil v

module _ (w : ℕ) (hit : ℕ → Bool) (f : ℕ → List ℕ) where
  entries_hit : (b : ℕ) → hit b ≡ true → entries (b + 1) hit f ≡ entries b hit f ++ f b
  unfolding entries
  entries_hit b e =
      ap (λ (k : ℕ). entries k hit f) (add-one b) ∙ ap (λ (t : Bool). entries b hit f ++ cond t (f b) []) e

  entries_miss : (b : ℕ) → hit b ≡ false → entries (b + 1) hit f ≡ entries b hit f
  unfolding entries
  entries_miss b e =
      ap (λ (k : ℕ). entries k hit f) (add-one b) ∙ ap (λ (t : Bool). entries b hit f ++ cond t (f b) []) e
      ∙ append-nil (entries b hit f)

  hits_is : (b : ℕ) (t : Bool) → hit b ≡ t → hits (b + 1) hit ≡ hits b hit + cond t 1 0
  unfolding hits
  hits_is b t e = ap (λ (k : ℕ). hits k hit) (add-one b) ∙ ap (λ (t : Bool). hits b hit + cond t 1 0) e

  -- the part of the buffer that is packed
  zeros : ℕ → ℕ → List ℕ
  zeros k b = replicate (w * b - w * k) 0

  front : (s buffer : List ℕ) (k b : ℕ) → Kept w hit f s buffer k b →
      buffer ≡ entries b hit f ++ zeros k b ++ drop (w * b) s
  unfolding packed zeros
  front s buffer k b h =
      h.list ∙ ap (λ (m : ℕ). entries b hit f ++ replicate (w * b - m) 0 ++ drop (w * b) s) h.size

  pub kept_start : (s : List ℕ) → Kept w hit f s s 0 0
  unfolding hits entries packed
  kept_start s = record {
    few = omega arith;
    count = refl;
    size = sym (mul-zero w);
    list = sym (ap (λ (m : ℕ). replicate (m - 0) 0 ++ drop m s) (mul-zero w));
  }

  -- the numbers of bytes that are packed, in the places before b and in those before b + 1
  next : (b : ℕ) → w * (b + 1) ≡ w * b + w
  next b = ap (λ (j : ℕ). w * j) (add-one b) ∙ mul-suc w b

  more_zeros : (k b : ℕ) → k ≤ b → zeros k b ++ replicate w 0 ≡ zeros k (b + 1)
  unfolding zeros
  more_zeros k b l =
      let sum : w * b - w * k + w ≡ w * (b + 1) - w * k = omega (arith, next b, mul-le-mul_left w l) in
      replicate-append-replicate (w * b - w * k) w 0 ∙ ap (λ (m : ℕ). replicate m 0) sum

  module _ (s buffer : List ℕ) (k b : ℕ) (h : Kept w hit f s buffer k b) where
    packed_long : length (entries b hit f ++ zeros k b) ≡ w * b
    unfolding zeros
    packed_long =
        length-append (entries b hit f) (zeros k b)
        ∙ omega (arith, h.size, length-replicate {A = ℕ} (w * b - w * k) 0, mul-le-mul_left w h.few)

  module _ (s buffer : List ℕ) (k b : ℕ) (h : Kept w hit f s buffer k b) (room : w * (b + 1) ≤ length s) where
    long_packed : length (entries b hit f ++ zeros k b) ≡ w * b
    long_packed = packed_long s buffer k b h

    -- the rest of s is the record of place b and what comes after it
    rest : drop (w * b) s ≡ take w (drop (w * b) s) ++ drop (w * (b + 1)) s
    rest =
        sym (take-append-drop w (drop (w * b) s))
        ∙ ap (λ (t : List ℕ). take w (drop (w * b) s) ++ t)
        (drop-drop w (w * b) s ∙ ap (λ (j : ℕ). drop j s) (sym (next b)))

    -- the record of place b still stands
    pub kept_slot : drop (w * b) buffer ≡ drop (w * b) s
    kept_slot =
        ap (drop (w * b)) (front s buffer k b h)
        ∙ drop_at (entries b hit f ++ zeros k b) (drop (w * b) s) (w * b) long_packed

    pub kept_miss : hit b ≡ false → take w (drop (w * b) s) ≡ replicate w 0 → Kept w hit f s buffer k (b + 1)
    unfolding packed zeros
    kept_miss e z = record {
      few = omega (arith, h.few);
      count = h.count ∙ sym (hits_is b false e ∙ add-zero (hits b hit));
      size = ap length (entries_miss b e) ∙ h.size;
      list =
          front s buffer k b h
          ∙ ap (λ (t : List ℕ). entries b hit f ++ zeros k b ++ t)
          (rest ∙ ap (λ (t : List ℕ). t ++ drop (w * (b + 1)) s) z)
          ∙ sym (append_assoc (entries b hit f ++ zeros k b) (replicate w 0) (drop (w * (b + 1)) s))
          ∙ ap (λ (t : List ℕ). t ++ drop (w * (b + 1)) s)
          (append_assoc (entries b hit f) (zeros k b) (replicate w 0)
          ∙ ap (λ (t : List ℕ). entries b hit f ++ t) (more_zeros k b h.few))
          ∙ ap (λ (m : ℕ). entries b hit f ++ replicate (w * (b + 1) - m) 0 ++ drop (w * (b + 1)) s)
          (sym h.size)
          ∙ ap (λ (t : List ℕ). t ++ replicate (w * (b + 1) - length t) 0 ++ drop (w * (b + 1)) s)
          (sym (entries_miss b e));
    }

    -- place b's record is cleared
    cleared : sets buffer (w * b) (replicate w 0) ≡ entries b hit f ++ (zeros k (b + 1) ++ drop (w * (b + 1)) s)
    unfolding zeros
    cleared =
        let w-zeros = length-replicate {A = ℕ} w 0 in
        ap (λ (t : List ℕ). sets t (w * b) (replicate w 0)) (front s buffer k b h)
        ∙ ap (λ (j : ℕ). sets (entries b hit f ++ zeros k b ++ drop (w * b) s) j (replicate w 0)) (sym long_packed)
        ∙ sets_after (entries b hit f ++ zeros k b) (drop (w * b) s) (replicate w 0)
        (omega (arith, w-zeros, length-drop (w * b) s, next b))
        ∙ ap (λ (t : List ℕ). entries b hit f ++ zeros k b ++ replicate w 0 ++ t)
        (ap (λ (j : ℕ). drop j (drop (w * b) s)) w-zeros ∙ drop-drop w (w * b) s
        ∙ ap (λ (j : ℕ). drop j s) (sym (next b)))
        ∙ ap (λ (t : List ℕ). t ++ drop (w * (b + 1)) s)
        (append_assoc (entries b hit f) (zeros k b) (replicate w 0)
        ∙ ap (λ (t : List ℕ). entries b hit f ++ t) (more_zeros k b h.few))
        ∙ append_assoc (entries b hit f) (zeros k (b + 1)) (drop (w * (b + 1)) s)

    -- and written after the others
    pub kept_hit : hit b ≡ true → length (f b) ≡ w →
        Kept w hit f s (sets (sets buffer (w * b) (replicate w 0)) (w * k) (f b)) (k + 1) (b + 1)
    unfolding packed zeros
    kept_hit e long = record {
      few = omega (arith, h.few);
      count = ap (λ (n : ℕ). n + 1) h.count ∙ sym (hits_is b true e);
      size = ap length (entries_hit b e) ∙ length-append (entries b hit f) (f b)
          ∙ omega (arith, h.size, long, next k);
      list =
          ap (λ (t : List ℕ). sets t (w * k) (f b)) cleared
          ∙ ap (λ (j : ℕ). sets (entries b hit f ++ (zeros k (b + 1) ++ drop (w * (b + 1)) s)) j (f b))
          (sym h.size)
          ∙ sets_after (entries b hit f) (zeros k (b + 1) ++ drop (w * (b + 1)) s) (f b) fits
          ∙ ap (λ (t : List ℕ). entries b hit f ++ f b ++ t)
          (after_zeros ∙ ap (λ (m : ℕ). replicate m 0 ++ drop (w * (b + 1)) s) count_left)
          ∙ sym (append_assoc (entries b hit f ++ f b) (replicate (w * (b + 1) - length (entries b hit f ++ f b)) 0)
          (drop (w * (b + 1)) s))
          ∙ ap (λ (t : List ℕ). t ++ replicate (w * (b + 1) - length t) 0 ++ drop (w * (b + 1)) s)
          (sym (entries_hit b e));
    }
      where
        many : length (zeros k (b + 1)) ≡ w * (b + 1) - w * k
        many = length-replicate {A = ℕ} (w * (b + 1) - w * k) 0

        fits : length (f b) ≤ length (zeros k (b + 1) ++ drop (w * (b + 1)) s)
        fits = simp length-append (omega (arith, many, long, next b, mul-le-mul_left w h.few))

        after_zeros : drop (length (f b)) (zeros k (b + 1) ++ drop (w * (b + 1)) s)
            ≡ replicate (w * (b + 1) - w * k - length (f b)) 0 ++ drop (w * (b + 1)) s
        after_zeros =
            drop-append-le (length (f b)) (zeros k (b + 1)) (drop (w * (b + 1)) s)
            (omega (arith, many, long, next b, mul-le-mul_left w h.few))
            ∙ ap (λ (t : List ℕ). t ++ drop (w * (b + 1)) s)
            (drop-replicate (length (f b)) (w * (b + 1) - w * k) 0)

        count_left : w * (b + 1) - w * k - length (f b) ≡ w * (b + 1) - length (entries b hit f ++ f b)
        count_left = omega (arith, h.size, length-append (entries b hit f) (f b))

-- what is packed depends on the places that are hit alone
entries_same : (n : ℕ) (hit hit' : ℕ → Bool) (f f' : ℕ → List ℕ) →
    ((b : ℕ) → b < n → hit b ≡ hit' b) →
    ((b : ℕ) → b < n → hit' b ≡ true → f b ≡ f' b) →
    entries n hit f ≡ entries n hit' f'
unfolding entries
entries_same zero hit hit' f f' p q = refl
entries_same (suc n) hit hit' f f' p q =
    ap₂ (λ (x y : List ℕ). x ++ y) (entries_same n hit hit' f f' (λ b l. p b (omega arith))
    (λ b l. q b (omega arith)))
    (ap (λ (t : Bool). cond t (f n) []) (p n (omega arith)) ∙ last (hit' n) refl)
  where
    last : (t : Bool) → hit' n ≡ t → cond t (f n) [] ≡ cond t (f' n) []
    last true e = q n (omega arith) e
    last false e = refl

pub packed_same : (size n : ℕ) (hit hit' : ℕ → Bool) (f f' : ℕ → List ℕ) →
    ((b : ℕ) → b < n → hit b ≡ hit' b) →
    ((b : ℕ) → b < n → hit' b ≡ true → f b ≡ f' b) →
    packed size n hit f ≡ packed size n hit' f'
unfolding packed
packed_same size n hit hit' f f' p q =
    ap (λ (t : List ℕ). t ++ replicate (size - length t) 0) (entries_same n hit hit' f f' p q)

pub hits_same : (n : ℕ) (hit hit' : ℕ → Bool) → ((b : ℕ) → b < n → hit b ≡ hit' b) →
    hits n hit ≡ hits n hit'
unfolding hits
hits_same zero hit hit' p = refl
hits_same (suc n) hit hit' p =
    ap₂ (λ (x : ℕ) (t : Bool). x + cond t 1 0) (hits_same n hit hit' (λ b l. p b (omega arith)))
    (p n (omega arith))

-- where none is hit
pub hits_none : (n : ℕ) (hit : ℕ → Bool) → ((b : ℕ) → b < n → hit b ≡ false) → hits n hit ≡ 0
unfolding hits
hits_none zero hit p = refl
hits_none (suc n) hit p =
    ap₂ (λ (x : ℕ) (t : Bool). x + cond t 1 0) (hits_none n hit (λ b l. p b (omega arith))) (p n (omega arith))

entries_none : (n : ℕ) (hit : ℕ → Bool) (f : ℕ → List ℕ) →
    ((b : ℕ) → b < n → hit b ≡ false) → entries n hit f ≡ []
unfolding entries
entries_none zero hit f p = refl
entries_none (suc n) hit f p =
    ap₂ (λ (x : List ℕ) (t : Bool). x ++ cond t (f n) []) (entries_none n hit f (λ b l. p b (omega arith)))
    (p n (omega arith))

pub packed_none : (size n : ℕ) (hit : ℕ → Bool) (f : ℕ → List ℕ) →
    ((b : ℕ) → b < n → hit b ≡ false) →
    packed size n hit f ≡ replicate size 0
unfolding packed
packed_none size n hit f p =
    ap (λ (t : List ℕ). t ++ replicate (size - length t) 0) (entries_none n hit f p)
    ∙ ap (λ (k : ℕ). replicate k 0) (sub-zero size)

-- ---- how many are hit

pub one_most : (t : Bool) → cond t 1 0 ≤ 1
one_most true = omega arith
one_most false = omega arith

pub hits_most : (n : ℕ) (hit : ℕ → Bool) → hits n hit ≤ n
unfolding hits
hits_most zero hit = omega arith
hits_most (suc n) hit = omega (arith, hits_most n hit, one_most (hit n))

pub hits_zero : (n : ℕ) (hit : ℕ → Bool) → hits n hit ≡ 0 → (b : ℕ) → b < n → hit b ≡ false
unfolding hits
hits_zero zero hit e b l = absurd (not-suc-le-zero l)
hits_zero (suc n) hit e b l = go (ℕ_discrete b n) (hit n) refl (λ m. hits_zero n hit (omega (arith, e)) b m)
  where
    go : Dec (b ≡ n) → (t : Bool) → hit n ≡ t → (b < n → hit b ≡ false) → hit b ≡ false
    go (yes q) false h w = ap hit q ∙ h
    go (yes q) true h w = let one : ◌≡◌ {A = ℕ} (cond (hit n) 1 0) 1 = rw h in absurd (omega (arith, e, one))
    go (no q) t h w = w (omega (arith, q))

-- one place more
pub hits_more : (n : ℕ) (hit : ℕ → Bool) → hits (n + 1) hit ≡ hits n hit + cond (hit n) 1 0
unfolding hits
hits_more n hit = ap (λ (k : ℕ). hits k hit) (add-one n)

-- fewer are hit where more is asked
pub hits_part : (n : ℕ) (hit also : ℕ → Bool) → hits n (λ k. hit k && also k) ≤ hits n hit
unfolding hits
hits_part zero hit also = omega arith
hits_part (suc n) hit also = omega (arith, hits_part n hit also, fewer (hit n) (also n))
  where
    fewer : (t u : Bool) → cond (t && u) 1 0 ≤ cond t 1 0
    fewer true u = one_most u
    fewer false u = omega arith

-- every place is hit
pub hits_every : (n : ℕ) → hits n (λ k. true) ≡ n
unfolding hits
hits_every zero = refl
hits_every (suc n) = ap (λ (k : ℕ). k + 1) (hits_every n) ∙ add-one n

-- ---- the entries of places that each have w bytes

module _ (w : ℕ) (hit : ℕ → Bool) (f : ℕ → List ℕ) where
  pub entries-length : (n : ℕ) → ((b : ℕ) → b < n → length (f b) ≡ w) →
      length (entries n hit f) ≡ w * hits n hit
  unfolding entries hits
  entries-length zero long = sym (mul-zero w)
  entries-length (suc n) long =
      length-append (entries n hit f) (cond (hit n) (f n) [])
      ∙ go (entries-length n (λ b l. long b (omega arith))) (hit n)
    where
      go : length (entries n hit f) ≡ w * hits n hit → (t : Bool) →
          length (entries n hit f) + length (cond t (f n) []) ≡ w * (hits n hit + cond t 1 0)
      go e true = omega (arith, e, long n (omega arith), next w hit f (hits n hit))
      go e false = omega (arith, e, ap (λ (k : ℕ). w * k) (add-zero (hits n hit)))

  -- a test holds of as many entries as there are places that are hit and of which it holds
  pub entries-hits : (p : List ℕ → Bool) (n : ℕ) → ((b : ℕ) → b < n → length (f b) ≡ w) →
      hits (hits n hit) (λ k. p (take w (drop (w * k) (entries n hit f)))) ≡ hits n (λ k. hit k && p (f k))
  unfolding entries hits
  entries-hits p zero long = refl
  entries-hits p (suc n) long = go (entries-hits p n (λ b l. long b (omega arith))) (hit n)
    where
      before : List ℕ
      before = entries n hit f

      size : length before ≡ w * hits n hit
      size = entries-length n (λ b l. long b (omega arith))

      same : (k : ℕ) → k < hits n hit →
          p (take w (drop (w * k) (before ++ f n))) ≡ p (take w (drop (w * k) before))
      same k l = ap p (part_front before (f n) (w * k) w (omega (arith, size, apart w k (hits n hit) l)))

      last : take w (drop (w * hits n hit) (before ++ f n)) ≡ f n
      last = ap (take w) (drop_at before (f n) (w * hits n hit) size)
          ∙ take_all w (f n) (omega (arith, long n (omega arith)))

      go : hits (hits n hit) (λ k. p (take w (drop (w * k) before))) ≡ hits n (λ k. hit k && p (f k)) →
          (t : Bool) →
          hits (hits n hit + cond t 1 0) (λ k. p (take w (drop (w * k) (before ++ cond t (f n) []))))
          ≡ hits n (λ k. hit k && p (f k)) + cond (t && p (f n)) 1 0
      go e true =
          hits_more (hits n hit) (λ k. p (take w (drop (w * k) (before ++ f n))))
          ∙ ap₂ (λ (x : ℕ) (t : Bool). x + cond t 1 0) (hits_same (hits n hit) _ _ same ∙ e) (ap p last)
      go e false =
          ap₂ (λ (m : ℕ) (s : List ℕ). hits m (λ k. p (take w (drop (w * k) s)))) (add-zero (hits n hit))
          (append-nil before)
          ∙ e ∙ sym (add-zero (hits n (λ k. hit k && p (f k))))

  -- and so one that holds of each place that is hit holds of every entry
  pub entries_each : (p : List ℕ → Bool) (n : ℕ) → ((b : ℕ) → b < n → length (f b) ≡ w) →
      ((b : ℕ) → b < n → hit b ≡ true → p (f b) ≡ true) →
      (k : ℕ) → k < hits n hit → p (take w (drop (w * k) (entries n hit f))) ≡ true
  entries_each p n long good k l =
      not-false _
      (hits_zero (hits n hit) (λ j. not (p (take w (drop (w * j) (entries n hit f)))))
      (entries-hits (λ x. not (p x)) n long ∙ hits_none n _ (λ b m. go b m (hit b) refl)) k l)
    where
      go : (b : ℕ) → b < n → (t : Bool) → hit b ≡ t → hit b && not (p (f b)) ≡ false
      go b m true e = rw (e, good b m e)
      go b m false e = rw e

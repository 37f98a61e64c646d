-- What the loops over the blocks and over the groups keep: the marks of groups with a block in ERROR, and the groups'
-- new bytes and phases. Assumes nothing.
use Rattle.wire.proofs.Usual.{◌≡◌, refl, sym, ap, ap₂, ◌∙◌, Bool, true, false, not, ◌&&◌, List, [], ◌∷◌, ◌++◌}
use Rattle.wire.proofs.Usual.{ℕ, zero, suc, ◌+◌, ◌-◌, ◌≤◌, ◌<◌, zero-add, ℕ_discrete, dec_lt, arith, eqb, length}
use Rattle.wire.proofs.Usual.{set, drop, replicate, length-append, length-drop, eq-eqb, ne_eqb}
use native.Mathlib.Nat.{not-suc-le-zero, le_of_suc-le-suc}
use lib.ListN.{get_or, length-set, get_or-replicate, get_or-append}
use lib.Seq.{get_or-set_same, get_or-set_other, get_or-append-add, get_or-drop, ext_get_or}
use Rattle.wire.specs.Words.{byte_at}
use Rattle.wire.specs.Records.{gather}
use Rattle.wire.specs.Places.{all}
use Rattle.wire.proofs.Places.{all_more, all_true}
use Rattle.kind.specs.Devices.{is_err_ack}
use Rattle.project.specs.Project.{device, group_of, block_count, head_size}
use Rattle.block.specs.State.{only_if, is_error}
use Rattle.evaluator.specs.Groups.{control_byte, erred_in, has_error, pends, group_next, group_from, phase_of}
use Rattle.evaluator.specs.State.{groups_at, state_head, group_byte, cell}
use Rattle.evaluator.specs.Asks.{error_list, says_error, group_with}

-- ---- a list of n numbers

pub row-length : (n : ℕ) (f : ℕ → ℕ) → length (gather n (λ k. f k ∷ [])) ≡ n
unfolding gather
row-length zero f = refl
row-length (suc n) f = ap suc (row-length n (λ k. f (suc k)))

pub row_at_is : (n : ℕ) (f : ℕ → ℕ) (k : ℕ) → k < n → get_or (gather n (λ k. f k ∷ [])) k 0 ≡ f k
unfolding gather
row_at_is zero f k l = absurd (not-suc-le-zero l)
row_at_is (suc n) f zero l = refl
row_at_is (suc n) f (suc k) l = row_at_is n (λ k. f (suc k)) k (le_of_suc-le-suc l)

pub row_is : (n : ℕ) (f : ℕ → ℕ) (s : List ℕ) → length s ≡ n →
    ((k : ℕ) → k < n → get_or s k 0 ≡ f k) →
    s ≡ gather n (λ k. f k ∷ [])
row_is n f s e h =
    ext_get_or 0 s (gather n (λ k. f k ∷ [])) (e ∙ sym (row-length n f))
    (λ k l. h k (rw e at l) ∙ sym (row_at_is n f k (rw e at l)))

-- ---- the groups with a block in ERROR

and-true : (a : Bool) → a && true ≡ a
and-true true = refl
and-true false = refl

and_false : (a : Bool) → a && false ≡ false
and_false true = refl
and_false false = refl

-- some of the first k blocks is of group g and in ERROR
unfoldable pub erred_below : ℕ → List ℕ → List ℕ → ℕ → ℕ → Bool
erred_below h B S g k = not (all (λ b. not (erred_in h B S g b)) k)

module _ (h : ℕ) (B S : List ℕ) (g b : ℕ) where
  before : Bool
  before = all (λ b. not (erred_in h B S g b)) b

  more : (t : Bool) → erred_in h B S g b ≡ t → erred_below h B S g (b + 1) ≡ not (before && not t)
  unfolding erred_below before
  more t e = ap not (all_more (λ b. not (erred_in h B S g b)) b) ∙ ap (λ (u : Bool). not (before && not u)) e

  more_not : erred_in h B S g b ≡ false → erred_below h B S g (b + 1) ≡ erred_below h B S g b
  unfolding erred_below before
  more_not e = more false e ∙ ap not (and-true before)

  more_yes : erred_in h B S g b ≡ true → erred_below h B S g (b + 1) ≡ true
  more_yes e = more true e ∙ ap not (and_false before)

pub record Marked (h : ℕ) (B S marks : List ℕ) (k : ℕ) : Type 0 where
  pub long : length marks ≡ 8
  pub each : (g : ℕ) → g < 8 → get_or marks g 0 ≡ only_if (erred_below h B S g k) 1

module _ (h : ℕ) (B S : List ℕ) where
  pub marked_start : Marked h B S (replicate 8 0) 0
  unfolding erred_below
  marked_start = record {
    long = refl;
    each = λ g l.
        get_or-replicate 8 g 0 0 l
        ∙ ap (λ (t : Bool). only_if (not t) 1)
        (sym (all_true (λ b. not (erred_in h B S g b)) 0 (λ j q. absurd (not-suc-le-zero q))));
  }

  module _ (marks : List ℕ) (b : ℕ) (m : Marked h B S marks b) where
    pub marked_miss : is_error (cell h S b) ≡ false → Marked h B S marks (b + 1)
    unfolding erred_in
    marked_miss n = record {
      long = m.long;
      each = λ g l.
          m.each g l
          ∙ ap (λ (t : Bool). only_if t 1)
          (sym (more_not h B S g b (ap (λ (t : Bool). eqb (group_of B b) g && t) n
          ∙ and_false (eqb (group_of B b) g))));
    }

    pub marked_hit : is_error (cell h S b) ≡ true → group_of B b < 8 →
        Marked h B S (set marks (group_of B b) 1) (b + 1)
    unfolding erred_in
    marked_hit e l = record {
      long = length-set marks (group_of B b) 1 ∙ m.long;
      each = λ g q. go g q (ℕ_discrete g (group_of B b));
    }
      where
        go : (g : ℕ) → g < 8 → Dec (g ≡ group_of B b) →
            get_or (set marks (group_of B b) 1) g 0 ≡ only_if (erred_below h B S g (b + 1)) 1
        go g q (yes d) =
            ap (λ (k : ℕ). get_or (set marks (group_of B b) 1) k 0) d
            ∙ get_or-set_same marks (group_of B b) 1 0 (omega (arith, m.long))
            ∙ ap (λ (t : Bool). only_if t 1)
            (sym (more_yes h B S g b (ap₂ (λ (t u : Bool). t && u) (eq-eqb (group_of B b) g (sym d)) e)))
        go g q (no d) =
            get_or-set_other marks (group_of B b) g 1 0 d ∙ m.each g q
            ∙ ap (λ (t : Bool). only_if t 1)
            (sym (more_not h B S g b
            (ap (λ (t : Bool). t && is_error (cell h S b)) (ne_eqb (group_of B b) g (λ x. d (sym x))))))

  pub marked_end : (marks : List ℕ) → Marked h B S marks (block_count B) → marks ≡ error_list h B S
  unfolding error_list has_error erred_below
  marked_end marks m = row_is 8 (λ g. only_if (has_error h B S g) 1) marks m.long m.each

-- ---- the groups decide

flag : (t : Bool) → eqb (only_if t 1) 1 ≡ t
flag true = refl
flag false = refl

-- what the list of groups with an error says of group g
pub error_at : (h : ℕ) (B S : List ℕ) (g : ℕ) → g < 8 → eqb (byte_at (error_list h B S) g) 1
    ≡ has_error h B S g
unfolding error_list
error_at h B S g l =
    ap (λ (k : ℕ). eqb k 1) (row_at_is 8 (λ g. only_if (has_error h B S g) 1) g l) ∙ flag (has_error h B S g)

-- S₀ is the state before; S and H are the state and the phases as they stand when the groups below g have decided
pub record Deciding (E G R S₀ : List ℕ) (h : ℕ) (S H : List ℕ) (g : ℕ) : Type 0 where
  pub within : g ≤ h
  pub long : length S ≡ length S₀
  pub done : (j : ℕ) → j < g → group_byte S j ≡ group_with E G R S₀ j
  pub left : (j : ℕ) → groups_at + g ≤ j → get_or S j 0 ≡ get_or S₀ j 0
  pub wide : length H ≡ 8
  pub told : (j : ℕ) → j < g → byte_at H j ≡ phase_of G R (group_with E G R S₀ j) j

-- one more of the bytes from a on
next_set : (a g : ℕ) (f : ℕ → ℕ) (T : List ℕ) (v : ℕ) → a + g < length T → v ≡ f g →
    ((j : ℕ) → j < g → get_or T (a + j) 0 ≡ f j) → (j : ℕ) → j < g + 1 →
    get_or (set T (a + g) v) (a + j) 0 ≡ f j
next_set a g f T v q e k j m = go (ℕ_discrete j g)
  where
    go : Dec (j ≡ g) → get_or (set T (a + g) v) (a + j) 0 ≡ f j
    go (yes x) = ap (λ (i : ℕ). get_or (set T (a + g) v) (a + i) 0) x ∙ get_or-set_same T (a + g) v 0 q
        ∙ e ∙ ap f (sym x)
    go (no x) = get_or-set_other T (a + g) (a + j) v 0 (λ y. x (omega (arith, y))) ∙ k j (omega (arith, x))

module _ (E G R S₀ : List ℕ) (h : ℕ) where
  -- group g decides; its byte of the record is v, x its mark
  module _ (S H : List ℕ) (g : ℕ) (d : Deciding E G R S₀ h S H g) (l : g < h) (few : h ≤ 8)
      (room : state_head h ≤ length S₀) where
    pub new_is : (c v x new : ℕ) (pend ack : Bool) → c ≡ device G → v ≡ byte_at R (head_size + g) →
        x ≡ byte_at E g →
        pend ≡ pends c v (eqb x 1) → ack ≡ is_err_ack v → new ≡ group_next pend ack (group_byte S g) →
        new ≡ group_with E G R S₀ g
    unfolding group_from
    new_is c v x new pend ack ec ev ex ep ea en =
        let pending : pend ≡ pends (device G) (control_byte R g) (says_error E g) =
        ep ∙ (λ i. pends (ec i) (ev i) (eqb (ex i) 1))
        in
        en ∙ (λ i. group_next (pending i) ((ea ∙ ap is_err_ack ev) i) (d.left (groups_at + g) (omega arith) i))

    pub deciding_turn : (new ph : ℕ) → new ≡ group_with E G R S₀ g →
        ph ≡ phase_of G R (group_with E G R S₀ g) g →
        Deciding E G R S₀ h (set S (groups_at + g) new) (set H g ph) (g + 1)
    deciding_turn new ph en ep = record {
      within = omega arith;
      long = length-set S (groups_at + g) new ∙ d.long;
      done = next_set groups_at g (group_with E G R S₀) S new (omega (arith, d.long)) en d.done;
      left = λ j q. get_or-set_other S (groups_at + g) j new 0 (omega arith) ∙ d.left j (omega arith);
      wide = length-set H g ph ∙ d.wide;
      told = λ j m.
          ap (λ (k : ℕ). byte_at (set H k ph) j) (sym (zero-add g)) ∙ ap (byte_at (set H (0 + g) ph))
          (sym (zero-add j))
          ∙ next_set 0 g (λ g. phase_of G R (group_with E G R S₀ g) g) H ph (omega (arith, d.wide)) ep
          (λ k q. ap (byte_at H) (zero-add k) ∙ d.told k q) j m;
    }

  pub deciding_state : (S H : List ℕ) → state_head h ≤ length S₀ → Deciding E G R S₀ h S H h →
      S ≡ gather h (λ g. group_with E G R S₀ g ∷ []) ++ drop (state_head h) S₀
  deciding_state S H room d =
      ext_get_or 0 S (row ++ drop (state_head h) S₀) (d.long ∙ sym whole) (λ j l. go j l (dec_lt j h))
    where
      row : List ℕ
      row = gather h (λ g. group_with E G R S₀ g ∷ [])

      long : length row ≡ h
      long = row-length h (group_with E G R S₀)

      whole : length (row ++ drop (state_head h) S₀) ≡ length S₀
      whole = length-append row (drop (state_head h) S₀) ∙ omega (arith, long, length-drop (state_head h) S₀)

      go : (j : ℕ) → j < length S → Dec (j < h) → get_or S j 0 ≡ get_or (row ++ drop (state_head h) S₀) j 0
      go j l (yes q) =
          ap (λ (k : ℕ). get_or S k 0) (sym (zero-add j)) ∙ d.done j q ∙ sym (row_at_is h (group_with E G R S₀) j q)
          ∙ sym (get_or-append row (drop (state_head h) S₀) 0 j (omega (arith, long)))
      go j l (no q) =
          let back : state_head h + (j - h) ≡ j = omega (arith, q) in
          d.left j (omega (arith, q)) ∙ ap (λ (k : ℕ). get_or S₀ k 0) (sym back)
          ∙ sym (get_or-drop (state_head h) S₀ (j - h) 0)
          ∙ sym (get_or-append-add row (drop (state_head h) S₀) (j - h) 0)
          ∙ ap (λ (k : ℕ). get_or (row ++ drop (state_head h) S₀) k 0) (omega (arith, long, back))

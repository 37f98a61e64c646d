-- One turn, from what the code read and left to what the definitions say of it. Assumes nothing.
use Rattle.wire.proofs.Usual.{◌≡◌, refl, sym, ap, ap₂, ◌∙◌, Bool, false, cond, List, ℕ, ◌+◌, ◌-◌, ◌*◌, ◌≤◌}
use Rattle.wire.proofs.Usual.{arith, length, sets}
use Rattle.std.specs.Prelude.{Option, Some, None}
use borrow.Rule.Slice.PartMut.{put_mid}
use Rattle.wire.specs.Records.{slot}
use Rattle.wire.proofs.Records.{slot_put_same}
use Rattle.wire.proofs.Stores.{stored}
use Rattle.kind.specs.Kinds.{family_of}
use Rattle.kind.specs.Devices.{is_err_ack}
use Rattle.kind.specs.declared.Family.{Family}
use Rattle.kind.specs.declared.Family.TheVariants.{Decouple, Twohand, Arithmetic}
use Rattle.project.specs.Project.{kind_of, parameters_of, group_of}
use Rattle.block.specs.State.{state_size, fresh_bytes, enters_from}
use Rattle.block.specs.Inputs.{bits_from, effective_mask, first_read_of, first_read, second_read_of, second_read}
use Rattle.block.specs.Step.{rest_bytes, decouple_bytes, twohand_bytes, arithmetic_bytes, read_bytes, asks_inputs}
use Rattle.block.specs.Finding.{finding_size, finding_of}
use Rattle.block.proofs.Steps.{reads, rests}
use Rattle.evaluator.specs.State.{state_head, cell}
use Rattle.evaluator.specs.Groups.{elapsed, control_byte}
use Rattle.evaluator.specs.Cycle.{turned_from, first_of, second_of, finding_for}
use Rattle.evaluator.specs.Asks.{Turning, Took, words_at, turned, entering, noted}
use Rattle.evaluator.proofs.Reading.{lent_from, cell_is}
use Rattle.evaluator.proofs.Running.{turned-length}

-- ---- what a turn leaves, where the block's bytes become `new` in place

-- nothing is noted of a block that does not enter ERROR
pub noted_not : (h : ℕ) (B R : List ℕ) (ph : ℕ) (S : List ℕ) (b : ℕ) (D : List ℕ) →
    entering h B R ph S b ≡ false → D ≡ noted h B R ph S b D
unfolding noted
noted_not h B R ph S b D e = rw e

module _ (h : ℕ) (B R : List ℕ) (ph : ℕ) (S : List ℕ) (b : ℕ) {at : ℕ} (p : at ≡ state_head h + state_size * b)
    (fits : at + state_size ≤ length S) {new : List ℕ} (e : new ≡ turned h B R ph S b) where
  long : length (turned h B R ph S b) ≡ state_size
  unfolding turned
  long = turned-length B R ph b _ _

  pub left_is : {T : List ℕ} → T ≡ sets (lent_from at S) 0 new →
      put_mid at (at + state_size - at) S T ≡ sets S (state_head h + state_size * b) (turned h B R ph S b)
  left_is {T} t =
      stored (turned h B R ph S b) S at state_size long fits T (t ∙ ap (sets (lent_from at S) 0) e)
      ∙ ap (λ (k : ℕ). sets S k (turned h B R ph S b)) p

  pub entering_is : {x : Bool} → x ≡ enters_from (lent_from at S) new → x ≡ entering h B R ph S b
  unfolding entering
  entering_is q = q ∙ ap₂ enters_from (cell_is h S b p) e

  -- what then stands there
  cell_left : {T : List ℕ} → T ≡ sets (lent_from at S) 0 new →
      cell h (put_mid at (at + state_size - at) S T) b ≡ turned h B R ph S b
  unfolding cell
  cell_left t =
      ap (slot (state_head h) state_size b) (left_is t)
      ∙ slot_put_same (state_head h) state_size b (turned h B R ph S b) S long (omega (arith, p, fits))

  -- the turn of a block that read v and w, where its step answered x and its finding is noted by that
  pub took : {D D' T : List ℕ} {v w : ℕ} {x : Bool} → T ≡ sets (lent_from at S) 0 new →
      x ≡ enters_from (lent_from at S) new →
      v ≡ first_of B b (words_at h B R S b) → w ≡ second_of B b (words_at h B R S b) →
      D' ≡ cond x (sets D (finding_size * b) (finding_of b (group_of B b) (kind_of B b) v w
      (cell h (put_mid at (at + state_size - at) S T) b))) D →
      Took h B R ph S (put_mid at (at + state_size - at) S T) D D' b x
  unfolding noted finding_for
  took {D} t q ev ew d = record {
    left = left_is t;
    told =
        d
        ∙ (λ i. cond (entering_is q i)
        (sets D (finding_size * b)
        (finding_of b (group_of B b) (kind_of B b) (ev i) (ew i) (cell_left t i)))
        D);
    answered = entering_is q;
  }

  -- one in which the block does not enter ERROR
  pub took_quietly : {D T : List ℕ} → T ≡ sets (lent_from at S) 0 new → false ≡ enters_from (lent_from at S) new →
      Took h B R ph S (put_mid at (at + state_size - at) S T) D D b false
  took_quietly {D} t q = record {
    left = left_is t;
    told = noted_not h B R ph S b D (sym (entering_is q));
    answered = entering_is q;
  }

-- ---- a block that asks for its inputs

module _ {h : ℕ} {B R S : List ℕ} {b ph : ℕ} (t : Turning h B R S b ph) where
  -- its family's step, on the two words that it reads
  turned_read : (x y : ℕ) → x ≡ first_of B b (words_at h B R S b) → y ≡ second_of B b (words_at h B R S b) →
      (f : Option Family) → family_of (kind_of B b) ≡ f →
      read_bytes f (kind_of B b) (parameters_of B b) ph (elapsed R) x y (cell h S b) ≡ turned h B R ph S b
  unfolding turned turned_from
  turned_read x y ex ey f ef =
      (λ i. read_bytes (sym ef i) (kind_of B b) (parameters_of B b) ph (elapsed R) (ex i) (ey i) (cell h S b))
      ∙ sym (reads _ _ ph (is_err_ack (control_byte R (group_of B b))) (elapsed R) _ _ (cell h S b) t.asks)

  -- DECOUPLE
  pub decouple_turned : family_of (kind_of B b) ≡ Some Decouple → (x : ℕ) → x ≡ bits_from (words_at h B R S b) 8 0 →
      decouple_bytes ph x ≡ turned h B R ph S b
  unfolding read_bytes first_read first_read_of second_read second_read_of
  decouple_turned f x e = turned_read x 0 (rw f e) (rw f refl) (Some Decouple) f

  -- TWOHAND
  module _ (f : family_of (kind_of B b) ≡ Some Twohand) (x : ℕ)
      (e : x ≡ effective_mask (parameters_of B b) (bits_from (words_at h B R S b) 4 0)) where
    pub hands_first : x ≡ first_of B b (words_at h B R S b)
    unfolding first_read first_read_of
    hands_first = rw f e

    pub hands_second : 0 ≡ second_of B b (words_at h B R S b)
    unfolding second_read second_read_of
    hands_second = rw f refl

    pub twohand_turned : {P s : List ℕ} {ms : ℕ} → P ≡ parameters_of B b → ms ≡ elapsed R → s ≡ cell h S b →
        twohand_bytes P ph ms x s ≡ turned h B R ph S b
    unfolding read_bytes
    twohand_turned p m c =
        (λ i. twohand_bytes (p i) ph (m i) x (c i)) ∙ turned_read x 0 hands_first hands_second (Some Twohand) f

  -- arithmetic
  module _ (f : family_of (kind_of B b) ≡ Some Arithmetic) (x y : ℕ) (ex : x ≡ words_at h B R S b 0)
      (ey : y ≡ words_at h B R S b 1) where
    pub word_first : x ≡ first_of B b (words_at h B R S b)
    unfolding first_read first_read_of
    word_first = rw f ex

    pub word_second : y ≡ second_of B b (words_at h B R S b)
    unfolding second_read second_read_of
    word_second = rw f ey

    pub arithmetic_turned : {k : ℕ} {P s : List ℕ} → k ≡ kind_of B b → P ≡ parameters_of B b → s ≡ cell h S b →
        arithmetic_bytes k P ph x y s ≡ turned h B R ph S b
    unfolding read_bytes
    arithmetic_turned q p c =
        (λ i. arithmetic_bytes (q i) (p i) ph x y (c i)) ∙ turned_read x y word_first word_second (Some Arithmetic) f

  -- a block of no kind
  pub unknown_turned : family_of (kind_of B b) ≡ None → fresh_bytes ≡ turned h B R ph S b
  unfolding read_bytes first_read first_read_of second_read second_read_of
  unknown_turned f = turned_read 0 0 (rw f refl) (rw f refl) None f

-- ---- a block that does not ask

module _ (h : ℕ) (B R S : List ℕ) (b ph : ℕ)
    (quiet : asks_inputs ph (is_err_ack (control_byte R (group_of B b))) (cell h S b) ≡ false) where
  pub rest_turned : {p : ℕ} {ack : Bool} {s : List ℕ} → p ≡ ph →
      ack ≡ is_err_ack (control_byte R (group_of B b)) → s ≡ cell h S b →
      rest_bytes p ack s ≡ turned h B R ph S b
  unfolding turned turned_from
  rest_turned p a c =
      (λ i. rest_bytes (p i) (a i) (c i))
      ∙ sym (rests _ _ ph (is_err_ack (control_byte R (group_of B b))) (elapsed R) _ _ (cell h S b) quiet)

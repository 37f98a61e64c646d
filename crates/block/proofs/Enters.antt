-- Which steps enter ERROR, by where they end.
-- Assumes nothing.
use Rattle.wire.proofs.Usual.{◌≡◌, refl, Bool, true, false, not, cond, ◌&&◌, List, ℕ, eqb}
use Rattle.wire.proofs.Places.{both_left}
use Rattle.block.specs.State.{RESET, STOP, plain, in_error, running, encode, decode, code_of, diagnosis_of}
use Rattle.block.specs.State.{fresh_bytes, is_error, enters_from}
use Rattle.block.specs.Step.{acknowledged, rest_of, rest_bytes}

pub fails_enters : (b : Bool) (d e : ℕ) (s : List ℕ) →
    enters_from s (encode (cond b (in_error d) (in_error e))) ≡ not (is_error s)
unfolding enters_from encode
fails_enters true d e s = refl
fails_enters false d e s = refl

pub holds-enters : (b : Bool) (w : ℕ) (s : List ℕ) → enters_from s (encode (cond b (running w) (plain RESET)))
    ≡ false
unfolding enters_from encode
holds-enters true w s = refl
holds-enters false w s = refl

pub answer_enters : (fault : Bool) (d : ℕ) (s : List ℕ) →
    enters_from s (encode (acknowledged fault d)) ≡ fault && not (is_error s)
unfolding enters_from encode
answer_enters true d s = refl
answer_enters false d s = refl

-- a block of no kind, which goes to STOP, does not
pub stop_enters : (s : List ℕ) → enters_from s fresh_bytes ≡ false
unfolding enters_from fresh_bytes encode
stop_enters s = refl

-- nor does one that does not ask
pub rest_enters : (phase : ℕ) (ack : Bool) (s : List ℕ) → enters_from s (rest_bytes phase ack s) ≡ false
unfolding enters_from rest_bytes rest_of encode decode
rest_enters phase ack s = go (eqb phase 0) (eqb (code_of s) 4) (eqb (code_of s) 5 && ack)
  where
    go : (p e r : Bool) →
        eqb (cond p (plain STOP) (cond e (in_error (diagnosis_of s)) (plain (cond r RESET STOP)))).code 4
        && not e
        ≡ false
    go true e r = refl
    go false true r = refl
    go false false true = refl
    go false false false = refl

-- a block that enters ERROR is in it
pub entered_error : (old new : List ℕ) → enters_from old new ≡ true → is_error new ≡ true
unfolding enters_from
entered_error old new h = both_left (is_error new) (not (is_error old)) h

-- A state from fewer bytes than it has is that from all, where those that are not there are 0. Assumes nothing.
use Rattle.wire.proofs.Usual.{◌≡◌, sym, ap, ◌∙◌, List, ℕ, ◌<◌, ◌≤◌, dec_lt, arith, length, replicate, sets}
use Rattle.std.proofs.lemmas.List.{get_or-replicate, get_or_past}
use native.Mathlib.Nat.{zero-add}
use mathlib.Core.Logic.{inr}
use Rattle.wire.specs.Words.{byte_at, word2, word4}
use Rattle.wire.proofs.Records.{get_or_sets_in, get_or_sets_out}
use Rattle.block.specs.State.{state_size, decode}

module _ (s : List ℕ) (h : length s ≤ state_size) where
  byte : (j : ℕ) → j < state_size → byte_at (sets (replicate state_size 0) 0 s) j ≡ byte_at s j
  byte j l = go (dec_lt j (length s))
    where
      go : Dec (j < length s) → byte_at (sets (replicate state_size 0) 0 s) j ≡ byte_at s j
      go (yes q) =
          ap (byte_at (sets (replicate state_size 0) 0 s)) (sym (zero-add j))
          ∙ get_or_sets_in s (replicate state_size 0) 0 j 0 q (omega (arith, h))
      go (no n) =
          get_or_sets_out s (replicate state_size 0) 0 j 0 (inr (omega (arith, n)))
          ∙ get_or-replicate state_size j 0 0 l
          ∙ sym (get_or_past s j 0 (omega (arith, n)))

  pub padded : decode (sets (replicate state_size 0) 0 s) ≡ decode s
  unfolding decode
  padded = λ i. record {
    code = byte 0 (omega arith) i;
    diagnosis = word2 (byte 2 (omega arith) i) (byte 3 (omega arith) i);
    first = word2 (byte 4 (omega arith) i) (byte 5 (omega arith) i);
    second = word2 (byte 6 (omega arith) i) (byte 7 (omega arith) i);
    entry = word2 (byte 8 (omega arith) i) (byte 9 (omega arith) i);
    output =
        word4 (byte 12 (omega arith) i) (byte 13 (omega arith) i) (byte 14 (omega arith) i) (byte 15 (omega arith) i);
  }

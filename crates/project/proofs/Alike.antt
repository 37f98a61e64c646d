-- What two projects that are alike share: the counts, and of each block everything but its execution number. Assumes
-- nothing.
use Rattle.wire.proofs.Usual.{◌≡◌, sym, ap, ◌∙◌, ◌≢◌, List, ℕ, ◌+◌, ◌-◌, ◌*◌, ◌/◌, ◌<◌, ◌≤◌, dec_lt, arith}
use Rattle.wire.proofs.Usual.{length, take, drop, length-drop}
use Rattle.std.specs.Prelude.{None}
use Prim.Native.Nat.{min}
use lib.ListN.{length-take, get_or-eq_default}
use lib.Seq.{ext_get_or, get_or-take, get_or-drop}
use Rattle.wire.specs.Words.{byte_at}
use Rattle.project.specs.Project.{Project, row_of, block_size, block_count, block_record, order_place}
use Rattle.project.specs.Project.{parameter_start, parameter_count, link_start, link_size, link_count, parameters_in}
use Rattle.project.specs.Project.{source_from, link_in, kind_of, group_of, parameters_of, link_of}
use Rattle.project.specs.Alike.{Alike}
use Rattle.project.proofs.Records.{row_byte}

-- a block's record has no link past its last
pub past_links : (B : List ℕ) (b p : ℕ) → link_count ≤ p → link_of B b p ≡ None
unfolding link_in row_of
past_links B b p l = rw past
  where
    past : byte_at (take block_size (drop (block_size * b) B)) (link_start + link_size * p) ≡ 0
    past =
        let R = drop (block_size * b) B in
        get_or-eq_default (take block_size R) 0 (omega (arith, length-take block_size R))

-- the length of the parameters, by that of the body
parameters_long : (B : List ℕ) (b : ℕ) →
    length (parameters_of B b) ≡ min parameter_count (min block_size (length B - block_size * b) - parameter_start)
unfolding parameters_in row_of
parameters_long B b = simp (length-take, length-drop)

-- a parameter byte stands in the record
pub parameter_byte : (R : List ℕ) (k : ℕ) → k < parameter_count →
    byte_at (parameters_in R) k ≡ byte_at R (parameter_start + k)
unfolding parameters_in
parameter_byte R k l = get_or-take parameter_count (drop parameter_start R) k 0 l ∙ get_or-drop parameter_start R k 0

module _ {P P' : Project} (alike : Alike P P') where
  pub blocks_same : block_count P.blocks ≡ block_count P'.blocks
  unfolding block_count
  blocks_same = ap (λ (n : ℕ). n / block_size) alike.long

  module _ (b : ℕ) where
    block_byte_same : (j : ℕ) → j < block_size → j ≢ order_place →
        byte_at (block_record P.blocks b) j ≡ byte_at (block_record P'.blocks b) j
    block_byte_same j l n =
        row_byte block_size b P.blocks j l
        ∙ alike.bytes (block_size * b + j) (λ a m e. omega (arith, n))
        ∙ sym (row_byte block_size b P'.blocks j l)

    pub kind_same : kind_of P.blocks b ≡ kind_of P'.blocks b
    kind_same = block_byte_same 0 (omega arith) (λ e. omega arith)

    pub group_same : group_of P.blocks b ≡ group_of P'.blocks b
    group_same = block_byte_same 1 (omega arith) (λ e. omega arith)

    pub parameters_same : parameters_of P.blocks b ≡ parameters_of P'.blocks b
    parameters_same =
        ext_get_or 0 (parameters_of P.blocks b) (parameters_of P'.blocks b) long
        (λ k m. each k (omega (arith, parameters_long P.blocks b)))
      where
        long : length (parameters_of P.blocks b) ≡ length (parameters_of P'.blocks b)
        long =
            parameters_long P.blocks b
            ∙ ap (λ (n : ℕ). min parameter_count (min block_size (n - block_size * b) - parameter_start)) alike.long
            ∙ sym (parameters_long P'.blocks b)

        each : (k : ℕ) → k < parameter_count →
            byte_at (parameters_of P.blocks b) k ≡ byte_at (parameters_of P'.blocks b) k
        each k m =
            parameter_byte (block_record P.blocks b) k m
            ∙ block_byte_same (parameter_start + k) (omega arith) (λ e. omega arith)
            ∙ sym (parameter_byte (block_record P'.blocks b) k m)

    link_bytes : (p : ℕ) → p < link_count → link_of P.blocks b p ≡ link_of P'.blocks b p
    unfolding link_in
    link_bytes p l =
        let at = link_start + link_size * p in
        λ i. source_from (block_byte_same at (omega arith) (λ e. omega arith) i)
        (block_byte_same (at + 1) (omega arith) (λ e. omega arith) i)
        (block_byte_same (at + 2) (omega arith) (λ e. omega arith) i)

    pub link_same : (p : ℕ) → link_of P.blocks b p ≡ link_of P'.blocks b p
    link_same p = go (dec_lt p link_count)
      where
        go : Dec (p < link_count) → link_of P.blocks b p ≡ link_of P'.blocks b p
        go (yes l) = link_bytes p l
        go (no n) =
            past_links P.blocks b p (omega (arith, n)) ∙ sym (past_links P'.blocks b p (omega (arith, n)))

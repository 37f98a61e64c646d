-- The parts' contracts come to the definitions of a cycle (`Checked`), at the layout of these counts and blocks.
use Rattle.wire.proofs.Usual.{◌≡◌, sym, subst, List, ℕ, ◌*◌, ◌/◌, arith, length}
use Rattle.wire.specs.Packed.{hits, packed}
use Rattle.block.specs.Finding.{finding_size}
use Rattle.evaluator.specs.Asks.{Noted, note_in, is_noted}
use Rattle.evaluator.proofs.Checked.{packable, all_count, all_findings, few_heads, heads_fit, no_count}
use Rattle.evaluator.proofs.Checked.{no_findings, ran_state, running}
use Rattle.evaluator.proofs.advance.advance.Goals as goal

-- a buffer has as many records as its length says
module _ {D : List ℕ} {n : ℕ} (d : Noted D n) where
  count_is : length D / finding_size ≡ n
  count_is = omega (arith, d.long)

  all_records : Noted D (length D / finding_size)
  all_records = subst (Noted D) (sym count_is) d

  left_at : {E : List ℕ} → E ≡ packed (length D) (length D / finding_size) (is_noted D) (note_in D)
      → E ≡ packed (finding_size * n) n (is_noted D) (note_in D)
  left_at {E} e = subst (λ (m : ℕ). E ≡ packed m n (is_noted D) (note_in D)) d.long
      (subst (λ (k : ℕ). E ≡ packed (length D) k (is_noted D) (note_in D)) count_is e)

  count_at : {x : ℕ} → x ≡ hits (length D / finding_size) (is_noted D) → x ≡ hits n (is_noted D)
  count_at {x} e = subst (λ (k : ℕ). x ≡ hits k (is_noted D)) count_is e

pub decide-phases-requires : goal.decide-phases-requires
decide-phases-requires c = (omega (arith, few_heads c.requires), omega (arith, heads_fit c.requires))

pub take-requires : goal.take-requires
take-requires c =
    let o = c.of.ensures in
    rw (o.blocks, o.groups, o.count)
    (running c.requires _ _ c.decide-phases.ensures.left c.decide-phases.ensures.phases)

-- no block entered ERROR
pub returns-then-not-take-clause-left : goal.returns-then-not-take-clause-left
returns-then-not-take-clause-left c =
    let o = c.of.ensures in
    ran_state c.requires _ _ c.decide-phases.ensures.left c.decide-phases.ensures.phases _
    (rw (o.blocks, o.groups, o.count) at c.take.ensures.left)

pub returns-then-not-take-clause-told : goal.returns-then-not-take-clause-told
returns-then-not-take-clause-told c =
    let o = c.of.ensures in
    no_findings c.requires _ _ c.decide-phases.ensures.left c.decide-phases.ensures.phases _
    (rw (o.blocks, o.groups, o.count) at c.take.ensures.told)
    (rw (o.blocks, o.groups, o.count) at (c.take.ensures.none c.if-not-take.true))

pub returns-then-not-take-clause-count : goal.returns-then-not-take-clause-count
returns-then-not-take-clause-count c =
    let o = c.of.ensures in
    no_count c.requires _ _ c.decide-phases.ensures.left c.decide-phases.ensures.phases _
    (rw (o.blocks, o.groups, o.count) at c.take.ensures.told)
    (rw (o.blocks, o.groups, o.count) at (c.take.ensures.none c.if-not-take.true))

pub pack-requires : goal.pack-requires
pack-requires c =
    let o = c.of.ensures in
    all_records (packable c.requires _ _ c.decide-phases.ensures.left c.decide-phases.ensures.phases _
    (rw (o.blocks, o.groups, o.count) at c.take.ensures.told))

-- some block may have
pub returns-clause-left : goal.returns-clause-left
returns-clause-left c =
    let o = c.of.ensures in
    ran_state c.requires _ _ c.decide-phases.ensures.left c.decide-phases.ensures.phases _
    (rw (o.blocks, o.groups, o.count) at c.take.ensures.left)

pub returns-clause-told : goal.returns-clause-told
returns-clause-told c =
    let o = c.of.ensures in
    let decided = c.decide-phases.ensures in
    let told = rw (o.blocks, o.groups, o.count) at c.take.ensures.told in
    all_findings c.requires _ _ decided.left decided.phases _ told _
    (left_at (packable c.requires _ _ decided.left decided.phases _ told) c.pack.ensures.left)

pub returns-clause-count : goal.returns-clause-count
returns-clause-count c =
    let o = c.of.ensures in
    let decided = c.decide-phases.ensures in
    let told = rw (o.blocks, o.groups, o.count) at c.take.ensures.told in
    all_count c.requires _ _ decided.left decided.phases _ told _
    (count_at (packable c.requires _ _ decided.left decided.phases _ told) c.pack.ensures.count)

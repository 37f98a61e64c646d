-- Two accepted files that differ in their execution numbers and are alike for demand 3, by computation: all bytes of
-- their blocks but the execution numbers are equal, and along the one link from block to block the source runs first in
-- both. Assumes nothing.
use Rattle.wire.proofs.Usual.{◌≡◌, refl, sym, ap, ◌∙◌, Bool, true, false, true≢false, not, ◌&&◌, ◌||◌, List}
use Rattle.wire.proofs.Usual.{ℕ, ◌/◌, ◌%◌, ◌<◌, ◌≤◌, dec_lt, arith, ltb, eqb, eqb-true, lt-ltb, ltb-true, length}
use Rattle.std.specs.Prelude.{Option, Some, None}
use mathlib.Core.Logic.{◌↔◌}
use lib.ListN.{get_or-eq_default}
use Rattle.wire.specs.Words.{byte_at}
use Rattle.wire.specs.Places.{all, first_bad}
use Rattle.wire.proofs.Places.{all_each}
use Rattle.contents.specs.Contents.{body_start, body_size, body_of, follows_ok, contents_ok}
use Rattle.project.specs.declared.Source.{Source}
use Rattle.project.specs.declared.Source.TheVariants.{External, Output}
use Rattle.project.specs.Project.{Project, row_of, block_size, block_count, order_place, order_of, link_count, link_in}
use Rattle.project.specs.Project.{link_of}
use Rattle.project.specs.Alike.{IsOrderByte, Alike}
use Rattle.project.proofs.Alike.{past_links}
use Rattle.casefile.specs.Bodies.{body_in, project_of}
use Rattle.evaluator.specs.Answer.{Lent}
use Rattle.evaluator.specs.Runs.{run}
use Rattle.demands.specs.Demands.{Demand3}
use Rattle.demands.specs.Examples.{as_numbered, otherwise}
use Rattle.demands.proofs.Accepted.{accepted_all}
use Rattle.demands.proofs.Demand3.{demand3}

abbrev P : Project
P = project_of as_numbered

abbrev P' : Project
P' = project_of otherwise

-- ---- what is computed

-- byte i of the blocks is that of an execution number, or the same in both
byte_same : ℕ → Bool
byte_same i = eqb (i % block_size) order_place || eqb (byte_at P.blocks i) (byte_at P'.blocks i)

-- a source of block b runs before it in both or in neither
before : ℕ → Option Source → Bool
before b None = true
before b (Some (External i)) = true
before b (Some (Output a q)) =
    not (ltb (order_of P.blocks a) (order_of P.blocks b))
    && not (ltb (order_of P'.blocks a) (order_of P'.blocks b))
    || ltb (order_of P.blocks a) (order_of P.blocks b)
    && ltb (order_of P'.blocks a) (order_of P'.blocks b)

before_all : ℕ → Bool
before_all b = all (λ p. before b (link_of P.blocks b p)) link_count

record Computed : Type 0 where
  pub groups : P.groups ≡ P'.groups
  pub inputs : P.inputs ≡ P'.inputs
  pub outputs : P.outputs ≡ P'.outputs
  pub long : length P.blocks ≡ 120
  pub long' : length P'.blocks ≡ 120
  pub count : block_count P.blocks ≡ 3
  pub bytes : all byte_same 120 ≡ true
  pub along : all before_all 3 ≡ true
  pub differ : (order_of P.blocks 0 ≡ 0) × (order_of P'.blocks 0 ≡ 1)

computed : Computed
unfolding as_numbered otherwise project_of body_in contents_ok follows_ok body_start body_size body_of row_of
    block_count link_in byte_same before before_all all first_bad
computed = record {
  groups = refl;
  inputs = refl;
  outputs = refl;
  long = refl;
  long' = refl;
  count = refl;
  bytes = refl;
  along = refl;
  differ = (refl, refl);
}

-- ---- so they are alike

same_byte : (i : ℕ) → ((b : ℕ) → b < block_count P.blocks → IsOrderByte b i → ⊥) →
    byte_at P.blocks i ≡ byte_at P'.blocks i
unfolding byte_same
same_byte i h = go (dec_lt i 120)
  where
    past : (B : List ℕ) → length B ≡ 120 → 120 ≤ i → byte_at B i ≡ 0
    past B e l = get_or-eq_default B 0 (omega arith)

    go : Dec (i < 120) → byte_at P.blocks i ≡ byte_at P'.blocks i
    go (no n) =
        past P.blocks computed.long (omega (arith, n))
        ∙ sym (past P'.blocks computed.long' (omega (arith, n)))
    go (yes l) = by (eqb (i % block_size) order_place) refl (all_each byte_same 120 computed.bytes i l)
      where
        by : (t : Bool) → eqb (i % block_size) order_place ≡ t →
            t || eqb (byte_at P.blocks i) (byte_at P'.blocks i) ≡ true →
            byte_at P.blocks i ≡ byte_at P'.blocks i
        by true e f =
            let is_order = eqb-true (i % block_size) order_place e in
            absurd (h (i / block_size) (omega (arith, computed.count)) (omega (arith, is_order)))
        by false e f = eqb-true _ _ f

same_order : (x y : ℕ) (u v : ℕ) → not (ltb x y) && not (ltb u v) || ltb x y && ltb u v ≡ true →
    (x < y) ↔ (u < v)
same_order x y u v = go (ltb x y) refl (ltb u v) refl
  where
    go : (s : Bool) → ltb x y ≡ s → (t : Bool) → ltb u v ≡ t → not s && not t || s && t ≡ true →
        (x < y) ↔ (u < v)
    go true e true f h = (λ _. ltb-true u v f, λ _. ltb-true x y e)
    go true e false f h = absurd (true≢false (sym h))
    go false e true f h = absurd (true≢false (sym h))
    go false e false f h = (
      λ l. absurd (true≢false (sym (lt-ltb x y l) ∙ e)),
      λ l. absurd (true≢false (sym (lt-ltb u v l) ∙ f)),
    )

same_along : (b p a q : ℕ) → b < block_count P.blocks → link_of P.blocks b p ≡ Some (Output a q) →
    (order_of P.blocks a < order_of P.blocks b) ↔ (order_of P'.blocks a < order_of P'.blocks b)
unfolding before before_all
same_along b p a q l e = go (dec_lt p link_count)
  where
    go : Dec (p < link_count) →
        (order_of P.blocks a < order_of P.blocks b) ↔ (order_of P'.blocks a < order_of P'.blocks b)
    go (yes m) =
        same_order (order_of P.blocks a) (order_of P.blocks b) (order_of P'.blocks a) (order_of P'.blocks b)
        (sym (ap (before b) e)
        ∙ all_each (λ p. before b (link_of P.blocks b p)) link_count
        (all_each before_all 3 computed.along b (omega (arith, computed.count))) p m)
    go (no n) =
        let none : None ≡ Some (Output a q) = sym (past_links P.blocks b p (omega (arith, n))) ∙ e in
        let never : ◌≡◌ {A = ℕ} 0 1 = cc in
        absurd (omega arith)

-- 01, "What the reviewer must be able to rely on", demand 3: the two files are alike, though block 0 has the execution
-- number 0 in one and 1 in the other
pub pair_alike : Alike (project_of as_numbered) (project_of otherwise)
pair_alike = record {
  groups = computed.groups;
  inputs = computed.inputs;
  outputs = computed.outputs;
  long = computed.long ∙ sym computed.long';
  bytes = same_byte;
  along = same_along;
}

pub pair_differs : (order_of (project_of as_numbered).blocks 0 ≡ 0) × (order_of (project_of otherwise).blocks 0 ≡ 1)
pair_differs = computed.differ

-- so demand 3 says of them that they have the same runs
pub pair_runs : (Rs : List (List ℕ)) (L : Lent) → run as_numbered Rs L ≡ run otherwise Rs L
unfolding Demand3
pair_runs = demand3 as_numbered otherwise accepted_all.1.0 accepted_all.1.1 pair_alike

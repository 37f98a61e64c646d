-- The blocks by execution number: after block b each of the first b + 1 blocks stands at its number. Assumes nothing.
use Rattle.wire.proofs.Usual.{◌≡◌, refl, sym, ap, ◌∙◌, List, ℕ, ◌+◌, ◌%◌, ◌≤◌, ◌<◌, dec_lt, ℕ_discrete, arith}
use Rattle.wire.proofs.Usual.{ltb, length, set, replicate, lt-ltb}
use native.Mathlib.Nat.{not-suc-le-zero, mod-eq_of_lt}
use lib.ListN.{length-set, get_or-replicate}
use lib.Seq.{get_or-set_same, get_or-set_other}
use Rattle.wire.specs.Words.{byte_at}
use Rattle.casefile.specs.Sound.{Sound}
use Rattle.project.specs.Project.{block_count, order_of, block_at}
use Rattle.casefile.proofs.Execution.{block_at_lt, block_at_is}
use Rattle.block.specs.State.{only_if}
use Rattle.evaluator.specs.Asks.{Ordered, Ranked, order_list}
use Rattle.evaluator.proofs.Deciding.{row-length, row_at_is, row_is}
use borrow.Author.Tests.{le-ltb}

pub record Ranking (B : List ℕ) (n : ℕ) (K : List ℕ) (b : ℕ) : Type 0 where
  pub within : b ≤ n
  pub long : length K ≡ 64
  pub each : (a : ℕ) → a < b → byte_at K (order_of B a) ≡ a
  pub past : (e : ℕ) → e < 64 → n ≤ e → byte_at K e ≡ 0

pub ranking_start : (B : List ℕ) (n : ℕ) → Ranking B n (replicate 64 0) 0
ranking_start B n =
    record {
      within = omega arith;
      long = refl;
      each = λ a l. absurd (not-suc-le-zero l);
      past = λ e l k. get_or-replicate
          64 e 0 0 l;
    }

module _ (B : List ℕ) (n : ℕ) (o : Ordered B n) where
  pub ranking_turn : (K : List ℕ) (b e v : ℕ) → Ranking B n K b → b < n → e ≡ order_of B b →
      v ≡ b % 256 → Ranking B n (set K e v) (b + 1)
  ranking_turn K b e v r l p q = record {
    within = omega arith;
    long = length-set K e v ∙ r.long;
    each = λ a k. go a k (ℕ_discrete a b);
    past = λ i k m. get_or-set_other K e i v 0 (λ x. omega (arith, x, p, o.below b l)) ∙ r.past i k m;
  }
    where
      inside : e < length K
      inside = omega (arith, r.long, p, o.below b l, o.few)

      go : (a : ℕ) → a < b + 1 → Dec (a ≡ b) → byte_at (set K e v) (order_of B a) ≡ a
      go a k (yes d) =
          ap (λ (j : ℕ). byte_at (set K e v) (order_of B j)) d ∙ ap (byte_at (set K e v)) (sym p)
          ∙ get_or-set_same K e v 0 inside
          ∙ q ∙ mod-eq_of_lt {n = b} {m = 256} (omega (arith, o.few)) ∙ sym d
      go a k (no d) =
          get_or-set_other K e (order_of B a) v 0 (λ x. o.apart a b (omega (arith, d)) l d (x ∙ p))
          ∙ r.each a (omega (arith, d))

  pub ranking_end : (K : List ℕ) → Ranking B n K n → K ≡ order_list B
  unfolding order_list
  ranking_end K r = row_is 64 (λ e. only_if (ltb e (block_count B)) (block_at B e)) K r.long
      (λ e l. go e l (dec_lt e n))
    where
      go : (e : ℕ) → e < 64 → Dec (e < n) → byte_at K e ≡ only_if (ltb e (block_count B)) (block_at B e)
      go e l (yes k) =
          rw (lt-ltb e (block_count B) (omega (arith, k, o.count)))
          (ap (byte_at K) (sym (o.lands e k).1) ∙ r.each (block_at B e) (o.lands e k).0)
      go e l (no k) = rw (le-ltb e (block_count B) (omega (arith, k, o.count))) (r.past e l (omega (arith, k)))

-- the list has the blocks of an accepted project
pub order_ranked : {G B : List ℕ} {n : ℕ} → Sound G B n → Ranked B (block_count B) (order_list B)
unfolding order_list
order_ranked {B = B} g = record {
  long = row-length 64 (λ e. only_if (ltb e (block_count B)) (block_at B e));
  each = λ e l. (rw (here e l) (block_at_lt g e l), ap (order_of B) (here e l) ∙ block_at_is g e l);
}
  where
    here : (e : ℕ) → e < block_count B → byte_at (order_list B) e ≡ block_at B e
    here e l =
        row_at_is 64 (λ e. only_if (ltb e (block_count B)) (block_at B e)) e (omega (arith, g.few_blocks))
        ∙ rw (lt-ltb e (block_count B) l)

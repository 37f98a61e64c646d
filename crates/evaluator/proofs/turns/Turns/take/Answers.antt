-- The first turn begins, each turn goes on, and when all blocks have had theirs the state and the findings are what the
-- definitions say.
use Rattle.wire.proofs.Usual.{◌≡◌, refl, sym, ◌∙◌, subst, Bool, true, false, ◌||◌, true≢false, ℕ, ◌<◌, List, arith}
use Rattle.wire.proofs.Usual.{length, take, length-take-le}
use lib.Seq.{get_or-take}
use Rattle.wire.specs.Words.{byte_at}
use Rattle.evaluator.specs.Asks.{Whole, Ranked}
use Rattle.evaluator.proofs.Running.{Held, held_start, held_turn, held_state, held_findings, held_none}
use Rattle.evaluator.proofs.turns.Turns.take.Goals as goal

neither : (a b : Bool) → a || b ≡ false → (a ≡ false) × (b ≡ false)
neither true b h = absurd (true≢false h)
neither false b h = (refl, h)

pub loop-b-init : goal.loop-b-init
loop-b-init c = held_start _ _ _ _ _ _ _ _ c.requires

-- the ranks of all blocks
module _ {B : List ℕ} {h n : ℕ} (w : Whole B h n) {K : List ℕ} (k : Ranked B n K) where
  long : length (take n K) ≡ n
  long = length-take-le n K (omega (arith, k.long, w.count, w.few))

  rank_is : (e : ℕ) → e < n → byte_at (take n K) e ≡ byte_at K e
  rank_is e l = get_or-take n K e 0 l

pub loop-b-preserved : goal.loop-b-preserved
loop-b-preserved c =
    let w = c.args.self.now.layout.whole in
    let k = c.requires.ranked in
    let l = c.loop-b in
    let before : l.b-index < c.args.self.now.layout.count = omega (arith, c.loop-b-test.true, long w k) in
    let same = rank_is w k l.b-index before in
    let r = k.each l.b-index before in
    let t = c.turn-some.ensures in
    held_turn _ _ _ _ _ _ _ _ c.requires l.state l.findings l.some l.b-index _ l.invariant (rw same r.0) (rw same r.1)
    _ _ _ before t.left t.told
    (λ z. let both = neither l.some c.turn-some.result z in (both.0, sym t.answered ∙ both.1))

-- all have run
pub returns : goal.returns
returns c =
    let t = c.args.self.now in
    let l = c.loop-b in
    let end : l.b-index ≡ t.layout.count =
    omega (arith, l.invariant.within, c.loop-b-test.false, long t.layout.whole c.requires.ranked)
    in
    let all =
    subst
    (Held t.layout.groups t.layout.blocks.now t.rec.now t.phases.now c.args.state.now t.layout.count l.state l.findings
    l.some)
    end l.invariant
    in record {
      left = held_state _ _ _ _ _ _ _ _ c.requires _ _ _ all;
      told = held_findings _ _ _ _ _ _ _ _ c.requires _ _ _ all;
      none = held_none _ _ _ _ _ _ _ _ c.requires _ _ _ all;
    }

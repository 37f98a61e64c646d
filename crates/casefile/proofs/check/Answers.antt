-- The loop passes rules that hold, and stops at the first other.
use Rattle.wire.proofs.Usual.{◌≡◌, sym, ◌∙◌, Bool, List, ℕ}
use Rattle.wire.proofs.Places.{begin, more}
use Rattle.casefile.specs.Bodies.{body_g, body_i, body_b, body_o, body_t, body_in}
use Rattle.casefile.specs.Refusal.{rule_at, kept_by}
use Rattle.casefile.proofs.Refusals.{holds_at, reached, said_of, refused, accepted}
use Rattle.casefile.proofs.check.Goals as goal

-- the test of the rule at place k, over the file's bodies
test : (F : List ℕ) {G I B O T : List ℕ} → G ≡ body_in F body_g → I ≡ body_in F body_i → B ≡ body_in F body_b →
    O ≡ body_in F body_o → T ≡ body_in F body_t → (k : ℕ) →
    {x : Bool} → x ≡ kept_by F G I B O T (rule_at k) → x ≡ holds_at F k
test F g n b o t k kept = kept ∙ (λ j. kept_by F (g j) (n j) (b j) (o j) (t j) (rule_at k))

pub loop-r-init : goal.loop-r-init
loop-r-init c = begin _ _

-- what the rule counts on, said of the bodies
pub keeps-requires : goal.keeps-requires
unfolding rule_at
keeps-requires c =
    let b = c.of-bodies.ensures in
    said_of b.groups b.inputs b.blocks
    (reached c.args.file.now c.loop-r.r-index c.loop-r-test.true c.loop-r.invariant)

pub returns-then-not-keeps : goal.returns-then-not-keeps
unfolding rule_at
returns-then-not-keeps c =
    let b = c.of-bodies.ensures in
    let kept = test _ b.groups b.inputs b.blocks b.outputs b.trace c.loop-r.r-index c.keeps.ensures in
    refused _ c.loop-r-test.true c.loop-r.invariant (sym kept ∙ c.if-not-keeps.true)

pub loop-r-preserved : goal.loop-r-preserved
unfolding rule_at
loop-r-preserved c =
    let b = c.of-bodies.ensures in
    let kept = test _ b.groups b.inputs b.blocks b.outputs b.trace c.loop-r.r-index c.keeps.ensures in
    more c.loop-r.invariant c.loop-r-test.true kept c.if-not-keeps.false

pub returns : goal.returns
returns c = accepted _ c.loop-r.invariant c.loop-r-test.false

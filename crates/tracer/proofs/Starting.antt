-- What a fresh state that was written, or was not, says of its file, and what an accepted file's bodies and counts give
-- to each call of a trace. Assumes nothing.
use Rattle.wire.proofs.Usual.{◌≡◌, refl, sym, ap, ap₂, ◌∙◌, Bool, true, false, cond, ◌&&◌, List, [], ℕ}
use Rattle.wire.proofs.Usual.{◌+◌, ◌*◌, ◌/◌, ◌<◌, ◌≤◌, arith, ltb, eq-eqb, length, replicate, take}
use Rattle.wire.proofs.Usual.{drop, length-drop, length-take-le, length-replicate}
use Rattle.std.specs.Prelude.{min, Result, Ok, Err}
use borrow.Author.Tests.{leb-true}
use native.Mathlib.Nat.{div-le_self, min-le_right, min-eq_left}
use lib.Dec.{leb}
use lib.ListN.{length-take}
use Rattle.std.proofs.lemmas.List.{take-replicate}
use Rattle.wire.proofs.Places.{both_right}
use Rattle.contents.specs.Contents.{contents_size, contents_ok, body_start, body_size, body_of}
use Rattle.project.specs.declared.Counts.{Counts}
use Rattle.project.specs.Project.{row_of, file_most, group_count, input_count, record_size, counts_in}
use Rattle.casefile.specs.Bodies.{body_count, body_g, body_i, body_t, body_in, project_of, record_count}
use Rattle.casefile.specs.Bodies.{record_of}
use Rattle.casefile.specs.declared.table.Rule.{Rule}
use Rattle.casefile.specs.Rules.{size_ok}
use Rattle.casefile.specs.Refusal.{verdict}
use Rattle.casefile.proofs.Refusals.{every}
use Rattle.casefile.proofs.Accepted.{accepted}
use Rattle.block.specs.State.{state_size}
use Rattle.block.specs.Finding.{finding_size}
use Rattle.evaluator.specs.declared.Refusal.{Refusal}
use Rattle.evaluator.specs.declared.Refusal.TheVariants.{File}
use Rattle.evaluator.specs.State.{state_head, state_length, findings_length, state_formed}
use Rattle.evaluator.specs.Fresh.{fresh_verdict, fresh_left, fresh_for}
use Rattle.evaluator.specs.Asks.{Standing, Grouped, Ordered, Listed, Begun, error_list}
use Rattle.evaluator.proofs.Checking.{Taken, taken, few, groups_counted, blocks_counted, listed, state_counted}
use Rattle.evaluator.proofs.Checking.{notes_counted}
use Rattle.evaluator.proofs.Checked.{standing, grouped, ordered}
use Rattle.evaluator.proofs.FreshFormed.{verdict_sized, left_fresh}
use Rattle.evaluator.proofs.Calls.{checked_file, checked_both}
use Rattle.tracer.specs.Traced.{unless_refused, run_end, end_of}
use Rattle.tracer.specs.Asks.{Started}

-- ---- the fresh state

module _ (F S : List ℕ) where
  module _ (z : fresh_verdict F S ≡ Ok tt) where
    pub is_accepted : verdict F ≡ Ok tt
    unfolding fresh_verdict
    is_accepted = (checked_both (verdict F) z).0

    pub is_fresh : fresh_left F S ≡ fresh_for (project_of F)
    is_fresh = sym (left_fresh F S z)

    pub run_is : run_end F ≡ end_of F
    unfolding end_of
    run_is = rw is_accepted refl

  -- a state that was not written has the file's refusal, where the state has the size of an accepted file's
  pub is_refused : (r : Refusal) →
      (verdict F ≡ Ok tt → length S ≡ state_length (project_of F).groups (project_of F).blocks) →
      fresh_verdict F S ≡ Err r → Err r ≡ end_of F
  unfolding end_of fresh_verdict
  is_refused r h e = go (verdict F) refl
    where
      go : (v : Result (Unit {0}) Rule) → verdict F ≡ v → Err r ≡ unless_refused (verdict F) (run_end F)
      go (Ok u) z =
          let never : Ok tt ≡ Err r = verdict_sized F S z (eq-eqb (length S) _ (h z)) ∙ e in
          absurd (cc)
      go (Err q) z =
          let told : Err r ≡ Err (File q) = sym e ∙ sym (checked_file F _ refl z) in
          let same : r ≡ File q = cc in
          rw z (ap Err same)

-- ---- an accepted file

-- a body is no longer than its file
body_short : (F : List ℕ) (e : ℕ) → length (body_in F e) ≤ length F
unfolding body_in body_of
body_short F e = go (contents_ok body_count F && ltb e body_count)
  where
    go : (b : Bool) → length (cond b (body_of F e) []) ≤ length F
    go true =
        let rest = drop (body_start F e) F in
        omega (
          arith,
          length-take (body_size F e) rest,
          length-drop (body_start F e) F,
          min-le_right (body_size F e) (length rest),
        )
    go false = omega arith

pub taken_of : (F : List ℕ) → verdict F ≡ Ok tt → Taken (project_of F)
taken_of F z = taken F (accepted F z)

module _ (F : List ℕ) {c : Counts} (e : c ≡ counts_in (project_of F)) (z : verdict F ≡ Ok tt) where
  -- its groups and blocks, cut at the most that an accepted file has
  groups_all : {g : ℕ} → g ≡ min c.groups 8 → g ≡ c.groups
  groups_all p = p ∙ min-eq_left (few e (taken_of F z)).0

  blocks_all : {n : ℕ} → n ≡ min c.blocks 64 → n ≡ c.blocks
  blocks_all q = q ∙ min-eq_left (few e (taken_of F z)).1.0

  -- the part of the state, of g groups and n blocks
  pub state_sized : {g n : ℕ} → g ≡ min c.groups 8 → n ≡ min c.blocks 64 →
      length (take {A = ℕ} (state_head g + state_size * n) (replicate 1032 0))
      ≡ state_length (project_of F).groups (project_of F).blocks
  state_sized {g} {n} p q =
      let t = taken_of F z in
      let h = groups_all p in
      let m = blocks_all q in
      length-take-le _ _ (omega (arith, h, m, few e t, length-replicate {A = ℕ} 1032 0))
      ∙ ap₂ (λ (g n : ℕ). state_head g + state_size * n) h m
      ∙ state_counted e t

  -- that of the findings
  pub findings_zero : {n : ℕ} → n ≡ min c.blocks 64 →
      take {A = ℕ} (finding_size * n) (replicate 1024 0) ≡ replicate (findings_length (project_of F).blocks) 0
  findings_zero {n} q =
      let t = taken_of F z in
      let m = blocks_all q in
      take-replicate (finding_size * n) 1024 0 (omega (arith, m, few e t))
      ∙ ap (λ (n : ℕ). replicate n 0) (ap (λ (n : ℕ). finding_size * n) m ∙ notes_counted e t)

-- it is no longer than 65,536 bytes, so it has no more records
pub few_records : (F : List ℕ) → verdict F ≡ Ok tt → record_count F ≤ 65536
unfolding record_count size_ok
few_records F z =
    let t = every F z in
    let h : size_ok F ≡ true = search t in
    let T = body_in F body_t in
    let l = leb-true (length F) file_most (both_right (leb (contents_size body_count) (length F)) _ h) in
    omega (arith, div-le_self (length T) (record_size (body_in F body_g) (body_in F body_i)), body_short F body_t)

pub ordered_of : (F : List ℕ) (c : Counts) (B : List ℕ) → verdict F ≡ Ok tt →
    c ≡ counts_in (project_of F) → B ≡ (project_of F).blocks → Ordered B c.blocks
ordered_of F c B z e b =
    let t = taken_of F z in
    rw b (ordered t.sound (groups_counted e t) (blocks_counted e t))

module _ {F : List ℕ} {c : Counts} {G I B T K D : List ℕ} (s : Started F c G I B T K D) where
  t : Taken (project_of F)
  t = taken_of F s.accepted

  heads : c.groups ≡ group_count (project_of F).groups
  heads = groups_counted s.counts t

  pub standing_of : (S : List ℕ) → length S ≡ state_length (project_of F).groups (project_of F).blocks →
      Standing B S c.groups
  standing_of S l = rw s.blocks (standing t.sound heads (blocks_counted s.counts t) S l)

  pub grouped_of : Grouped B c.blocks
  grouped_of = rw s.blocks (grouped t.sound heads (blocks_counted s.counts t))

  counted : Listed c (project_of F).groups (project_of F).inputs
  counted = listed s.counts t

  pub listed_of : Listed c G I
  listed_of = rw (s.groups, s.inputs) counted

  pub begun_of : (E S D : List ℕ) → E ≡ error_list c.groups B S →
      length S ≡ state_length (project_of F).groups (project_of F).blocks →
      state_formed (project_of F).groups (project_of F).blocks S ≡ true →
      D ≡ replicate (findings_length (project_of F).blocks) 0 → Begun c (input_count I) G B K E S D
  begun_of E S D e l f d = record {
    sound = rw (s.groups, s.inputs, s.blocks) t.sound;
    groups = heads ∙ ap group_count (sym s.groups);
    blocks = rw s.blocks (blocks_counted s.counts t);
    order = s.order;
    errors = e ∙ ap (λ (h : ℕ). error_list h B S) (heads ∙ ap group_count (sym s.groups));
    size = rw (s.groups, s.blocks) l;
    formed = rw (s.groups, s.blocks) f;
    clean = rw s.blocks d;
  }

  pub size_some : 0 < c.size
  unfolding record_size
  size_some = omega (arith, counted.size)

  pub count_is : length T / c.size ≡ record_count F
  unfolding record_count project_of
  count_is = ap₂ (λ (n w : ℕ). n / w) (ap length s.records) counted.size

  pub record_is : (k : ℕ) → row_of c.size k T ≡ record_of F k
  unfolding record_of project_of
  record_is k = ap₂ (λ (w : ℕ) (x : List ℕ). row_of w k x) counted.size s.records

-- What a table of contents says that was found right (`contents_ok`), and that one which says so is found right.
-- Assumes nothing.
use Rattle.wire.proofs.Usual.{◌≡◌, subst, true, ◌&&◌, List, ℕ, zero, suc, ◌+◌, ◌-◌, ◌<◌, ◌≤◌, arith, eqb}
use Rattle.wire.proofs.Usual.{eqb-true, eq-eqb, length}
use Rattle.wire.specs.Places.{all}
use Rattle.wire.proofs.Places.{all_each, all_true, both_left, both_right}
use Rattle.contents.specs.Contents.{contents_size, body_start, body_size, follows_ok, contents_ok}

-- the first of n bodies starts where the table ends, each other where the one before ends, and the last ends with the
-- file
pub record Right (n : ℕ) (F : List ℕ) : Type 0 where
  pub first : body_start F 0 ≡ contents_size n
  pub follows : (e : ℕ) → e < n - 1 → body_start F (e + 1) ≡ body_start F e + body_size F e
  pub last : body_start F (n - 1) + body_size F (n - 1) ≡ length F

pub right : (n : ℕ) (F : List ℕ) → contents_ok n F ≡ true → Right n F
unfolding contents_ok follows_ok
right n F h =
    let a = eqb (body_start F 0) (contents_size n) in
    let b = all (follows_ok F) (n - 1) in
    let c = eqb (body_start F (n - 1) + body_size F (n - 1)) (length F) in
    let ab = both_left (a && b) c h in
    record {
      first = eqb-true _ _ (both_left a b ab);
      follows = λ e l. eqb-true _ _ (all_each (follows_ok F) (n - 1) (both_right a b ab) e l);
      last = eqb-true _ _ (both_right (a && b) c h);
    }

pub right_ok : (n : ℕ) (F : List ℕ) → Right n F → contents_ok n F ≡ true
unfolding contents_ok follows_ok
right_ok n F r =
    rw (
      eq-eqb _ _ r.first,
      all_true (follows_ok F) (n - 1) (λ e l. eq-eqb _ _ (r.follows e l)),
      eq-eqb _ _ r.last,
    )

-- so each ends within the file: the last does, and one before it where the next starts
module _ {n : ℕ} {F : List ℕ} (r : Right n F) where
  ends_with : (d e : ℕ) → e + d ≡ n - 1 → body_start F e + body_size F e ≤ length F
  ends_with zero e h =
      let last : n - 1 ≡ e = omega (arith, h) in
      subst (λ (k : ℕ). body_start F k + body_size F k ≤ length F) last (omega (arith, r.last))
  ends_with (suc d) e h =
      omega (arith, r.follows e (omega (arith, h)), ends_with d (e + 1) (omega (arith, h)))

  pub ends : (e : ℕ) → e < n → body_start F e + body_size F e ≤ length F
  ends e l = ends_with (n - 1 - e) e (omega arith)

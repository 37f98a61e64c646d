-- The starts of a file's bodies, and the stretches that they give: each lies within the file, and is the body. Assumes
-- nothing.
use Rattle.wire.proofs.Usual.{◌≡◌, refl, sym, ap, ◌∙◌, subst, Bool, true, false, cond, ◌&&◌, List, [], ℕ, zero}
use Rattle.wire.proofs.Usual.{suc, ◌+◌, ◌-◌, ◌<◌, ◌≤◌, dec_lt, arith, ltb, lt-ltb, ne_eqb, take, drop}
use borrow.Author.Tests.{le-ltb}
use Rattle.contents.specs.Contents.{body_start, body_size, body_of, contents_ok}
use Rattle.contents.proofs.Right.{Right, right, ends}
use Rattle.casefile.specs.declared.reader.Starts.{Starts}
use Rattle.casefile.specs.Bodies.{body_count, body_in, table_starts, no_starts, starts_of, start_in, stretch_of}
use Rattle.casefile.specs.Bodies.{Within}

-- past the five it is the end
past : (S : Starts) (e : ℕ) → body_count ≤ e → start_in S e ≡ S.end
unfolding start_in
past S e l = rw (
  ne_eqb e 0 (λ h. omega (arith, h)),
  ne_eqb e 1 (λ h. omega (arith, h)),
  ne_eqb e 2 (λ h. omega (arith, h)),
  ne_eqb e 3 (λ h. omega (arith, h)),
  ne_eqb e 4 (λ h. omega (arith, h)),
)

-- where the table is not right each start is 0
none : (e : ℕ) → start_in no_starts e ≡ 0
unfolding start_in
none zero = refl
none (suc zero) = refl
none (suc (suc zero)) = refl
none (suc (suc (suc zero))) = refl
none (suc (suc (suc (suc zero)))) = refl
none (suc (suc (suc (suc (suc e))))) = past no_starts (suc (suc (suc (suc (suc e))))) (omega arith)

-- where it is, each start is the table's, and the next is where the body ends
own_start : (F : List ℕ) (e : ℕ) → e < body_count → start_in (table_starts F) e ≡ body_start F e
unfolding start_in
own_start F zero l = refl
own_start F (suc zero) l = refl
own_start F (suc (suc zero)) l = refl
own_start F (suc (suc (suc zero))) l = refl
own_start F (suc (suc (suc (suc zero)))) l = refl
own_start F (suc (suc (suc (suc (suc e))))) l = absurd (omega arith)

module _ (F : List ℕ) (r : Right body_count F) where
  own_next : (e : ℕ) → e < body_count → start_in (table_starts F) (e + 1) ≡ body_start F e + body_size F e
  unfolding start_in
  own_next zero l = r.follows 0 (omega arith)
  own_next (suc zero) l = r.follows 1 (omega arith)
  own_next (suc (suc zero)) l = r.follows 2 (omega arith)
  own_next (suc (suc (suc zero))) l = r.follows 3 (omega arith)
  own_next (suc (suc (suc (suc zero)))) l = sym r.last
  own_next (suc (suc (suc (suc (suc e))))) l = absurd (omega arith)

-- the starts of a file lie within it
within : (F : List ℕ) → Within F (starts_of F)
unfolding starts_of
within F = go (contents_ok body_count F) refl
  where
    go : (b : Bool) → contents_ok body_count F ≡ b → Within F (cond b (table_starts F) no_starts)
    go true h =
        let r = right body_count F h in
        record {
          ordered = λ e l. omega (arith, own_start F e l, own_next F r e l);
          inside = λ e l. omega (arith, own_next F r e l, ends r e l);
        }
    go false h = record {
      ordered = λ e l. omega (arith, none e, none (e + 1));
      inside = λ e l. omega (arith, none (e + 1));
    }

-- the starts by the test of the table, and all that is said of them
pub starts_none : (F : List ℕ) → contents_ok body_count F ≡ false → no_starts ≡ starts_of F
unfolding starts_of
starts_none F h = sym (ap (λ (b : Bool). cond b (table_starts F) no_starts) h)

pub starts_own : (F : List ℕ) → contents_ok body_count F ≡ true → table_starts F ≡ starts_of F
unfolding starts_of
starts_own F h = sym (ap (λ (b : Bool). cond b (table_starts F) no_starts) h)

pub both : (F : List ℕ) {S : Starts} → S ≡ starts_of F → (S ≡ starts_of F) × Within F S
both F e = (e, subst (Within F) (sym e) (within F))

-- a stretch of no length has nothing in it
empty : (F : List ℕ) (S : Starts) (e : ℕ) → start_in S (e + 1) ≤ start_in S e → stretch_of F S e ≡ []
unfolding stretch_of
empty F S e l =
    let z : start_in S (e + 1) - start_in S e ≡ 0 = omega arith in
    ap (λ (n : ℕ). take n (drop (start_in S e) F)) z

-- the stretches that a file's starts give are its bodies
pub stretch_body : (F : List ℕ) (e : ℕ) → stretch_of F (starts_of F) e ≡ body_in F e
unfolding starts_of stretch_of body_in body_of
stretch_body F e = go (contents_ok body_count F) refl (dec_lt e body_count)
  where
    go : (b : Bool) → contents_ok body_count F ≡ b → Dec (e < body_count) →
        stretch_of F (cond b (table_starts F) no_starts) e ≡ cond (b && ltb e body_count) (body_of F e) []
    go true h (yes l) =
        let start = own_start F e l in
        let size : start_in (table_starts F) (e + 1) - start_in (table_starts F) e ≡ body_size F e =
        omega (arith, start, own_next F (right body_count F h) e l) in
        (λ i. take (size i) (drop (start i) F))
        ∙ sym (ap (λ (b : Bool). cond b (body_of F e) []) (lt-ltb e body_count l))
    go true h (no n) =
        empty F (table_starts F) e
        (omega (arith, past (table_starts F) e (omega (arith, n)), past (table_starts F) (e + 1) (omega (arith, n))))
        ∙ sym (ap (λ (b : Bool). cond b (body_of F e) []) (le-ltb e body_count (omega (arith, n))))
    go false h d = empty F no_starts e (omega (arith, none e, none (e + 1)))

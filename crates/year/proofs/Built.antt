-- A ledger file built from the bodies of its months has those bodies: each entry of its contents table reads back, the
-- table is right, and each month's body is the one it was built from. Assumes nothing.
use Rattle.wire.proofs.Usual.{◌≡◌, refl, sym, ap, ap₂, ◌∙◌, true, List, ◌++◌, ℕ, zero, suc, ◌+◌, ◌*◌, ◌<◌}
use Rattle.wire.proofs.Usual.{◌≤◌, arith, zero-add, length, take, drop, length-append}
use mathlib.Core.List.{append_assoc}
use lib.Seq.{take_at, drop_at, drop-drop}
use Rattle.wire.specs.Records.{gather}
use Rattle.wire.proofs.Records.{length-gather, gather_snoc, gather_cut, word_here}
use Rattle.contents.specs.Contents.{entry_size, contents_size, body_start, body_size, body_of, contents_ok}
use Rattle.contents.proofs.Right.{right_ok}
use Rattle.year.specs.Ledger.{month_count}
use Rattle.year.specs.Bends.{sum_of}
use Rattle.year.specs.Built.{start_in, entry_of, ledger_of}
use Rattle.year.proofs.Sums.{sum_more}

-- what was gathered is as long as its parts together
gather_long : (f : ℕ → List ℕ) (n : ℕ) → length (gather n f) ≡ sum_of (λ k. length (f k)) 0 n
unfolding gather sum_of
gather_long f zero = refl
gather_long f (suc n) =
    ap length (gather_snoc n f) ∙ length-append (gather n f) (f n)
    ∙ ap₂ ◌+◌ (gather_long f n) (ap (λ (k : ℕ). length (f k)) (sym (zero-add n)))

module _ (body : ℕ → List ℕ) where
  table : List ℕ
  table = gather month_count (entry_of body)

  table_long : (n : ℕ) → length (gather n (entry_of body)) ≡ entry_size * n
  unfolding entry_of
  table_long n = length-gather entry_size n (entry_of body) (λ k l. refl)

  -- the table and the bodies of the first months
  front_long : (m : ℕ) → length (table ++ gather m body) ≡ start_in body m
  unfolding start_in table
  front_long m =
      length-append table (gather m body) ∙ ap₂ ◌+◌ (table_long month_count) (gather_long body m)

  pub ledger_long : length (ledger_of body) ≡ start_in body month_count
  unfolding ledger_of table
  ledger_long = front_long month_count

  start_first : start_in body 0 ≡ contents_size month_count
  unfolding start_in sum_of
  start_first = refl

  start_next : (m : ℕ) → start_in body (m + 1) ≡ start_in body m + length (body m)
  unfolding start_in
  start_next m = omega (arith, sum_more (λ k. length (body k)) 0 m, ap (λ (k : ℕ). length (body k)) (zero-add m))

  module _ (m : ℕ) (l : m < month_count) where
    -- the file from the entry of month m on
    entry_from : drop (entry_size * m) (ledger_of body)
        ≡ entry_of body m ++ ((gather_cut month_count (entry_of body) m l).later ++ gather month_count body)
    unfolding ledger_of
    entry_from =
        let c = gather_cut month_count (entry_of body) m l in
        ap (λ (t : List ℕ). drop (entry_size * m) (t ++ gather month_count body)) c.parts
        ∙ ap (drop (entry_size * m))
        (append_assoc (gather m (entry_of body)) (entry_of body m ++ c.later) (gather month_count body))
        ∙ drop_at (gather m (entry_of body)) _ (entry_size * m) (table_long m)
        ∙ append_assoc (entry_of body m) c.later (gather month_count body)

    -- the file, cut before the body of month m and after it
    whole : ledger_of body ≡ (table ++ gather m body) ++ (body m ++ (gather_cut month_count body m l).later)
    unfolding ledger_of table
    whole =
        ap (λ (t : List ℕ). table ++ t) (gather_cut month_count body m l).parts
        ∙ sym (append_assoc table (gather m body) (body m ++ (gather_cut month_count body m l).later))

    fits : start_in body m + length (body m) ≤ length (ledger_of body)
    fits =
        let later = (gather_cut month_count body m l).later in
        omega (
          arith,
          ap length whole,
          length-append (table ++ gather m body) (body m ++ later),
          front_long m,
          length-append (body m) later,
        )

-- a file whose numbers have 32 bits
module _ (body : ℕ → List ℕ) (small : length (ledger_of body) < 4294967296) where
  module _ (m : ℕ) (l : m < month_count) where
    start_is : body_start (ledger_of body) m ≡ start_in body m
    unfolding body_start entry_of
    start_is =
        word_here (entry_size * m) (ledger_of body) (start_in body m) _ (omega (arith, fits body m l))
        (entry_from body m l)

    size_is : body_size (ledger_of body) m ≡ length (body m)
    unfolding body_size entry_of
    size_is =
        word_here (entry_size * m + 4) (ledger_of body) (length (body m)) _ (omega (arith, fits body m l))
        (sym (drop-drop 4 (entry_size * m) (ledger_of body)) ∙ ap (drop 4) (entry_from body m l))

    pub body_is : body_of (ledger_of body) m ≡ body m
    unfolding body_of
    body_is =
        ap₂ (λ (k j : ℕ). take k (drop j (ledger_of body))) size_is start_is
        ∙ ap (λ (t : List ℕ). take (length (body m)) (drop (start_in body m) t)) (whole body m l)
        ∙ ap (take (length (body m)))
        (drop_at (table body ++ gather m body) _ (start_in body m) (front_long body m))
        ∙ take_at (body m) _ (length (body m)) refl

  pub contents_is_ok : contents_ok month_count (ledger_of body) ≡ true
  contents_is_ok = right_ok month_count (ledger_of body) (record {
    first = start_is 0 (omega arith) ∙ start_first body;
    follows = λ e l.
        start_is (e + 1) (omega arith) ∙ start_next body e
        ∙ sym (ap₂ ◌+◌ (start_is e (omega arith)) (size_is e (omega arith)));
    last =
        ap₂ ◌+◌ (start_is 11 (omega arith)) (size_is 11 (omega arith)) ∙ sym (start_next body 11)
        ∙ sym (ledger_long body);
  })

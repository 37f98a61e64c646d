-- The five bodies of a case file, and the project and the cycle records that they are (01, "The case file"). F is the
-- file's bytes; the table at its front says where the bodies stand.
use Rattle.std.specs.Prelude.{ℕ, ◌+◌, ◌-◌, ◌/◌, ◌<◌, ◌≤◌, ◌&&◌, cond, List, [], eqb, ltb, length, take, drop}
use Rattle.contents.specs.Contents.{body_start, body_of, contents_ok}
use Rattle.project.specs.Project.{Project, row_of, record_size}
use Rattle.casefile.specs.declared.reader.Starts.{Starts}

-- 01, "The case file": five entries, for G, I, B, O, T in that order
abbrev pub body_count : ℕ
body_count = 5

abbrev pub body_g : ℕ
body_g = 0

abbrev pub body_i : ℕ
body_i = 1

abbrev pub body_b : ℕ
body_b = 2

abbrev pub body_o : ℕ
body_o = 3

abbrev pub body_t : ℕ
body_t = 4

-- 01, "The case file": every body is found through the table. Where the table is not right, and past the five, there is
-- none
unfoldable pub body_in : List ℕ → ℕ → List ℕ
body_in F e = cond (contents_ok body_count F && ltb e body_count) (body_of F e) []

-- 01, "The case file": the project is G, I, B and O
abbrev pub project_from : List ℕ → List ℕ → List ℕ → List ℕ → Project
project_from G I B O = record { groups = G; inputs = I; blocks = B; outputs = O }

unfoldable pub project_of : List ℕ → Project
project_of F = project_from (body_in F body_g) (body_in F body_i) (body_in F body_b) (body_in F body_o)

-- 01, "The case file", T: cycle records of equal size; how many, and record c
unfoldable pub record_count : List ℕ → ℕ
record_count F = length (body_in F body_t) / record_size (body_in F body_g) (body_in F body_i)

unfoldable pub record_of : List ℕ → ℕ → List ℕ
record_of F c = row_of (record_size (body_in F body_g) (body_in F body_i)) c (body_in F body_t)

-- 01, "The case file": where the bodies start, as the table says, and where the last ends, which is the file's end.
-- Where the table is not right, each is 0
abbrev pub table_starts : List ℕ → Starts
table_starts F = record {
  group = body_start F body_g;
  input = body_start F body_i;
  block = body_start F body_b;
  output = body_start F body_o;
  trace = body_start F body_t;
  end = length F;
}

abbrev pub no_starts : Starts
no_starts = record { group = 0; input = 0; block = 0; output = 0; trace = 0; end = 0 }

unfoldable pub starts_of : List ℕ → Starts
starts_of F = cond (contents_ok body_count F) (table_starts F) no_starts

-- the start of body e, and past the five the end
unfoldable pub start_in : Starts → ℕ → ℕ
start_in S e =
    cond (eqb e body_g) S.group
    (cond (eqb e body_i) S.input
    (cond (eqb e body_b) S.block
    (cond (eqb e body_o) S.output
    (cond (eqb e body_t) S.trace S.end))))

-- the stretch of the file from there to the next start
unfoldable pub stretch_of : List ℕ → Starts → ℕ → List ℕ
stretch_of F S e = take (start_in S (e + 1) - start_in S e) (drop (start_in S e) F)

-- each of the five lies within the file
pub record Within (F : List ℕ) (S : Starts) : Type 0 where
  pub ordered : (e : ℕ) → e < body_count → start_in S e ≤ start_in S (e + 1)
  pub inside : (e : ℕ) → e < body_count → start_in S (e + 1) ≤ length F

-- A table of contents at the front of a file, of n entries, and the bodies that it names (01, "The case file", where n
-- is 5). F is the file's bytes; every definition is total, since a byte past the end reads as 0.
use Rattle.std.specs.Prelude.{ℕ, ◌+◌, ◌-◌, ◌*◌, Bool, ◌&&◌, List, eqb, length, take, drop}
use Rattle.wire.specs.Words.{le32}
use Rattle.wire.specs.Places.{all}

-- 01, "The case file": an entry has 8 bytes, start and length, each 32-bit
abbrev pub entry_size : ℕ
entry_size = 8

abbrev pub contents_size : ℕ → ℕ
contents_size n = entry_size * n

unfoldable pub body_start : List ℕ → ℕ → ℕ
body_start F e = le32 F (entry_size * e)

unfoldable pub body_size : List ℕ → ℕ → ℕ
body_size F e = le32 F (entry_size * e + 4)

-- 01, "The case file": a body is the stretch of the file that its entry names
unfoldable pub body_of : List ℕ → ℕ → List ℕ
body_of F e = take (body_size F e) (drop (body_start F e) F)

-- 01, "The case file": the first body starts where the table ends, each other where the one before ends, and the last
-- ends at the end of the file
unfoldable pub follows_ok : List ℕ → ℕ → Bool
follows_ok F e = eqb (body_start F (e + 1)) (body_start F e + body_size F e)

unfoldable pub contents_ok : ℕ → List ℕ → Bool
contents_ok n F =
    eqb (body_start F 0) (contents_size n)
    && all (follows_ok F) (n - 1)
    && eqb (body_start F (n - 1) + body_size F (n - 1)) (length F)

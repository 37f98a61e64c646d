-- What private functions ask of each other; nothing here has to be believed. F is a file, L a table's lines.
use Rattle.std.specs.Prelude.{ℕ, ◌*◌, ◌≤◌, ◌<◌, Bool, ◌&&◌, List, sum_by, Option, Some, None}
use Rattle.contents.specs.Contents.{body_of}
use Rattle.year.specs.declared.Line.{Line}
use Rattle.year.specs.declared.bends.Pool.{Pool}
use Rattle.year.specs.declared.bends.Sides.{Sides}
use Rattle.year.specs.Ledger.{month_count, month_most, finding_count}
use Rattle.year.specs.Bends.{line_at, both_sides, larger}

-- 02, W4: no month has too many findings
pub record Small (F : List ℕ) : Type 0 where
  pub month : (m : ℕ) → m < month_count → finding_count (body_of F m) ≤ month_most

-- 02, W4: no line has too many findings, nor more dismissed ones than it has findings
pub record Counted (L : List Line) : Type 0 where
  pub few : (m : ℕ) → m < month_count → (line_at L m).findings ≤ month_most
  pub part : (m : ℕ) → m < month_count → (line_at L m).dismissed ≤ (line_at L m).findings

-- 02, W4: months, pooled: all their findings, and all their dismissed ones
abbrev pub pooled : List Line → Pool
pooled L = record { findings = sum_by (λ l. l.findings) L; dismissed = sum_by (λ l. l.dismissed) L }

-- 02, W4: at most twelve times 4,095 findings
pub record SmallPool (p : Pool) : Type 0 where
  pub few : p.findings ≤ month_count * month_most
  pub part : p.dismissed ≤ p.findings

pub record SmallSides (s : Sides) : Type 0 where
  pub upto : SmallPool s.upto
  pub later : SmallPool s.later

abbrev pub SmallBest : Option (ℕ × Sides) → Type 0
SmallBest (Some t) = SmallSides t.1
SmallBest None = Unit {0}

-- 02, W4: the month of s has a finding on both sides, and there was none before, or the best of them, a month and its
-- sides t, has a smaller difference
abbrev pub better : Sides → Option (ℕ × Sides) → Bool
better s (Some t) = both_sides s && larger s t.1
better s None = both_sides s

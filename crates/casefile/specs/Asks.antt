-- What private functions ask of each other; nothing here has to be believed.
use Rattle.std.specs.Prelude.{ℕ, ◌+◌, ◌*◌, ◌<◌, ◌≡◌, Bool, true, false, cond, List, length, get_or}
use Rattle.wire.specs.Places.{all}
use Rattle.project.specs.Project.{block_record, link_count}
use Rattle.casefile.specs.declared.table.Rule.{Rule}
use Rattle.casefile.specs.Rules.{nothing_reads, channel_rule, groups_size_ok, inputs_size_ok, blocks_size_ok}
use Rattle.casefile.specs.Refusal.{refusal_of}

-- ---- the table: what a rule counts on of those with lower numbers

pub record Reached (G I B : List ℕ) (r : Rule) : Type 0 where
  pub groups : 3 < refusal_of r → groups_size_ok G ≡ true
  pub inputs : 4 < refusal_of r → inputs_size_ok I ≡ true
  pub blocks : 5 < refusal_of r → blocks_size_ok B ≡ true

-- ---- the marks by which the check of DECOUPLE channels remembers what is read (01, "Turned down", 8): port p of block
-- b has the mark at link_count * b + p. It is false while nothing read the port, and true from then on

abbrev pub mark_count : ℕ
mark_count = link_count * 64

abbrev pub mark_of : List Bool → ℕ → ℕ → Bool
mark_of M b p = get_or M (link_count * b + p) false

-- the marks N are those of M, with true where the port was not passed by
pub record Marked (M N : List Bool) (by : ℕ → ℕ → Bool) : Type 0 where
  pub each : (b p : ℕ) → b < 64 → p < link_count → mark_of N b p ≡ cond (by b p) (mark_of M b p) true

-- the marks M say of each output port whether something reads it
pub record Meant (B O : List ℕ) (M : List Bool) : Type 0 where
  pub size : length M ≡ mark_count
  pub each : (b p : ℕ) → b < 64 → p < link_count → mark_of M b p ≡ cond (nothing_reads B O b p) false true

-- a mark as the number that `channel_rule` compares
abbrev pub number_of : Bool → ℕ
number_of m = cond m 1 0

-- the test of channel p of block b by the marks, and of all its channels
unfoldable pub channel_by : List ℕ → List Bool → ℕ → ℕ → Bool
channel_by B M b p = channel_rule (block_record B b) p (number_of (mark_of M b p))

unfoldable pub channels_by : List ℕ → List Bool → ℕ → Bool
channels_by B M b = all (channel_by B M b) link_count

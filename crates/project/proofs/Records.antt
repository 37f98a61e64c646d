-- The bytes of a record of a size in a list. Assumes nothing.
use Rattle.wire.proofs.Usual.{◌≡◌, ◌∙◌, List, ℕ, ◌+◌, ◌*◌, ◌<◌, drop}
use lib.Seq.{get_or-take, get_or-drop}
use Rattle.wire.specs.Words.{byte_at}
use Rattle.project.specs.Project.{row_of}

module _ (w k : ℕ) (s : List ℕ) where
  pub row_byte : (j : ℕ) → j < w → byte_at (row_of w k s) j ≡ byte_at s (w * k + j)
  unfolding row_of
  row_byte j l = get_or-take w (drop (w * k) s) j 0 l ∙ get_or-drop (w * k) s j 0

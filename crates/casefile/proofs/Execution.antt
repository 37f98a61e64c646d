-- The execution numbers of a sound project are 0 to n - 1, each once: the block at a number has it.
-- Assumes nothing.
use Rattle.wire.proofs.Usual.{◌≡◌, List, ℕ, ◌<◌}
use Rattle.project.specs.Project.{block_count, order_of, other_order, block_at}
use Rattle.casefile.specs.Sound.{Sound}
use Rattle.project.proofs.Onto.{Apart, place_of, place_lt, place_is}

module _ {G B : List ℕ} {n : ℕ} (s : Sound G B n) where
  orders : Apart (order_of B) (block_count B) (block_count B)
  orders = record { below = s.order_below; other = s.order_other }

  module _ (e : ℕ) (l : e < block_count B) where
    pub block_at_lt : block_at B e < block_count B
    unfolding block_at other_order place_of
    block_at_lt = place_lt orders e l

    pub block_at_is : order_of B (block_at B e) ≡ e
    unfolding block_at other_order place_of
    block_at_is = place_is orders e l

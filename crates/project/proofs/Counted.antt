-- The counts of a project, field by field, and the size of its cycle record. Assumes nothing.
use Rattle.wire.proofs.Usual.{◌≡◌, ap, List, ℕ, ◌≤◌, arith, length}
use borrow.Author.Tests.{le-leb}
use Rattle.project.specs.declared.Counts.{Counts}
use Rattle.project.specs.Project.{device, group_count, input_count, block_count, output_count, record_size, file_most}
use Rattle.project.specs.Project.{size_counted, counts_of}

module _ (G I : List ℕ) where
  pub size_counted_is : length G ≤ file_most → length I ≤ file_most → size_counted G I ≡ record_size G I
  unfolding size_counted
  size_counted_is l m = rw (le-leb (length G) file_most l, le-leb (length I) file_most m)

  -- so it is for the bodies of an accepted file
  pub size_few : group_count G ≤ 8 → input_count I ≤ 128 → size_counted G I ≡ record_size G I
  unfolding group_count input_count
  size_few l m = size_counted_is (omega arith) (omega arith)

module _ (G I B O : List ℕ) {c : Counts} (e : c ≡ counts_of G I B O) where
  pub device_is : c.device ≡ device G
  unfolding counts_of
  device_is = ap (λ (x : Counts). x.device) e

  pub is_groups : c.groups ≡ group_count G
  unfolding counts_of
  is_groups = ap (λ (x : Counts). x.groups) e

  pub is_inputs : c.inputs ≡ input_count I
  unfolding counts_of
  is_inputs = ap (λ (x : Counts). x.inputs) e

  pub is_blocks : c.blocks ≡ block_count B
  unfolding counts_of
  is_blocks = ap (λ (x : Counts). x.blocks) e

  pub is_outputs : c.outputs ≡ output_count O
  unfolding counts_of
  is_outputs = ap (λ (x : Counts). x.outputs) e

  pub is_size : c.size ≡ size_counted G I
  unfolding counts_of
  is_size = ap (λ (x : Counts). x.size) e

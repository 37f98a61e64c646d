-- What private functions ask of each other; nothing here has to be believed. F is the file, c its project's counts, S a
-- buffer for the state, D one for the findings.
use Rattle.std.specs.Prelude.{ℕ, ◌*◌, ◌≡◌, List, length, replicate, Ok}
use Rattle.project.specs.declared.Counts.{Counts}
use Rattle.casefile.specs.Bodies.{body_g, body_i, body_b, body_t, body_in, project_of}
use Rattle.casefile.specs.Refusal.{verdict}
use Rattle.evaluator.specs.State.{state_length, findings_length}
use Rattle.project.specs.Project.{counts_in}
use Rattle.evaluator.specs.Asks.{order_list}
use Rattle.report.specs.Lines.{line_most}

-- 01, "The case file": room for the lines of a cycle's findings, of at most 64 blocks
abbrev pub text_most : ℕ
text_most = line_most * 64

-- 01, "The trace program": an accepted file, its counts, groups, inputs, blocks and records, the blocks by execution
-- number, and zeros for the findings
pub record Started (F : List ℕ) (c : Counts) (G I B T K D : List ℕ) : Type 0 where
  pub accepted : verdict F ≡ Ok tt
  pub counts : c ≡ counts_in (project_of F)
  pub groups : G ≡ (project_of F).groups
  pub inputs : I ≡ (project_of F).inputs
  pub blocks : B ≡ (project_of F).blocks
  pub records : T ≡ body_in F body_t
  pub order : K ≡ order_list B
  pub clean : D ≡ replicate (findings_length (project_of F).blocks) 0

-- 01, "The case file": the groups, inputs, blocks and records that were handed out are the file's
pub record Handed (F G I B T : List ℕ) : Type 0 where
  pub groups : G ≡ body_in F body_g
  pub inputs : I ≡ body_in F body_i
  pub blocks : B ≡ body_in F body_b
  pub records : T ≡ body_in F body_t

-- 01, "Turned down", Sizes: a file's counts, and buffers of their sizes where the file is accepted, zeros for findings
pub record Offered (F : List ℕ) (c : Counts) (S D : List ℕ) : Type 0 where
  pub counts : c ≡ counts_in (project_of F)
  pub size : verdict F ≡ Ok tt → length S ≡ state_length (project_of F).groups (project_of F).blocks
  pub clean : verdict F ≡ Ok tt → D ≡ replicate (findings_length (project_of F).blocks) 0

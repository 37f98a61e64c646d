-- What was handed out of a file by its starts are its bodies, and the first four bodies are its project.
-- Assumes nothing.
use Rattle.wire.proofs.Usual.{◌≡◌, ap, ◌∙◌, List, ℕ}
use Rattle.casefile.specs.declared.reader.Starts.{Starts}
use Rattle.casefile.specs.Bodies.{body_g, body_i, body_b, body_o, body_in, project_from, project_of, starts_of}
use Rattle.casefile.specs.Bodies.{stretch_of}
use Rattle.casefile.proofs.Stretches.{stretch_body}

module _ (F : List ℕ) where
  pub project_is : {G I B O : List ℕ} → G ≡ body_in F body_g → I ≡ body_in F body_i →
      B ≡ body_in F body_b → O ≡ body_in F body_o → project_from G I B O ≡ project_of F
  unfolding project_of
  project_is g n b o = λ i. project_from (g i) (n i) (b i) (o i)

  pub body_is : {S : Starts} → S ≡ starts_of F → (e : ℕ) {X : List ℕ} → X ≡ stretch_of F S e → X ≡ body_in F e
  body_is {S} s e x = x ∙ ap (λ (S : Starts). stretch_of F S e) s ∙ stretch_body F e

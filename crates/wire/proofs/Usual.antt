-- Names of the library that many proofs use, each with the module that it comes from.
pub use Prim.Native.Nat.{◌%◌, ◌*◌, ◌+◌, ◌-◌, ◌/◌, ◌<◌, ◌≤◌, suc, zero, ℕ}
pub use borrow.Author.Rules.{rules}
pub use borrow.Author.Tests.{eq-eqb, eqb-true, lt-ltb, ltb-true, ne_eqb, not-true}
pub use lib.Dec.{eqb, ltb}
pub use lib.ListN.{drop, length, length-append, length-drop, length-replicate, replicate, set, take}
pub use lib.Seq.{length-take-le, sets}
pub use mathlib.Core.Bool.{Bool, ◌&&◌, ◌||◌, cond, false, not, true, true≢false}
pub use mathlib.Core.List.{List, [], ◌++◌, ◌∷◌, append-nil}
pub use mathlib.Core.Logic.{◌≢◌}
pub use mathlib.Core.Path.{◌∙◌, ◌≡◌, ap, ap₂, refl, subst, sym}
pub use native.Mathlib.Decide.{dec_lt, ℕ_discrete}
pub use native.Mathlib.Nat.{zero-add}
pub use native.Mathlib.Omega.{arith}

-- What `among` asks, as a choice of equations: a number is one of a list's, or none of them.
-- Assumes nothing.
use mathlib.Core.Path.{◌≡◌, sym}
use mathlib.Core.Bool.{true, false}
use mathlib.Core.List.{List, [], ◌∷◌}
use mathlib.Core.Logic.{◌⊎◌, inl, inr}
use Prim.Native.Nat.{ℕ}
use borrow.Author.Tests.{eq-eqb, ne_eqb}
use Rattle.base.proofs.Tests.{either_true}
use Rattle.values.specs.Judged.{among}

-- n is k or one of those behind it
abbrev pub OneOf : ℕ → List ℕ → ℕ → Type 0
OneOf k [] n = n ≡ k
OneOf k (j ∷ ks) n = (n ≡ k) ⊎ OneOf j ks n

-- then it is among them
pub one_of : (k : ℕ) (ks : List ℕ) (n : ℕ) → OneOf k ks n → among (k ∷ ks) n ≡ true
one_of k [] n e = simp (eq-eqb k n (sym e))
one_of k (j ∷ ks) n (inl e) = simp (eq-eqb k n (sym e))
one_of k (j ∷ ks) n (inr o) = simp (one_of j ks n o, either_true)

-- and where it is none of them it is not
pub none_of : (k : ℕ) (ks : List ℕ) (n : ℕ) → (OneOf k ks n → ⊥) → among (k ∷ ks) n ≡ false
none_of k [] n o = simp (ne_eqb k n (λ e. o (sym e)))
none_of k (j ∷ ks) n o = simp (ne_eqb k n (λ e. o (inl (sym e))), none_of j ks n (λ p. o (inr p)))

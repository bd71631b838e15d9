-- A rule at every number below a bound, or at every entry of a table, by one test that antt computes.
-- Assumes nothing.
use mathlib.Core.Path.{◌≡◌, refl}
use mathlib.Core.Bool.{Bool, true, false}
use mathlib.Core.List.{List, [], ◌∷◌}
use Prim.Native.Nat.{ℕ, zero, suc, ◌≤◌, ◌<◌, zero-le}
use native.Mathlib.Decide.{ℕ_discrete}
use native.Mathlib.Omega.{arith}
use borrow.Author.Tests.{leb-true}
use lib.Dec.{leb}
use lib.ListN.{get_or}
use Rattle.base.specs.Lists.{both}

pub both_left : (a b : Bool) → both a b ≡ true → a ≡ true
both_left true b e = refl
both_left false b e = e

pub both_right : (a b : Bool) → both a b ≡ true → b ≡ true
both_right true b e = e
both_right false b e = let z : ◌≡◌ {A = ℕ} 0 1 = cc in absurd (omega arith)

-- the test f at each number below n
abbrev pub below : ℕ → (ℕ → Bool) → Bool
below zero f = true
below (suc n) f = both (f n) (below n f)

pub at-below : (n : ℕ) (f : ℕ → Bool) → below n f ≡ true → (k : ℕ) → k < n → f k ≡ true
at-below zero f e k h = absurd (omega arith)
at-below (suc n) f e k h = go (at-below n f (both_right (f n) (below n f) e) k) (ℕ_discrete k n)
  where
    go : (k < n → f k ≡ true) → Dec (k ≡ n) → f k ≡ true
    go rest (yes d) = rw d (both_left (f n) (below n f) e)
    go rest (no d) = rest (omega arith)

-- the same of what is no test: P at each number below n
abbrev pub Each : (ℕ → Type 0) → ℕ → Type 0
Each P zero = Unit
Each P (suc n) = P n × Each P n

pub each_below : (P : ℕ → Type 0) (n : ℕ) → Each P n → (k : ℕ) → k < n → P k
each_below P zero e k h = absurd (omega arith)
each_below P (suc n) e k h = go (each_below P n e.1 k) (ℕ_discrete k n)
  where
    go : (k < n → P k) → Dec (k ≡ n) → P k
    go rest (yes d) = rw d e.0
    go rest (no d) = rest (omega arith)

-- no entry of a list is over m, nor what is read past its end
abbrev pub small : ℕ → List ℕ → Bool
small m [] = true
small m (x ∷ xs) = both (leb x m) (small m xs)

pub entry-small : (m : ℕ) (xs : List ℕ) → small m xs ≡ true → (i : ℕ) → get_or xs i 0 ≤ m
entry-small m [] e i = zero-le
entry-small m (x ∷ xs) e zero = leb-true x m (both_left (leb x m) (small m xs) e)
entry-small m (x ∷ xs) e (suc i) = entry-small m xs (both_right (leb x m) (small m xs) e) i

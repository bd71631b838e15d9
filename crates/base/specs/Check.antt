-- A check: the first fault that is found, with its number and its place, or what is known past it.
-- Assumes nothing.
use Rattle.std.specs.Prelude.{ℕ, ◌+◌, Bool, true, false}

pub data Check (A : Type 0) : Type 0 where
  fault : (number place : ℕ) → Check A
  pass : A → Check A

infixl 20 ◌>>=◌
-- one check, and where it passes the next: the first fault of the two
unfoldable pub ◌>>=◌ : {A B : Type 0} → Check A → (A → Check B) → Check B
fault n p >>= f = fault n p
pass a >>= f = f a

-- a test, with the number and the place of its fault
unfoldable pub test : Bool → (number place : ℕ) → Check Unit
test true n p = pass tt
test false n p = fault n p

-- A name for what a check computes through: to unfold it is to unfold what its line names.
unfoldable pub checks : ℕ
unfolding ◌>>=◌ test
checks = 0

-- a check whose places are counted from a place on
unfoldable pub from : {A : Type 0} → ℕ → Check A → Check A
from at (fault n p) = fault n (at + p)
from at (pass a) = pass a

-- the outcome that a check comes to: the fault's number, or 0
unfoldable pub outcome_of : {A : Type 0} → Check A → ℕ
outcome_of (fault n p) = n
outcome_of (pass a) = 0

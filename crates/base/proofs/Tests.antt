-- What the code's `a && b` and `a || b` come out as, against `both` and `either`: each is its second test, or its first where that decides.
-- Assumes nothing.
use mathlib.Core.Path.{◌≡◌, refl}
use mathlib.Core.Bool.{Bool, true, false}
use Rattle.base.specs.Lists.{both, either}

pub both-on : (a b : Bool) → a ≡ true → b ≡ both a b
both-on a b e = rw e

pub both_off : (a b : Bool) → a ≡ false → a ≡ both a b
both_off a b e = rw e

pub either-on : (a b : Bool) → a ≡ true → a ≡ either a b
either-on a b e = rw e

pub either_off : (a b : Bool) → a ≡ false → b ≡ either a b
either_off a b e = rw e

-- a second test that decides, or that decides nothing
pub both_true : (a : Bool) → both a true ≡ a
both_true true = refl
both_true false = refl

pub both_false : (a : Bool) → both a false ≡ false
both_false true = refl
both_false false = refl

pub either_true : (a : Bool) → either a true ≡ true
either_true true = refl
either_true false = refl

-- Where a fault's place is at most: of tests, of an entry of a list, of the lists.
-- Assumes nothing.
use Prim.Native.Nat.{ℕ, zero, suc, ◌+◌, ◌≤◌}
use native.Mathlib.Omega.{arith}
use mathlib.Core.Path.{◌≡◌}
use mathlib.Core.Bool.{Bool, true, false}
use mathlib.Core.List.{List}
use borrow.Author.Tests.{leb-true}
use lib.ListN.{length, drop, length-drop}
use Rattle.std.specs.Prelude.{Result, Ok, Err}
use Rattle.base.specs.Check.{Check, fault, pass, ◌>>=◌, test, from}
use Rattle.base.proofs.Checks.{Holds, passing, step, step-test, tested}
use Rattle.points.specs.Row.{Row}
use Rattle.points.specs.Types.{Build, Point}
use Rattle.points.specs.Place.{len_at}
use Rattle.points.specs.There.{there}
use Rattle.points.specs.declared.Spot.{Spot}
use Rattle.points.specs.declared.Missing.{Missing}
use Rattle.points.specs.declared.Missing.TheVariants.{NoPointType, NoLogical, NoParameter}
use Rattle.store.specs.Store.{Write}
use Rattle.values.specs.Judged.{judged}
use Rattle.rules.specs.Deeds.{Piece}
use Rattle.rules.specs.Entries.{Caller, Named, Source, block, named, located, spoken, after, found, next, locked_place}
use Rattle.rules.specs.Lists.{read_level, write_level, ends, fitting, reading, accepts, writing}
use Rattle.rules.proofs.Walks.{accepts-holds}

-- ---- the place of a check's fault is at most N

pub data Upto {A : Type 0} (N : ℕ) : Check A → Type 0 where
  here : {n p : ℕ} → p ≤ N → Upto N (fault n p)
  nowhere : {a : A} → Upto N (pass a)

module _ {N : ℕ} where
  pub last : (x : Bool) (n p : ℕ) → p ≤ N → Upto N (test x n p)
  unfolding test
  last true n p h = nowhere
  last false n p h = here h

  pub follow_with : {A B : Type 0} {c : Check A} {f : A → Check B} {Q : A → Type 0} → Upto N c → Holds Q c → ((a : A) → Q a → Upto N (f a)) → Upto N (c >>= f)
  unfolding ◌>>=◌
  follow_with (here h) q k = here h
  follow_with nowhere (passing q) k = k _ q

  pub follow : {A B : Type 0} {c : Check A} {f : A → Check B} → Upto N c → ((a : A) → Upto N (f a)) → Upto N (c >>= f)
  unfolding ◌>>=◌
  follow (here h) k = here h
  follow nowhere k = k _

  pub ask : {B : Type 0} {x : Bool} (n p : ℕ) {y : Check B} → p ≤ N → (x ≡ true → Upto N y) → Upto N (test x n p >>= λ _. y)
  ask {x} n p h k = follow_with (last x n p h) (tested x n p) λ _. k

  pub there-upto : (q : Result Spot Missing) (pt pl pk : ℕ) → pt ≤ N → pl ≤ N → pk ≤ N → Upto N (there q pt pl pk)
  unfolding there
  there-upto (Ok spot) pt pl pk h k m = nowhere
  there-upto (Err NoPointType) pt pl pk h k m = here h
  there-upto (Err NoLogical) pt pl pk h k m = here k
  there-upto (Err NoParameter) pt pl pk h k m = here m

  -- ---- an entry, in data d that begins at place at

  found-upto : (b : Build) (level : Point → ℕ) (who : Caller) (t l k pt pl pk : ℕ) → pt ≤ N → pl ≤ N → pk ≤ N → Upto N (found b level who t l k pt pl pk)
  unfolding found
  found-upto b level who t l k pt pl pk ht hl hk = follow (there-upto _ pt pl pk ht hl hk) λ _. ask _ _ ht λ _. nowhere

  next-upto : (b : Build) (level : Point → ℕ) (who : Caller) (src : Source) (d : List ℕ) (at : ℕ) → 1 ≤ N → at + length d ≤ N → Upto N (next b level who src d at)
  unfolding next
  next-upto b level who (block i l k) d at one h = nowhere
  next-upto b level who named d at one h =
      ask _ _ h λ e. let three = leb-true 3 (length d) e in found-upto b level who _ _ _ at (at + 1) (at + 2) (omega arith) (omega arith) (omega arith)
  next-upto b level who (located bs) d at one h = found-upto b level who _ _ _ 1 1 1 one one one

-- a value
from-upto : {A : Type 0} (M N at : ℕ) {c : Check A} → at + M ≤ N → Upto M c → Upto N (from at c)
unfolding from
from-upto M N at h (here {p} k) = here {p = at + p} (omega arith)
from-upto M N at h nowhere = nowhere

judged-upto : (b : Build) (r : Row) (l : ℕ) (v : List ℕ) → Upto 0 (judged b r l v)
unfolding judged
judged-upto b r l v = ask _ _ (omega arith) λ _. ask _ _ (omega arith) λ _. nowhere

module _ (N : ℕ) where
  accepts-upto : (b : Build) (who : Caller) (s : List ℕ) (ws : List Write) (p : Named) (d : List ℕ) (locked at : ℕ) → locked ≤ N → at + length d ≤ N
      → Upto N (accepts b who s ws p d locked at)
  unfolding accepts
  accepts-upto b who s ws p d locked at hl h =
      ask _ _ hl λ _. ask _ _ h λ _. follow (from-upto 0 N at (omega arith) (judged-upto b _ p.logical _)) λ _. ask _ _ (omega arith) λ _. nowhere

  locked_upto : (src : Source) (at : ℕ) → 1 ≤ N → at ≤ N → locked_place src at ≤ N
  locked_upto (block i l k) at one h = h
  locked_upto named at one h = h
  locked_upto (located bs) at one h = one

  -- ---- the lists

  -- the numbers that name an entry are there
  next-long : (b : Build) (level : Point → ℕ) (who : Caller) (src : Source) (d : List ℕ) (at : ℕ) → Holds (λ _. spoken src ≤ length d) (next b level who src d at)
  unfolding next found
  next-long b level who (block i l k) d at = passing (omega arith)
  next-long b level who named d at = step-test _ _ λ e. step _ λ _. step _ λ _. passing (leb-true _ _ e)
  next-long b level who (located bs) d at = step _ λ _. step _ λ _. passing (omega arith)

  pub reading-upto : (b : Build) (who : Caller) (src : Source) (n : ℕ) (d : List ℕ) (at : ℕ) (ps : List Piece) → 1 ≤ N → at + length d ≤ N
      → Upto N (reading b who src n d at ps)
  unfolding reading ends fitting
  reading-upto b who src zero d at ps one h = ask _ _ (omega arith) λ _. ask _ _ (omega arith) λ _. nowhere
  reading-upto b who src (suc n) d at ps one h =
      follow_with (next-upto b read_level who src d at one h) (next-long b read_level who src d at) λ p long.
      reading-upto b who (after src) n (drop (spoken src) d) (at + spoken src) _ one (simp length-drop (omega arith))

  pub writing-upto : (b : Build) (who : Caller) (s : List ℕ) (src : Source) (n : ℕ) (d : List ℕ) (at : ℕ) (ws : List Write) → 1 ≤ N → at + length d ≤ N
      → Upto N (writing b who s src n d at ws)
  unfolding writing ends
  writing-upto b who s src zero d at ws one h = ask _ _ (omega arith) λ _. nowhere
  writing-upto b who s src (suc n) d at ws one h =
      follow_with (next-upto b write_level who src d at one h) (next-long b write_level who src d at) λ p long.
      follow_with (accepts-upto b who s ws p (drop (spoken src) d) _ _ (locked_upto src at one (omega arith)) (simp length-drop (omega arith))) (accepts-holds b who s ws p _ _ _) λ _ a.
      writing-upto b who s (after src) n (drop (len_at p.type p.parameter) (drop (spoken src) d)) _ _ one
      (simp length-drop (omega (arith, simp length-drop at a.long)))

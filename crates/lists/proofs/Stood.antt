-- What is known of an entry that the rules find: it is a parameter of the build, and the bytes that name it are there.
-- Assumes nothing.
use Prim.Native.Nat.{ℕ, suc, ◌+◌, ◌-◌, ◌≤◌}
use native.Mathlib.Nat.{add-zero}
use native.Mathlib.Omega.{arith}
use mathlib.Core.Path.{◌≡◌, refl}
use mathlib.Core.List.{List}
use borrow.Author.Tests.{leb-true}
use lib.ListN.{length, drop, length-drop}
use Rattle.base.specs.Check.{Check, pass, ◌>>=◌}
use Rattle.base.proofs.Checks.{Holds, passing, step, holds-map, first-test, first_passes}
use Rattle.points.specs.Types.{Point, gateway}
use Rattle.rules.specs.Entries as rules
use Rattle.rules.specs.Entries.{Named, Source, block, named, located, spoken, after, next}
use Rattle.rules.proofs.Found.{Stands, found-holds}
use Rattle.lists.specs.Walks.{Standing, AnyStanding, entry_of, entry_check}

module _ (level : Point → ℕ) (who : rules.Caller) where
  pub next_stands : (src : Source) (n : ℕ) (d : List ℕ) (at : ℕ) → AnyStanding src (suc n) → Holds (Stands gateway) (next gateway level who src d at)
  unfolding next
  next_stands (block i l k) n d at h = let w = rw add-zero at (h 0 (omega arith)) in passing (record { logical = w.logical; parameter = w.parameter })
  next_stands named n d at h = step _ λ _. holds-map (found-holds gateway level who _ _ _ _ _ _) (λ _ r. r.stands)
  next_stands (located bs) n d at h = holds-map (found-holds gateway level who _ _ _ _ _ _) (λ _ r. r.stands)

  pub spoken_there : (src : Source) (d : List ℕ) (at : ℕ) {p : Named} → next gateway level who src (drop at d) at ≡ pass p → spoken src ≤ length d - at
  unfolding next
  spoken_there (block i l k) d at e = omega arith
  spoken_there named d at e = let y : 3 ≤ length (drop at d) = leb-true _ _ (first-test _ _ _ _ e) in omega (arith, length-drop at d)
  spoken_there (located bs) d at e = omega arith

-- a list that stands whole does so entry by entry
pub standing_any : (src : Source) (n : ℕ) → Standing src n → AnyStanding src n
standing_any (block i l k) n h = λ e b. record { type = h.type; logical = h.logical; parameter = omega (arith, h.last) }
standing_any named n h = tt
standing_any (located bs) n h = tt

-- what is known of a list is known of it without its first entry
pub standing_after : (src : Source) (n : ℕ) → Standing src (suc n) → Standing (after src) n
standing_after (block i l k) n h = record { type = h.type; logical = h.logical; last = omega (arith, h.last) }
standing_after named n h = tt
standing_after (located bs) n h = tt

pub any_standing_after : (src : Source) (n : ℕ) → AnyStanding src (suc n) → AnyStanding (after src) n
any_standing_after (block i l k) n h = λ e b. let z : k + (e + 1) ≡ suc k + e = omega arith in rw z at (h (e + 1) (omega arith))
any_standing_after named n h = tt
any_standing_after (located bs) n h = tt

-- an entry that the rules find, as the code has it
pub entry_passes : (p : Named) → entry_check (pass p) ≡ pass (entry_of p)
unfolding entry_check ◌>>=◌
entry_passes p = refl

-- what passes behind a check that passed
pub passed_on : {A B : Type 0} (c : Check A) {x y : B} → (c >>= λ _. pass x) ≡ pass y → x ≡ y
passed_on c e = let z = (first_passes c e).1.1 in cc

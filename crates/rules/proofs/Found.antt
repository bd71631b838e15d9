-- What is known of an entry of a list once it is found: it is a parameter of the build, and its level is reached.
-- Assumes nothing.
use Prim.Native.Nat.{ℕ, suc, ◌+◌, ◌≤◌, ◌<◌}
use native.Mathlib.Omega.{arith}
use mathlib.Core.Path.{◌≡◌, refl}
use mathlib.Core.Bool.{true}
use mathlib.Core.List.{List}
use borrow.Author.Tests.{ltb-true}
use lib.ListN.{get_or}
use Rattle.std.specs.Prelude.{Result, Ok, Err}
use Rattle.base.proofs.Checks.{Holds, faulty, passing, step, step_with, anyway, step-test}
use Rattle.points.specs.Types.{Build, Point, logicals, point, height, tables}
use Rattle.points.specs.Place.{place_of}
use Rattle.points.specs.There.{there}
use Rattle.points.specs.declared.Spot.{Spot}
use Rattle.points.specs.declared.Missing.{Missing}
use Rattle.points.specs.declared.Missing.TheVariants.{NoPointType, NoLogical, NoParameter}
use Rattle.points.proofs.Placed.{Placed, placed}
use Rattle.rules.specs.Entries.{Caller, reaches, Named, Source, block, named, located, after, found, next}
use Rattle.rules.specs.Opcodes.{last_of, spans, locates}

-- what `there` passes is where the parameter lies
pub finds : (b : Build) (t l k pt pl pk : ℕ) → Holds (Placed b t l k) (there (place_of b t l k) pt pl pk)
unfolding there
finds b t l k pt pl pk = go (place_of b t l k) (λ spot e. placed b t l k e)
  where
    go : (q : Result Spot Missing) → ((spot : Spot) → q ≡ Ok spot → Placed b t l k spot) → Holds (Placed b t l k) (there q pt pl pk)
    go (Ok spot) h = passing (h spot refl)
    go (Err NoPointType) h = faulty
    go (Err NoLogical) h = faulty
    go (Err NoParameter) h = faulty

-- a parameter of the build
pub record Stands (b : Build) (p : Named) : Type 0 where
  pub logical : p.logical < logicals b p.type
  pub parameter : p.parameter < height (point p.type)

-- with a level of its type that the caller reaches
pub record Reached (b : Build) (level : Point → ℕ) (who : Caller) (p : Named) : Type 0 where
  pub stands : Stands b p
  pub enough : reaches who (level (point p.type)) ≡ true

module _ (b : Build) (level : Point → ℕ) (who : Caller) where
  -- what is known of n entries before they are taken: those of a block are checked at once
  abbrev pub Ready : Source → ℕ → Type 0
  Ready (block i l k) n = (l < logicals b i) × (k + n ≤ height (point i)) × (reaches who (level (point i)) ≡ true)
  Ready named n = Unit {0}
  Ready (located bs) n = Unit {0}

  pub found-holds : (t l k pt pl pk : ℕ) → Holds (Reached b level who) (found b level who t l k pt pl pk)
  unfolding found
  found-holds t l k pt pl pk =
      step_with (finds b t l k pt pl pk) λ _ e. step-test _ _ λ h.
      passing (record { stands = record { logical = e.logical; parameter = e.parameter }; enough = h })

  pub next-holds : (src : Source) (n : ℕ) (d : List ℕ) (at : ℕ) → Ready src (suc n) → Holds (Reached b level who) (next b level who src d at)
  unfolding next
  next-holds (block i l k) n d at r =
      let h : k < height (point i) = omega arith in
      passing (record { stands = record { logical = r.0; parameter = h }; enough = r.2 })
  next-holds named n d at r = step _ λ _. found-holds _ _ _ _ _ _
  next-holds (located bs) n d at r = found-holds _ _ _ _ _ _

  pub ready-after : (src : Source) (n : ℕ) → Ready src (suc n) → Ready (after src) n
  ready-after (block i l k) n r = (r.0, omega arith, r.2)
  ready-after named n r = tt
  ready-after (located bs) n r = tt

-- the last parameter of a block is one of the build
pub spans-finds : (b : Build) (d : List ℕ) → Holds (Placed b (get_or d 0 0) (get_or d 1 0) (last_of d)) (spans b d)
unfolding spans
spans-finds b d = step _ λ _. step _ λ _. step _ λ _. finds b _ _ _ 0 1 3

-- the table that a request names is one of the build
pub locates-known : (b : Build) (d : List ℕ) → Holds (λ _. get_or d 0 0 < logicals b tables) (locates b d)
unfolding locates
locates-known b d = step _ λ _. step-test _ _ λ known. anyway (ltb-true _ _ known) _

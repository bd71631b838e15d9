-- What the two walks keep to, at whatever entry they stand: pieces that the level may see, values that may be stored.
-- Assumes nothing.
use Prim.Native.Nat.{ℕ, zero, suc, ◌≤◌}
use native.Mathlib.Omega.{arith}
use mathlib.Core.Path.{◌≡◌, refl}
use mathlib.Core.Bool.{true}
use mathlib.Core.List.{List, [], ◌∷◌}
use borrow.Author.Tests.{leb-true}
use lib.Dec.{leb}
use lib.ListN.{length}
use lib.Seq.{length-take-le}
use Rattle.base.specs.Check.{Check, fault, pass, from}
use Rattle.base.specs.Lists.{All}
use Rattle.base.proofs.Checks.{Holds, faulty, passing, step, step_with, step-test, first_passes, first-test}
use Rattle.points.specs.Types.{Build, point, row}
use Rattle.points.specs.Place.{len_at}
use Rattle.store.specs.Store.{Write, stored}
use Rattle.store.proofs.Laws.{Sound}
use Rattle.rules.specs.Deeds.{Piece, sizes}
use Rattle.rules.specs.Entries.{Caller, request, reaches, may_write, Named, Source, after, next}
use Rattle.rules.specs.Lists.{read_level, write_level, ends, fitting, reading, entry, accepts, writing}
use Rattle.rules.proofs.Told.{Readable}
use Rattle.rules.specs.InRange.{Ranged, Judged}
use Rattle.rules.proofs.Found.{Stands, Reached, Ready, next-holds, ready-after}

-- ---- reading

-- pieces that level L may see, of as many bytes as a reply may hold
pub record Tells (b : Build) (L : ℕ) (ps : List Piece) : Type 0 where
  pub readable : All (Readable b L) ps
  pub short : sizes ps ≤ 255

pub reading-tells : (b : Build) (L : ℕ) (src : Source) (n : ℕ) (d : List ℕ) (at : ℕ) (ps : List Piece) → Ready b read_level (request L) src n
    → All (Readable b L) ps → Holds (Tells b L) (reading b (request L) src n d at ps)
unfolding reading fitting
reading-tells b L src zero d at ps r q =
    step _ λ _. step-test _ _ λ h. passing (record { readable = q; short = leb-true _ _ h })
reading-tells b L src (suc n) d at ps r q =
    step_with (next-holds b read_level (request L) src n d at r) λ p f.
    reading-tells b L (after src) n _ _ _ (ready-after b read_level (request L) src n r)
    ((f.stands.logical, omega (arith, f.stands.parameter), leb-true _ _ f.enough), (tt, q))

-- a reading that passes has passed its size all the way
pub never_over : (b : Build) (who : Caller) (src : Source) (n : ℕ) (d : List ℕ) (at : ℕ) (ps : List Piece) {all : List Piece}
    → reading b who src n d at ps ≡ pass all → sizes ps ≤ 255
unfolding reading fitting
never_over b who src zero d at ps h =
    let x = first_passes (ends d at) h in
    leb-true _ _ (first-test (leb (sizes ps) 255) 28 0 (pass ps) x.1.1)
never_over b who src (suc n) d at ps h =
    let x = first_passes (next b read_level who src d at) h in
    let y = never_over b who (after src) n _ _ _ x.1.1 in
    omega arith

-- ---- writing

-- whoever writes may write it there
pub record Allowed (who : Caller) (w : Write) : Type 0 where
  pub free : may_write who (row w.type w.parameter).access w.logical ≡ true
  pub level : reaches who (point w.type).writes ≡ true

-- values that have their place and their length, are in range, and may be written
pub record Puts (b : Build) (who : Caller) (s : List ℕ) (ws : List Write) : Type 0 where
  pub sound : All (Sound b) ws
  pub judged : Judged b s ws
  pub allowed : All (Allowed who) ws

pub nothing : (b : Build) (who : Caller) (s : List ℕ) → Puts b who s []
nothing b who s = record { sound = tt; judged = tt; allowed = tt }

-- what is accepted
pub record Accepted (b : Build) (who : Caller) (s : List ℕ) (ws : List Write) (p : Named) (d : List ℕ) : Type 0 where
  pub free : may_write who (row p.type p.parameter).access p.logical ≡ true
  pub long : len_at p.type p.parameter ≤ length d
  pub ranged : Ranged b (stored b s (entry p d ∷ ws)) (entry p d)

-- a check that passes passes with nothing more
itself : (at : ℕ) (c : Check Unit) → Holds (λ _. c ≡ pass tt) (from at c)
unfolding from
itself at (fault n p) = faulty
itself at (pass x) = passing refl

pub accepts-holds : (b : Build) (who : Caller) (s : List ℕ) (ws : List Write) (p : Named) (d : List ℕ) (locked at : ℕ)
    → Holds (λ _. Accepted b who s ws p d) (accepts b who s ws p d locked at)
unfolding accepts
accepts-holds b who s ws p d locked at =
    step-test _ _ λ free. step-test _ _ λ long. step_with (itself at _) λ _ alone. step-test _ _ λ pair.
    passing (record { free = free; long = leb-true _ _ long; ranged = (alone, pair) })

pub entry-sound : (b : Build) (p : Named) (d : List ℕ) → Stands b p → len_at p.type p.parameter ≤ length d → Sound b (entry p d)
entry-sound b p d w long = record { logical = w.logical; parameter = w.parameter; long = length-take-le _ _ long }

pub one_more : (b : Build) (who : Caller) (s : List ℕ) (ws : List Write) (p : Named) (d : List ℕ) → Reached b write_level who p → Accepted b who s ws p d
    → Puts b who s ws → Puts b who s (entry p d ∷ ws)
one_more b who s ws p d f a c =
    record {
      sound = (entry-sound b p d f.stands a.long, c.sound);
      judged = (a.ranged, c.judged);
      allowed = (record { free = a.free; level = f.enough }, c.allowed);
    }

pub writing-puts : (b : Build) (who : Caller) (s : List ℕ) (src : Source) (n : ℕ) (d : List ℕ) (at : ℕ) (ws : List Write)
    → Ready b write_level who src n → Puts b who s ws → Holds (Puts b who s) (writing b who s src n d at ws)
unfolding writing
writing-puts b who s src zero d at ws r c = step _ λ _. passing c
writing-puts b who s src (suc n) d at ws r c =
    step_with (next-holds b write_level who src n d at r) λ p f. step_with (accepts-holds b who s ws p _ _ _) λ _ a.
    writing-puts b who s (after src) n _ _ _ (ready-after b write_level who src n r) (one_more b who s ws p _ f a c)

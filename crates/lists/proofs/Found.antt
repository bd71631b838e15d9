-- A parameter that was located, with the level of its row.
-- Assumes nothing.
use Prim.Native.Nat.{ℕ, zero, suc, ◌+◌, ◌≤◌, ◌<◌}
use native.Mathlib.Omega.{arith}
use mathlib.Core.Path.{◌≡◌, refl, sym, ◌∙◌}
use mathlib.Core.Bool.{Bool, true, false}
use mathlib.Core.List.{map}
use borrow.Author.Tests.{ltb-true, ltb-false}
use lib.Dec.{ltb}
use lib.ListN.{get_or-map}
use Rattle.base.proofs.Sums.{before}
use Rattle.std.specs.Prelude.{Result, Ok, Err}
use Rattle.base.specs.Check.{fault, pass, ◌>>=◌, test}
use Rattle.points.specs.Types.{points, no_point, point, index_of, height, segments, logicals, gateway}
use Rattle.points.specs.Place.{first, place_of, Here}
use Rattle.points.specs.There.{there}
use Rattle.points.specs.declared.Missing.{Missing}
use Rattle.points.specs.declared.Missing.TheVariants.{NoPointType, NoLogical, NoParameter}
use Rattle.points.specs.declared.Spot.{Spot}
use Rattle.points.proofs.Rows.{row_below, row_reads, row-writes, six}
use Rattle.points.proofs.Placed.{Placed, placed, here_inside}
use Rattle.rules.specs.Entries as rules
use Rattle.rules.specs.Entries.{reaches, found}
use Rattle.lists.specs.Walks.{level_by, level_at, entry_of, entry_check, Sits}
use Rattle.lists.specs.declared.Purpose.{Purpose}
use Rattle.lists.specs.declared.Purpose.TheVariants.{Read, Write}

-- the level of a row is its type's
pub level_of_row : (purpose : Purpose) (i k : ℕ) → k < height (point i) → level_at purpose (first i + k) ≡ level_by purpose (point i)
level_of_row Read i k h = row_reads i k h
level_of_row Write i k h = row-writes i k h

-- the rows of the types before type 124
pub earlier_row : (i k : ℕ) → i < segments → k < height (point i) → first i + k < first segments
unfolding first point
earlier_row i k h hk = omega (arith, before (map height points) i segments h, get_or-map height points i no_point)

of_segment_here : (i l k : ℕ) → l < logicals gateway i → k < height (point i) → first segments ≤ first i + k → l < logicals gateway segments
of_segment_here i l k hl hk h = go (ltb i segments) refl
  where
    go : (b : Bool) → ltb i segments ≡ b → l < logicals gateway segments
    go true x = let y = earlier_row i k (ltb-true _ _ x) hk in absurd (omega arith)
    go false x = let z : i ≡ segments = (let w = six gateway i l hl in let v = ltb-false _ _ x in omega arith) in rw (← z) hl

-- a parameter of the build, as an entry has it
pub sits_here : (i l k : ℕ) → Here gateway i l k → Sits (entry_of (record { type = i; logical = l; parameter = k }))
unfolding entry_of
sits_here i l k h = record { spot = here_inside i l k h; segment = of_segment_here i l k h.logical h.parameter }

pub of_segment : (t l k : ℕ) {spot : Spot} → Ok spot ≡ place_of gateway t l k → first segments ≤ spot.row → l < logicals gateway segments
of_segment t l k e h =
    let p = placed gateway t l k (sym e) in
    of_segment_here (index_of t) l k p.logical p.parameter (rw p.spot_is at h)

-- a type has no more parameters than there are rows
pub height_small : (i : ℕ) → height (point i) ≤ 175
height_small i = go (height (point i)) refl
  where
    go : (h : ℕ) → height (point i) ≡ h → h ≤ 175
    go zero e = omega arith
    go (suc h) e = let x = row_below i h (omega arith) in omega arith

-- a test before an entry
tested_entry : (b : Bool) (pt : ℕ) (p : rules.Named) → entry_check (test b 25 pt >>= λ _. pass p) ≡ (test b 25 pt >>= λ _. pass (entry_of p))
unfolding entry_check ◌>>=◌ test
tested_entry true pt p = refl
tested_entry false pt p = refl

faulted_entry : (n p : ℕ) → entry_check (fault n p) ≡ fault n p
unfolding entry_check ◌>>=◌
faulted_entry n p = refl

-- an entry that is found lies where the three numbers say, and its level is its row's
pub found_is : (purpose : Purpose) (who : rules.Caller) (t l k pt pl pk : ℕ)
    → entry_check (found gateway (level_by purpose) who t l k pt pl pk)
    ≡ (there (place_of gateway t l k) pt pl pk >>= λ spot. test (reaches who (level_at purpose spot.row)) 25 pt >>= λ _. pass (record { spot = spot; logical = record { 0 = l } }))
unfolding found there ◌>>=◌ entry_of
found_is purpose who t l k pt pl pk = go (place_of gateway t l k) (λ spot e. placed gateway t l k e)
  where
    named : rules.Named
    named = record { type = index_of t; logical = l; parameter = k }

    go : (q : Result Spot Missing) → ((spot : Spot) → q ≡ Ok spot → Placed gateway t l k spot)
        → entry_check (there q pt pl pk >>= λ _. test (reaches who (level_by purpose (point (index_of t)))) 25 pt >>= λ _. pass named)
        ≡ (there q pt pl pk >>= λ spot. test (reaches who (level_at purpose spot.row)) 25 pt >>= λ _. pass (record { spot = spot; logical = record { 0 = l } }))
    go (Ok spot) h =
        let p = h spot refl in
        let level : level_at purpose spot.row ≡ level_by purpose (point (index_of t)) =
        rw p.spot_is (level_of_row purpose (index_of t) k p.parameter) in
        rw level (tested_entry _ pt named ∙ rw p.spot_is refl)
    go (Err NoPointType) h = faulted_entry 22 pt
    go (Err NoLogical) h = faulted_entry 23 pl
    go (Err NoParameter) h = faulted_entry 24 pk

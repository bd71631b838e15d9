-- Each call's checks are its table: what a request, a list's entry, a system write and a number read are refused for, in order.
-- Assumes nothing.
use Prim.Native.Nat.{ℕ, zero, suc, ◌+◌}
use native.Mathlib.Nat.{add-zero}
use mathlib.Core.Path.{◌≡◌, refl, ap}
use mathlib.Core.Bool.{Bool, true, false, not}
use mathlib.Core.List.{List, [], ◌∷◌}
use lib.ListN.{length}
use lib.Dec.{leb, ltb, eqb}
use Rattle.std.specs.Prelude.{Ok, Err, if◌then◌else◌}
use Rattle.base.specs.Check.{fault, pass, ◌>>=◌, test, from}
use Rattle.base.specs.Lists.{both}
use Rattle.base.proofs.Checks.{Holds, passing, step}
use Rattle.points.specs.Types.{Build, Point, logicals, point, height, index_of}
use Rattle.points.specs.Place.{place_of}
use Rattle.points.specs.There.{there}
use Rattle.points.specs.declared.Spot.{Spot}
use Rattle.points.specs.declared.Missing.TheVariants.{NoPointType, NoLogical, NoParameter}
use Rattle.store.specs.Store.{Write}
use Rattle.points.specs.Row.{Row}
use Rattle.values.specs.Kinds.{of_kind}
use Rattle.values.specs.Judged.{in_range, judged}
use Rattle.frame.specs.Address.{same_address, stationary, destination, source, for_us}
use Rattle.frame.specs.Frame.{longest, data_length, crc_right}
use Rattle.frame.specs.Framing.{whole, directed}
use Rattle.frame.specs.declared.Address.{Address}
use Rattle.rules.specs.Asked.{Asked, Held}
use Rattle.rules.specs.Received.{received}
use Rattle.rules.specs.Deeds.{Piece}
use Rattle.rules.specs.Entries.{Caller, Named, Source, block, named, located, after, found, next}
use Rattle.rules.specs.Lists.{read_level, write_level, ends, fitting, reading, accepts, writing}
use Rattle.demands.specs.Table.{unless, first_of}
use Rattle.demands.specs.Rows.{type_row, logical_row, parameter_row, found_table, entry_table, name_of, value_table, read_table, write_table}
use Rattle.demands.specs.Tables.{received_table}
use Rattle.demands.proofs.Says.{Says, blank, say, ask, follow, follow_with, end, merge, merge_right}

-- ---- outcomes 1 to 8

whole_says : (f : List ℕ)
    → Says (whole f) (unless (both (leb 8 (length f)) (leb (length f) longest)) 4 0 ∷ unless (eqb (length f) (data_length f + 8)) 5 0 ∷ unless (crc_right f) 6 0 ∷ [])
unfolding whole
whole_says f = merge (ask λ _. ask λ _. ask λ _. ask λ _. say)

directed-says : (us : Address) (f : List ℕ)
    → Says (directed us f) (unless (for_us us (destination f)) 7 0 ∷ unless (both (stationary (source f)) (not (same_address (source f) us))) 8 0 ∷ [])
unfolding directed
directed-says us f = ask λ _. merge (ask λ _. ask λ _. say)

pub received-says : (b : Build) (a : Asked) (h : Held) (r : ℕ) → Says (received b a h r) (received_table b a h r)
unfolding received
received-says b a h r =
    ask λ _. ask λ _. merge (ask λ _. merge (ask λ _. ask λ _. follow (whole_says a.frame) λ _. end (directed-says a.us a.frame) λ _. say))

-- ---- an entry

pub there-says : (b : Build) (t l k pt pl pk : ℕ) → Says (there (place_of b t l k) pt pl pk) (type_row b t pt ∷ logical_row b t l pl ∷ parameter_row t k pk ∷ [])
unfolding place_of there blank first_of
there-says b t l k pt pl pk = go (ltb 0 (logicals b (index_of t))) (ltb l (logicals b (index_of t))) (ltb k (height (point (index_of t)))) _
  where
    go : (x y z : Bool) (spot : Spot) → Says (there (if x then if y then if z then Ok spot else Err NoParameter else Err NoLogical else Err NoPointType) pt pl pk) (unless x 22 pt ∷ unless y 23 pl ∷ unless z 24 pk ∷ [])
    go true true true spot = record { says = refl }
    go true true false spot = record { says = refl }
    go true false z spot = record { says = refl }
    go false y z spot = record { says = refl }

module _ (b : Build) (level : Point → ℕ) (who : Caller) where
  found-says : (t l k pt pl pk : ℕ) → Says (found b level who t l k pt pl pk) (found_table b level who t l k pt pl pk)
  unfolding found
  found-says t l k pt pl pk = follow (there-says b t l k pt pl pk) λ _. ask λ _. say

  pub next-says : (src : Source) (d : List ℕ) (at : ℕ) → Says (next b level who src d at) (entry_table b level who src d at)
  unfolding next
  next-says (block i l k) d at = say
  next-says named d at = ask λ _. found-says _ _ _ _ _ _
  next-says (located bs) d at = found-says _ _ _ _ _ _

  found-names : (t l k pt pl pk : ℕ) → Holds (λ p. p ≡ record { type = index_of t; logical = l; parameter = k }) (found b level who t l k pt pl pk)
  unfolding found
  found-names t l k pt pl pk = step _ λ _. step _ λ _. passing refl

  pub next-names : (src : Source) (d : List ℕ) (at : ℕ) → Holds (λ p. p ≡ name_of src d) (next b level who src d at)
  unfolding next
  next-names (block i l k) d at = passing refl
  next-names named d at = step _ λ _. found-names _ _ _ _ _ _
  next-names (located bs) d at = found-names _ _ _ _ _ _

-- ---- a value

judged-says : (b : Build) (r : Row) (l : ℕ) (v : List ℕ) (at : ℕ)
    → Says (from at (judged b r l v)) (unless (of_kind b r.kind v) 27 at ∷ unless (in_range b r.range l v) 27 at ∷ [])
unfolding judged from ◌>>=◌ test blank first_of
judged-says b r l v at = go (of_kind b r.kind v) (in_range b r.range l v)
  where
    go : (x y : Bool) → Says (from at (test x 27 0 >>= λ _. test y 27 0 >>= λ _. pass (tt {0}))) (unless x 27 at ∷ unless y 27 at ∷ [])
    go true true = record { says = refl }
    go true false = record { says = ap (fault 27) (add-zero at) }
    go false y = record { says = ap (fault 27) (add-zero at) }

pub accepts-says : (b : Build) (who : Caller) (s : List ℕ) (ws : List Write) (p : Named) (d : List ℕ) (locked at : ℕ)
    → Says (accepts b who s ws p d locked at) (value_table b who s ws p d locked at)
unfolding accepts
accepts-says b who s ws p d locked at =
    ask λ _. ask λ _. merge_right (follow (judged-says b _ p.logical _ at) λ _. ask λ _. say)

-- ---- the lists

pub reading-says : (b : Build) (who : Caller) (src : Source) (n : ℕ) (d : List ℕ) (at : ℕ) (ps : List Piece)
    → Says (reading b who src n d at ps) (read_table b who src n d at ps)
unfolding reading read_table ends fitting
reading-says b who src zero d at ps = ask λ _. ask λ _. say
reading-says b who src (suc n) d at ps =
    follow_with (next-says b read_level who src d at) (next-names b read_level who src d at) λ p e.
    rw e (reading-says b who (after src) n _ _ _)

pub writing-says : (b : Build) (who : Caller) (s : List ℕ) (src : Source) (n : ℕ) (d : List ℕ) (at : ℕ) (ws : List Write)
    → Says (writing b who s src n d at ws) (write_table b who s src n d at ws)
unfolding writing write_table ends
writing-says b who s src zero d at ws = ask λ _. say
writing-says b who s src (suc n) d at ws =
    follow_with (next-says b write_level who src d at) (next-names b write_level who src d at) λ p e.
    rw e (follow (accepts-says b who s ws (name_of src d) _ _ _) λ _. writing-says b who s (after src) n _ _ _)

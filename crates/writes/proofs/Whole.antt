-- The walks of the code come to what the rules' walk comes to.
-- Assumes nothing.
use Prim.Native.Nat.{ℕ, zero, suc, ◌+◌, ◌-◌, ◌≤◌}
use native.Mathlib.Omega.{arith}
use mathlib.Core.Path.{◌≡◌, refl, sym, ap, ◌∙◌}
use mathlib.Core.Bool.{Bool, true, false}
use mathlib.Core.List.{List, [], ◌∷◌}
use borrow.Author.Tests.{leb-true}
use lib.Dec.{leb}
use lib.ListN.{length, take, drop, length-drop}
use lib.Seq.{drop-drop, length-take-le}
use Rattle.std.proofs.Common.{slice_range}
use Rattle.base.specs.Check.{Check, fault, pass, ◌>>=◌, test, from}
use Rattle.base.specs.Lists.{All}
use Rattle.base.proofs.Checks.{Holds, passing, first_passes}
use Rattle.points.specs.Types.{gateway}
use Rattle.points.specs.Place.{first, len_at, store_size}
use Rattle.points.specs.Columns.{row_at}
use Rattle.points.specs.Sums.{store_bytes}
use Rattle.points.proofs.Rows.{row_at_lem}
use Rattle.store.specs.Store.{Write, storing, stored}
use Rattle.store.proofs.Laws.{Sound}
use Rattle.values.specs.Weighed.{weighed}
use Rattle.rules.specs.Entries as rules
use Rattle.rules.specs.Entries.{Named, Source, block, named, located, request, system, may_write, spoken, after, next, locked_place}
use Rattle.rules.specs.Lists.{write_level, ends, entry, accepts, writing}
use Rattle.rules.proofs.Found.{Stands}
use Rattle.lists.specs.Walks.{taken, AnyStanding, entry_of, entry_check}
use Rattle.lists.proofs.Taken.{taken_none}
use Rattle.lists.proofs.Next.{leb_moved, ended}
use Rattle.lists.proofs.Stood.{next_stands, any_standing_after, spoken_there, entry_passes, passed_on}
use Rattle.writes.specs.Walked.{Alone, passed_of, writes_of, checking, keeping}
use Rattle.writes.proofs.Mates.{Free, Earlier}
use Rattle.writes.proofs.Accepting.{code_chain, accepts_is}

-- what is known where n entries are left and ws are stored: the system has stored none
abbrev Room : rules.Caller → ℕ → List Write → Type 0
Room (request L) n ws = All (Free (request L)) ws
Room system zero ws = Unit {0}
Room system (suc n) ws = (n ≡ 0) × (ws ≡ [])

room_first : (who : rules.Caller) (n : ℕ) → Alone who n → Room who n []
room_first (request L) n a = tt
room_first system zero a = tt
room_first system (suc n) a = (omega arith, refl)

room_earlier : (who : rules.Caller) (n : ℕ) (ws : List Write) → Room who (suc n) ws → Earlier who ws
room_earlier (request L) n ws r = r
room_earlier system n ws r = r.1

room_after : (who : rules.Caller) (n : ℕ) (w : Write) (ws : List Write) → Room who (suc n) ws → Free who w → Room who n (w ∷ ws)
room_after (request L) n w ws r f = (f, r)
room_after system zero w ws r f = tt
room_after system (suc n) w ws r f = absurd (omega arith)

tested_last : {A : Type 0} (b : Bool) (n p : ℕ) (a : A) → (test b n p >>= λ _. pass a) >>= (λ _. pass tt) ≡ test b n p
unfolding ◌>>=◌ test
tested_last true n p a = refl
tested_last false n p a = refl

-- the check of an entry, and what goes on behind it
chained : (m t : Bool) (w : Check Unit) (locked end at : ℕ) (rest : Check (List Write)) (k : Check Unit) → (m ≡ true → t ≡ true → passed_of rest ≡ k)
    → passed_of (code_chain m t w locked end at >>= λ _. rest) ≡ (test m 26 locked >>= λ _. test t 21 end >>= λ _. from at w >>= λ _. k)
unfolding ◌>>=◌ test from
chained false t w locked end at rest k h = refl
chained true false w locked end at rest k h = refl
chained true true (fault n p) locked end at rest k h = refl
chained true true (pass x) locked end at rest k h = h refl refl

module _ (who : rules.Caller) (s : List ℕ) (d : List ℕ) where
  -- a value of the rules' entry is the slice that the code looks at
  value_is : (at n m : ℕ) → take m (drop n (drop at d)) ≡ slice_range d (at + n) (at + n + m)
  value_is at n m = let z : at + n + m - (at + n) ≡ m = omega arith in rw (drop-drop n at d, z) refl

  module _ (whole : length s ≡ store_size gateway) where
    -- an entry that is found, where the rest of the list comes out alike
    module _ (n : ℕ) (src : Source) (at : ℕ) (ws : List Write) (r : Room who (suc n) ws) (o : All (Sound gateway) ws) (i : at ≤ length d) (p : Named) (w : Stands gateway p)
        (f : spoken src ≤ length d - at) (rest : (at' : ℕ) (ws' : List Write) → Room who n ws' → All (Sound gateway) ws' → at' ≤ length d
        → passed_of (writing gateway who s (after src) n (drop at' d) at' ws') ≡ checking who s (after src) n d at') where
      sp : ℕ
      sp = spoken src

      len : ℕ
      len = len_at p.type p.parameter

      D : List ℕ
      D = drop (at + sp) d

      left : length D ≡ length d - (at + sp)
      unfolding D
      left = length-drop (at + sp) d

      fits : leb len (length D) ≡ leb (at + sp + len) (length d)
      unfolding sp
      fits = rw left (leb_moved (length d) (at + sp) len (omega arith))

      all : at + sp + length D ≡ length d
      unfolding sp
      all = omega (arith, left)

      found_turn : passed_of (accepts gateway who s ws p (drop (spoken src) (drop at d)) (locked_place src at) (at + spoken src) >>= λ _.
          writing gateway who s (after src) n (drop (len_at p.type p.parameter) (drop (spoken src) (drop at d))) (at + spoken src + len_at p.type p.parameter)
          (entry p (drop (spoken src) (drop at d)) ∷ ws))
          ≡ (test (may_write who (row_at (first p.type + p.parameter)).access p.logical) 26 (locked_place src at) >>= λ _.
          test (leb (at + spoken src + len_at p.type p.parameter) (length d)) 21 (length d) >>= λ _.
          from (at + spoken src) (weighed gateway s (first p.type + p.parameter) p.logical (slice_range d (at + spoken src) (at + spoken src + len_at p.type p.parameter))) >>= λ _.
          checking who s (after src) n d (at + spoken src + len_at p.type p.parameter))
      unfolding sp len D
      found_turn =
          rw (drop-drop sp at d, drop-drop len (at + sp) d, accepts_is who s whole ws p D (locked_place src at) (at + sp) w o (room_earlier who n ws r), all, ← fits, ← value_is at sp len, drop-drop sp at d)
          (chained _ _ _ _ _ _ _ _ λ em et. rest (at + sp + len) (entry p D ∷ ws) (room_after who n _ ws r (free em)) (sound et, o) (room et))
        where
          free : may_write who (row_at (first p.type + p.parameter)).access p.logical ≡ true → Free who (entry p D)
          free em = rw (row_at_lem p.type p.parameter w.parameter) at em

          sound : leb len (length D) ≡ true → Sound gateway (entry p D)
          sound et = record { logical = w.logical; parameter = w.parameter; long = length-take-le _ D (leb-true _ _ et) }

          room : leb len (length D) ≡ true → at + sp + len ≤ length d
          room et = let y = leb-true _ _ et in omega (arith, left)

    walked : (n : ℕ) (src : Source) (at : ℕ) (ws : List Write) → AnyStanding src n → Room who n ws → All (Sound gateway) ws → at ≤ length d
        → passed_of (writing gateway who s src n (drop at d) at ws) ≡ checking who s src n d at
    unfolding writing checking ends ◌>>=◌ entry_check entry_of
    walked zero src at ws h r o i = rw (ended d at) (tested_last (leb (length d) at) 21 at ws)
    walked (suc n) src at ws h r o i =
        go (next gateway write_level who src (drop at d) at) (next_stands write_level who src n (drop at d) at h) (λ p e. spoken_there write_level who src d at e)
        (λ at' ws' r' o' i'. walked n (after src) at' ws' (any_standing_after src n h) r' o' i')
      where
        go : (c : Check Named) → Holds (Stands gateway) c → ((p : Named) → c ≡ pass p → spoken src ≤ length d - at)
            → ((at' : ℕ) (ws' : List Write) → Room who n ws' → All (Sound gateway) ws' → at' ≤ length d
            → passed_of (writing gateway who s (after src) n (drop at' d) at' ws') ≡ checking who s (after src) n d at')
            → passed_of (c >>= λ p. accepts gateway who s ws p (drop (spoken src) (drop at d)) (locked_place src at) (at + spoken src) >>= λ _.
            writing gateway who s (after src) n (drop (len_at p.type p.parameter) (drop (spoken src) (drop at d))) (at + spoken src + len_at p.type p.parameter)
            (entry p (drop (spoken src) (drop at d)) ∷ ws))
            ≡ (entry_check c >>= λ entry.
            test (may_write who (row_at entry.spot.row).access entry.logical.0) 26 (locked_place src at) >>= λ _.
            test (leb (at + spoken src + entry.spot.len) (length d)) 21 (length d) >>= λ _.
            from (at + spoken src) (weighed gateway s entry.spot.row entry.logical.0 (slice_range d (at + spoken src) (at + spoken src + entry.spot.len))) >>= λ _.
            checking who s (after src) n d (at + spoken src + entry.spot.len))
        go (fault m p) k f ih = refl
        go (pass p) (passing w) f ih = found_turn n src at ws r o i p w (f p refl) ih

-- as the code begins
pub whole_checking : (who : rules.Caller) (s : List ℕ) (src : Source) (n : ℕ) (d : List ℕ) (at : ℕ) → length s ≡ 12427 → AnyStanding src n → Alone who n → at ≤ length d
    → checking who s (taken 0 src) (n - 0) d at ≡ passed_of (writing gateway who s src n (drop at d) at [])
whole_checking who s src n d at w h a i =
    let z : n - 0 ≡ n = omega arith in
    rw (taken_none, z) (sym (walked who s d (w ∙ sym store_bytes) n src at [] h (room_first who n a) tt i))

-- ---- the values of a list that passed its check, stored

module _ (who : rules.Caller) (s : List ℕ) (d : List ℕ) where
  kept : (n : ℕ) (src : Source) (at : ℕ) (ws done : List Write) → writing gateway who s src n (drop at d) at ws ≡ pass done
      → keeping who src n d at (stored gateway s ws) ≡ stored gateway s done
  unfolding writing keeping stored storing entry_of
  kept zero src at ws done e = ap (stored gateway s) (passed_on (ends (drop at d) at) e)
  kept (suc n) src at ws done e =
      let x = first_passes (next gateway write_level who src (drop at d) at) e in
      let y = first_passes _ x.1.1 in
      go x.0 x.1.0 y.1.1 (λ at' ws' e'. kept n (after src) at' ws' done e')
    where
      go : (p : Named) → next gateway write_level who src (drop at d) at ≡ pass p
          → writing gateway who s (after src) n (drop (len_at p.type p.parameter) (drop (spoken src) (drop at d))) (at + spoken src + len_at p.type p.parameter)
          (entry p (drop (spoken src) (drop at d)) ∷ ws) ≡ pass done
          → ((at' : ℕ) (ws' : List Write) → writing gateway who s (after src) n (drop at' d) at' ws' ≡ pass done
          → keeping who (after src) n d at' (stored gateway s ws') ≡ stored gateway s done)
          → keeping who src (suc n) d at (stored gateway s ws) ≡ stored gateway s done
      go p found rest ih =
          let end : ℕ = at + spoken src + len_at p.type p.parameter in
          let z : end - (at + spoken src) ≡ len_at p.type p.parameter = omega arith in
          let rest' = rw (drop-drop (spoken src) at d, drop-drop (len_at p.type p.parameter) (at + spoken src) d) at rest in
          rw (found, entry_passes p, z) (ih end (entry p (drop (at + spoken src) d) ∷ ws) rest')

writes_are : (c : Check (List Write)) → passed_of c ≡ pass tt → c ≡ pass (writes_of c)
unfolding ◌>>=◌
writes_are (fault n p) e = let z : ◌≡◌ {A = ℕ} 0 1 = cc in absurd (omega arith)
writes_are (pass ws) e = refl

pub whole_keeping : (who : rules.Caller) (s : List ℕ) (src : Source) (n : ℕ) (d : List ℕ) (at : ℕ) → passed_of (writing gateway who s src n (drop at d) at []) ≡ pass tt
    → keeping who (taken 0 src) (n - 0) d at s ≡ stored gateway s (writes_of (writing gateway who s src n (drop at d) at []))
unfolding stored
whole_keeping who s src n d at e =
    let z : n - 0 ≡ n = omega arith in
    rw (taken_none, z) (kept who s d n src at [] _ (writes_are _ e))

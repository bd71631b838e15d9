-- The walks of the code come to what the rules' walk comes to.
-- Assumes nothing.
use Prim.Native.Nat.{ℕ, zero, suc, ◌+◌, ◌-◌, ◌≤◌, ◌<◌}
use native.Mathlib.Omega.{arith}
use mathlib.Core.Path.{◌≡◌, refl, sym, ap, ◌∙◌}
use mathlib.Core.Bool.{Bool, true, false}
use mathlib.Core.List.{List, ◌∷◌, ◌++◌}
use borrow.Author.Tests.{leb-true}
use lib.Dec.{leb}
use lib.ListN.{length, take, drop, length-drop, length-append}
use lib.Seq.{drop-drop, length-take-le}
use Rattle.std.proofs.Common.{slice_range}
use Rattle.base.specs.Check.{Check, fault, pass, ◌>>=◌, test}
use Rattle.base.specs.Lists.{part, put}
use Rattle.base.proofs.Parts.{put_join}
use Rattle.base.proofs.Checks.{Holds, passing, first_passes}
use Rattle.points.specs.Types.{gateway}
use Rattle.points.specs.Place.{len_at, store_size}
use Rattle.points.specs.Sums.{store_bytes}
use Rattle.store.specs.Store.{value, values}
use Rattle.store.proofs.Laws.{value-length, values_one}
use Rattle.rules.specs.Entries as rules
use Rattle.rules.specs.Entries.{Named, Source, spoken, after, next}
use Rattle.rules.specs.Deeds.{Piece, plain, held, told, shown, sizes}
use Rattle.rules.specs.Lists.{read_level, ends, fitting, reading}
use Rattle.rules.proofs.Found.{Stands}
use Rattle.lists.specs.Walks.{taken, AnyStanding, entry_of, entry_check}
use Rattle.lists.proofs.Next.{ended}
use Rattle.lists.proofs.Taken.{taken_none}
use Rattle.lists.proofs.Stood.{next_stands, any_standing_after, spoken_there, entry_passes, passed_on}
use Rattle.reads.specs.Telling.{sized, pieces_of, Passes, sizing, telling}
use Rattle.reads.proofs.Spans.{span_one}
use Rattle.reads.proofs.Turns.{turn}
use Rattle.lists.specs.declared.finding.Entry.{Entry}

two_tested : (a b : Bool) (n p m q : ℕ) (ps : List Piece) → sized (test a n p >>= λ _. test b m q >>= λ _. pass ps) ≡ (test a n p >>= λ _. test b m q >>= λ _. pass (sizes ps))
unfolding ◌>>=◌ test
two_tested true true n p m q ps = refl
two_tested true false n p m q ps = refl
two_tested false b n p m q ps = refl

-- the pieces of an entry
abbrev pub told_of : ℕ → List ℕ → Named → List Piece → List Piece
told_of n d p ps = held p.type p.logical p.parameter 1 ∷ plain (take n d) ∷ ps

module _ (who : rules.Caller) (d : List ℕ) where
  told_sizes : (n at : ℕ) (p : Named) (ps : List Piece) → at ≤ length d → n ≤ length d - at
      → sizes (told_of n (drop at d) p ps) ≡ sizes ps + (n + len_at p.type p.parameter)
  told_sizes n at p ps i h =
      let room : n ≤ length (drop at d) = rw length-drop h in
      omega (arith, length-take-le n (drop at d) room, span_one p.type p.parameter)

  walked : (n : ℕ) (src : Source) (at : ℕ) (ps : List Piece) → at ≤ length d
      → sized (reading gateway who src n (drop at d) at ps) ≡ sizing who src n d at (sizes ps)
  unfolding reading sizing ends fitting ◌>>=◌ entry_check entry_of
  walked zero src at ps i = rw (ended d at) (two_tested (leb (length d) at) (leb (sizes ps) 255) 21 at 28 0 ps)
  walked (suc n) src at ps i =
      go (next gateway read_level who src (drop at d) at) (λ p e. spoken_there read_level who src d at e) (λ at' ps' i'. walked n (after src) at' ps' i')
    where
      go : (c : Check Named) → ((p : Named) → c ≡ pass p → spoken src ≤ length d - at)
          → ((at' : ℕ) (ps' : List Piece) → at' ≤ length d → sized (reading gateway who (after src) n (drop at' d) at' ps') ≡ sizing who (after src) n d at' (sizes ps'))
          → sized (c >>= λ p. reading gateway who (after src) n (drop (spoken src) (drop at d)) (at + spoken src) (told_of (spoken src) (drop at d) p ps))
          ≡ (entry_check c >>= λ entry. sizing who (after src) n d (at + spoken src) (sizes ps + (spoken src + entry.spot.len)))
      go (fault m p) f ih = refl
      go (pass p) f ih =
          let said : spoken src ≤ length d - at = f p refl in
          rw (drop-drop (spoken src) at d, ← told_sizes (spoken src) at p ps i said) (ih (at + spoken src) (told_of (spoken src) (drop at d) p ps) (omega arith))

-- as the code begins
pub whole_sizing : (who : rules.Caller) (src : Source) (n : ℕ) (d : List ℕ) (at : ℕ) (ps : List Piece) → at ≤ length d
    → sizing who (taken 0 src) (n - 0) d at (sizes ps) ≡ sized (reading gateway who src n (drop at d) at ps)
whole_sizing who src n d at ps i =
    let z : n - 0 ≡ n = omega arith in
    rw (taken_none, z) (sym (walked who d n src at ps i))

-- ---- room in the reply

passes_then : {A : Type 0} (c : Check A) (f : A → Check ℕ) → Passes (c >>= f) → (a : A) × ((c ≡ pass a) × Passes (f a))
unfolding ◌>>=◌
passes_then (fault n p) f h = absurd h
passes_then (pass a) f h = (a, (refl, h))

passes_test : (b : Bool) (n p : ℕ) (x : Check ℕ) → Passes (test b n p >>= λ _. x) → (b ≡ true) × Passes x
unfolding ◌>>=◌ test
passes_test true n p x h = (refl, h)
passes_test false n p x h = absurd h

module _ (who : rules.Caller) (d : List ℕ) where
  -- a check that passes has passed its size all the way
  pub never_over : (n : ℕ) (src : Source) (at size : ℕ) → Passes (sizing who src n d at size) → size ≤ 255
  unfolding sizing
  never_over zero src at size h =
      let x = passes_test (leb (length d) at) 21 at (test (leb size 255) 28 0 >>= λ _. pass size) h in
      leb-true _ _ (passes_test (leb size 255) 28 0 (pass size) x.1).0
  never_over (suc n) src at size h =
      let x = passes_then (entry_check (next gateway read_level who src (drop at d) at))
      (λ (entry : Entry). sizing who (after src) n d (at + spoken src) (size + (spoken src + entry.spot.len))) h in
      let y = never_over n (after src) (at + spoken src) (size + (spoken src + x.0.spot.len)) x.1.1 in
      omega (arith, y)

-- where one entry more passes, it has room
pub room_next : (who : rules.Caller) (src : Source) (d : List ℕ) (n e at size : ℕ) (entry : Entry) → e < n
    → entry_check (next gateway read_level who (taken e src) (drop at d) at) ≡ pass entry
    → Passes (sizing who (taken e src) (n - e) d at size) → size + (spoken src + entry.spot.len) ≤ 255
room_next who src d n e at size entry h f p =
    let q = rw (turn who src d n e at size h) at p in
    let x = passes_then (entry_check (next gateway read_level who (taken e src) (drop at d) at))
    (λ (z : Entry). sizing who (taken (e + 1) src) (n - (e + 1)) d (at + spoken src) (size + (spoken src + z.spot.len))) q in
    let same : x.0 ≡ entry = (let y = x.1.0 in cc) in
    never_over who d (n - (e + 1)) (taken (e + 1) src) (at + spoken src) (size + (spoken src + entry.spot.len)) (rw same at x.1.1)

pub room_begins : (who : rules.Caller) (src : Source) (n : ℕ) (d : List ℕ) (at size : ℕ) (ps : List Piece) → at ≤ length d → size ≡ sizes ps
    → Passes (sized (reading gateway who src n (drop at d) at ps)) → Passes (sizing who (taken 0 src) (n - 0) d at (6 + size - 6))
room_begins who src n d at size ps i e h =
    let z : 6 + size - 6 ≡ sizes ps = omega arith in
    rw (z, whole_sizing who src n d at ps i) h

-- ---- the reply

passes_of : (c : Check (List Piece)) {ps : List Piece} → c ≡ pass ps → Passes (sized c)
unfolding ◌>>=◌
passes_of c e = rw e tt

stands_here : {p : Named} (c : Check Named) → Holds (Stands gateway) c → c ≡ pass p → Stands gateway p
stands_here (fault n m) h e = let z : ◌≡◌ {A = ℕ} 0 1 = cc in absurd (omega arith)
stands_here {p} (pass q) (passing w) e = let same : q ≡ p = cc in rw (← same) w

module _ (who : rules.Caller) (s r : List ℕ) (d : List ℕ) (whole : length s ≡ store_size gateway) (space : 263 ≤ length r) where
  telling_turn : (src : Source) (at : ℕ) (ps : List Piece) (p : Named) → at ≤ length d → spoken src ≤ length d - at → Stands gateway p
      → length (told gateway s ps) ≡ sizes ps → sizes (told_of (spoken src) (drop at d) p ps) ≤ 255
      → (put (put (put r 6 (told gateway s ps)) (6 + sizes ps) (slice_range d at (at + spoken src))) (6 + sizes ps + spoken src)
      (part s (entry_of p).spot.begin (entry_of p).spot.len) ≡ put r 6 (told gateway s (told_of (spoken src) (drop at d) p ps)))
      × (length (told gateway s (told_of (spoken src) (drop at d) p ps)) ≡ sizes (told_of (spoken src) (drop at d) p ps))
  unfolding told shown entry_of value
  telling_turn src at ps p i h w long fit =
      let t : List ℕ = told gateway s ps in
      let n : ℕ = spoken src in
      let a : List ℕ = take n (drop at d) in
      let len : ℕ = len_at p.type p.parameter in
      let v : List ℕ = value gateway s p.type p.logical p.parameter in
      let size : sizes (told_of n (drop at d) p ps) ≡ sizes ps + (n + len) = told_sizes who d n at p ps i h in
      let m : at + n - at ≡ n = omega arith in
      let la : length a ≡ n = length-take-le n (drop at d) (rw length-drop h) in
      let lv : length v ≡ len = value-length gateway s whole p.type p.logical p.parameter w.logical in
      let one : values gateway s p.type p.logical p.parameter 1 ≡ v = values_one gateway s p.type p.logical p.parameter in
      let end : 6 + length t ≡ 6 + sizes ps = omega (arith, long) in
      let ta : 6 + length (t ++ a) ≡ 6 + length t + n = rw length-append (omega (arith, la)) in
      (rw (m, one, ← end, put_join r t a 6 (omega (arith, long, la, fit, size)), ← ta) (put_join r (t ++ a) v 6 (omega (arith, ta, long, lv, fit, size))), rw (one, size) (simp length-append (omega (arith, long, la, lv))))

  pub fits_255 : (n : ℕ) (src : Source) (at : ℕ) (ps : List Piece) {done : List Piece} → at ≤ length d → reading gateway who src n (drop at d) at ps ≡ pass done → sizes ps ≤ 255
  fits_255 n src at ps i e = never_over who d n src at (sizes ps) (rw (← walked who d n src at ps i) (passes_of _ e))

  told_walked : (n : ℕ) (src : Source) (at : ℕ) (ps done : List Piece) → AnyStanding src n → at ≤ length d → length (told gateway s ps) ≡ sizes ps
      → reading gateway who src n (drop at d) at ps ≡ pass done
      → telling who s src n d at (6 + sizes ps) (put r 6 (told gateway s ps)) ≡ put r 6 (told gateway s done)
  unfolding reading telling entry_of
  told_walked zero src at ps done h i long e =
      let x = first_passes (ends (drop at d) at) e in
      ap (λ (qs : List Piece). put r 6 (told gateway s qs)) (passed_on (fitting ps) x.1.1)
  told_walked (suc n) src at ps done h i long e =
      let x = first_passes (next gateway read_level who src (drop at d) at) e in
      go x.0 x.1.0 (stands_here _ (next_stands read_level who src n (drop at d) at h) x.1.0) (spoken_there read_level who src d at x.1.0) x.1.1
      (λ at' ps' i' long' e'. told_walked n (after src) at' ps' done (any_standing_after src n h) i' long' e')
    where
      go : (p : Named) → next gateway read_level who src (drop at d) at ≡ pass p → Stands gateway p → spoken src ≤ length d - at
          → reading gateway who (after src) n (drop (spoken src) (drop at d)) (at + spoken src) (told_of (spoken src) (drop at d) p ps) ≡ pass done
          → ((at' : ℕ) (ps' : List Piece) → at' ≤ length d → length (told gateway s ps') ≡ sizes ps' → reading gateway who (after src) n (drop at' d) at' ps' ≡ pass done
          → telling who s (after src) n d at' (6 + sizes ps') (put r 6 (told gateway s ps')) ≡ put r 6 (told gateway s done))
          → telling who s src (suc n) d at (6 + sizes ps) (put r 6 (told gateway s ps)) ≡ put r 6 (told gateway s done)
      go p found w said rest ih =
          let ps' : List Piece = told_of (spoken src) (drop at d) p ps in
          let on : at + spoken src ≤ length d = omega arith in
          let rest' = rw (drop-drop (spoken src) at d) at rest in
          let turned = telling_turn src at ps p i said w long (fits_255 n (after src) (at + spoken src) ps' on rest') in
          let to : 6 + sizes ps + (spoken src + (entry_of p).spot.len) ≡ 6 + sizes ps' = omega (arith, told_sizes who d (spoken src) at p ps i said) in
          rw (found, entry_passes p, turned.0, to) (ih (at + spoken src) ps' on turned.1 rest')

pieces_are : (c : Check (List Piece)) → Passes (sized c) → c ≡ pass (pieces_of c)
unfolding ◌>>=◌
pieces_are (fault n p) h = absurd h
pieces_are (pass ps) h = refl

pub whole_telling : (who : rules.Caller) (s r : List ℕ) (src : Source) (n : ℕ) (d : List ℕ) (at : ℕ) (ps : List Piece) → length s ≡ 12427 → 263 ≤ length r → AnyStanding src n
    → at ≤ length d → length (told gateway s ps) ≡ sizes ps → Passes (sized (reading gateway who src n (drop at d) at ps))
    → telling who s (taken 0 src) (n - 0) d at (6 + sizes ps) (put r 6 (told gateway s ps)) ≡ put r 6 (told gateway s (pieces_of (reading gateway who src n (drop at d) at ps)))
whole_telling who s r src n d at ps w space h i long e =
    let z : n - 0 ≡ n = omega arith in
    rw (taken_none, z) (told_walked who s r d (w ∙ sym store_bytes) space n src at ps _ h i long (pieces_are _ e))

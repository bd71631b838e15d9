-- One turn of each walk, and its end.
-- Assumes nothing.
use Prim.Native.Nat.{ℕ, suc, ◌+◌, ◌-◌, ◌≤◌, ◌<◌}
use native.Mathlib.Omega.{arith}
use mathlib.Core.Path.{◌≡◌, refl}
use mathlib.Core.List.{List}
use Rattle.std.proofs.Common.{slice_range}
use lib.Dec.{leb}
use lib.ListN.{length, drop}
use Rattle.base.specs.Check.{pass, ◌>>=◌, test}
use Rattle.base.specs.Lists.{part, put}
use Rattle.points.specs.Types.{gateway}
use Rattle.rules.specs.Entries as rules
use Rattle.rules.specs.Entries.{Source, spoken, after, next}
use Rattle.rules.specs.Lists.{read_level}
use Rattle.lists.specs.Walks.{taken, entry_check}
use Rattle.lists.proofs.Taken.{taken_more, spoken_taken}
use Rattle.reads.specs.Telling.{sizing, unless_fault, telling}

module _ (who : rules.Caller) (src : Source) (d : List ℕ) where
  pub turn : (n e at size : ℕ) → e < n
      → sizing who (taken e src) (n - e) d at size
      ≡ (entry_check (next gateway read_level who (taken e src) (drop at d) at) >>= λ entry.
      sizing who (taken (e + 1) src) (n - (e + 1)) d (at + spoken src) (size + (spoken src + entry.spot.len)))
  unfolding sizing
  turn n e at size h =
      let z : n - e ≡ suc (n - (e + 1)) = omega arith in
      rw (z, taken_more src e, spoken_taken src e) refl

  pub end : (n e at size : ℕ) → n ≤ e
      → sizing who (taken e src) (n - e) d at size ≡ (test (leb (length d) at) 21 at >>= λ _. test (leb size 255) 28 0 >>= λ _. pass size)
  unfolding sizing
  end n e at size h = let z : n - e ≡ 0 = omega arith in rw z refl

  module _ (s : List ℕ) where
    pub tell_turn : (n e at to : ℕ) (r : List ℕ) → e < n
        → telling who s (taken e src) (n - e) d at to r
        ≡ unless_fault (entry_check (next gateway read_level who (taken e src) (drop at d) at)) r (λ entry.
        telling who s (taken (e + 1) src) (n - (e + 1)) d (at + spoken src) (to + (spoken src + entry.spot.len))
        (put (put r to (slice_range d at (at + spoken src))) (to + spoken src) (part s entry.spot.begin entry.spot.len)))
    unfolding telling
    tell_turn n e at to r h =
        let z : n - e ≡ suc (n - (e + 1)) = omega arith in
        rw (z, taken_more src e, spoken_taken src e) refl

    pub tell_end : (n e at to : ℕ) (r : List ℕ) → n ≤ e → telling who s (taken e src) (n - e) d at to r ≡ r
    unfolding telling
    tell_end n e at to r h = let z : n - e ≡ 0 = omega arith in rw z refl

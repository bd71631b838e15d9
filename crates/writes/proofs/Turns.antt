-- One turn of each walk, and its end.
-- Assumes nothing.
use Prim.Native.Nat.{ℕ, suc, ◌+◌, ◌-◌, ◌≤◌, ◌<◌}
use native.Mathlib.Omega.{arith}
use mathlib.Core.Path.{◌≡◌, refl}
use mathlib.Core.List.{List}
use Rattle.std.proofs.Common.{drop-cons, add-one, slice_index, slice_range}
use Rattle.std.proofs.lemmas.List.{drop_all}
use lib.Dec.{leb}
use lib.ListN.{length, drop}
use Rattle.base.specs.Check.{pass, ◌>>=◌, test, from}
use Rattle.base.specs.Lists.{put}
use Rattle.points.specs.Types.{gateway}
use Rattle.points.specs.Columns.{row_at}
use Rattle.values.specs.Kinds.{printable}
use Rattle.values.specs.Weighed.{weighed}
use Rattle.rules.specs.Entries as rules
use Rattle.rules.specs.Entries.{Source, block, named, located, may_write, spoken, after, next, locked_place}
use Rattle.rules.specs.Lists.{write_level}
use Rattle.lists.specs.Walks.{taken, entry_check}
use Rattle.lists.proofs.Taken.{taken_more, spoken_taken, locked_taken}
use Rattle.writes.specs.Walked.{printing, checking, unless_fault, keeping}

-- one byte of a text
pub letter : (v : List ℕ) (i at : ℕ) → i < length v
    → printing (drop i v) at ≡ (test (printable (slice_index v i)) 27 at >>= λ _. printing (drop (i + 1) v) at)
unfolding printing
letter v i at h = rw (drop-cons v i 0 h, add-one) refl

pub no_letter : (v : List ℕ) (i at : ℕ) → length v ≤ i → printing (drop i v) at ≡ pass tt
unfolding printing
no_letter v i at h = rw (drop_all i v h) refl

module _ (who : rules.Caller) (s : List ℕ) (src : Source) (d : List ℕ) where
  pub turn : (n e at : ℕ) → e < n
      → checking who s (taken e src) (n - e) d at
      ≡ (entry_check (next gateway write_level who (taken e src) (drop at d) at) >>= λ entry.
      test (may_write who (row_at entry.spot.row).access entry.logical.0) 26 (locked_place src at) >>= λ _.
      test (leb (at + spoken src + entry.spot.len) (length d)) 21 (length d) >>= λ _.
      from (at + spoken src) (weighed gateway s entry.spot.row entry.logical.0 (slice_range d (at + spoken src) (at + spoken src + entry.spot.len))) >>= λ _.
      checking who s (taken (e + 1) src) (n - (e + 1)) d (at + spoken src + entry.spot.len))
  unfolding checking
  turn n e at h =
      let z : n - e ≡ suc (n - (e + 1)) = omega arith in
      rw (z, taken_more src e, spoken_taken src e, locked_taken src e at) refl

  pub end : (n e at : ℕ) → n ≤ e → checking who s (taken e src) (n - e) d at ≡ test (leb (length d) at) 21 at
  unfolding checking
  end n e at h = let z : n - e ≡ 0 = omega arith in rw z refl

module _ (who : rules.Caller) (src : Source) (d : List ℕ) where
  pub keep_turn : (n e at : ℕ) (s : List ℕ) → e < n
      → keeping who (taken e src) (n - e) d at s
      ≡ unless_fault (entry_check (next gateway write_level who (taken e src) (drop at d) at)) s (λ entry.
      keeping who (taken (e + 1) src) (n - (e + 1)) d (at + spoken src + entry.spot.len)
      (put s entry.spot.begin (slice_range d (at + spoken src) (at + spoken src + entry.spot.len))))
  unfolding keeping
  keep_turn n e at s h =
      let z : n - e ≡ suc (n - (e + 1)) = omega arith in
      rw (z, taken_more src e, spoken_taken src e) refl

  pub keep_end : (n e at : ℕ) (s : List ℕ) → n ≤ e → keeping who (taken e src) (n - e) d at s ≡ s
  unfolding keeping
  keep_end n e at s h = let z : n - e ≡ 0 = omega arith in rw z refl

-- A row's number: the rows of all types in one list, each type's from its first on; so each column by row is that of type and parameter.
-- Assumes nothing.
use mathlib.Core.Path.{◌≡◌, refl, sym, ap, ◌∙◌}
use mathlib.Core.List.{List, [], ◌∷◌, map}
use mathlib.Core.Bool.{Bool, true, false}
use Prim.Native.Nat.{ℕ, zero, suc, ◌+◌, ◌≤◌, ◌<◌, zero-le}
use native.Mathlib.Nat.{zero-add, add-zero, add_assoc, not-suc-le-zero, le_of_suc-le-suc}
use native.Mathlib.Omega.{arith}
use borrow.Author.Tests.{ltb-true, ltb-false}
use lib.Dec.{ltb}
use lib.ListN.{length, get_or, take, length-replicate, get_or-replicate, get_or-map, get_or-eq_default, length-map}
use Rattle.base.specs.Lists.{sum, joined}
use Rattle.base.proofs.Below.{at-below, small, entry-small}
use Rattle.base.proofs.Sums.{inside}
use Rattle.base.proofs.Joined.{joined_at}
use Rattle.points.specs.Row.{Row, no_row}
use Rattle.points.specs.Types.{segments, Point, points, no_point, point, height, row, Build, counts, logicals}
use Rattle.points.specs.Place.{lens, first, within, starts_of, offsets, len_at, row_len}
use Rattle.points.specs.Columns.{rows_of, row_at, starts, reads_of, writes_of, read_levels, write_levels}

-- where the k-th of a run of lengths begins: the sum of those before it
pub starts-at : (xs : List ℕ) (a k : ℕ) → k < length xs → get_or (starts a xs) k 0 ≡ a + sum (take k xs)
starts-at [] a k h = absurd (not-suc-le-zero h)
starts-at (x ∷ xs) a zero h = sym (add-zero a)
starts-at (x ∷ xs) a (suc k) h = starts-at xs (a + x) k (le_of_suc-le-suc h) ∙ add_assoc a x (sum (take k xs))

-- the rows of type 124 are the last
pub first_segment : first segments ≡ 161
unfolding first
first_segment = refl

-- a parameter's row is one of the 175
pub row_below : (i k : ℕ) → k < height (point i) → first i + k < 175
unfolding first point points
row_below i k h = omega (arith, inside (map height points) i, get_or-map height points i no_point)

-- and holds what its type's row holds
pub row_at_lem : (i k : ℕ) → k < height (point i) → row_at (first i + k) ≡ row i k
unfolding first point row_at row
row_at_lem i k h =
    let e : get_or (map rows_of points) i [] ≡ rows_of (get_or points i no_point) = get_or-map rows_of points i no_point in
    joined_at no_row (map rows_of points) i k (rw e h) ∙ ap (λ (l : List Row). get_or l k no_row) e

pub row_len_lem : (i k : ℕ) → (row i k).len ≡ len_at i k
unfolding len_at row
row_len_lem i k = sym (get_or-map row_len (point i).rows k no_row)

pub row-length : (i k : ℕ) → k < height (point i) → (row_at (first i + k)).len ≡ len_at i k
row-length i k h = ap row_len (row_at_lem i k h) ∙ row_len_lem i k

-- a column of which each type has as many as rows: what stands at a parameter's row
module _ (column : Point → List ℕ) (none : column no_point ≡ []) (long : (p : Point) → length (column p) ≡ height p) where
  lengths : (ps : List Point) → map length (map column ps) ≡ map height ps
  lengths [] = refl
  lengths (p ∷ ps) = λ j. long p j ∷ lengths ps j

  column_at : (i k : ℕ) → k < height (point i) → get_or (joined (map column points)) (first i + k) 0 ≡ get_or (column (point i)) k 0
  unfolding first point points
  column_at i k h =
      let e : get_or (map column points) i [] ≡ column (get_or points i no_point) = rw (← none) (get_or-map column points i no_point) in
      rw (← lengths points) (joined_at 0 (map column points) i k (rw (e, long (get_or points i no_point)) h)) ∙ ap (λ (l : List ℕ). get_or l k 0) e

length-starts : (a : ℕ) (xs : List ℕ) → length (starts a xs) ≡ length xs
length-starts a [] = refl
length-starts a (x ∷ xs) = ap suc (length-starts (a + x) xs)

-- where a parameter begins within its logical
pub offset_row : (i k : ℕ) → k < height (point i) → get_or offsets (first i + k) 0 ≡ within i k
unfolding offsets within
offset_row i k h =
    let n : length (lens (point i)) ≡ height (point i) = length-map (point i).rows row_len in
    column_at starts_of refl (λ p. length-starts 0 (lens p) ∙ length-map p.rows row_len) i k h
    ∙ starts-at (lens (point i)) 0 k (rw n h)
    ∙ zero-add (sum (take k (lens (point i))))

-- what is none of the first five is the sixth
pub sixth : (i : ℕ) → i < 6 → ((((Unit {0} × (i ≡ 0 → ⊥)) × (i ≡ 1 → ⊥)) × (i ≡ 2 → ⊥)) × (i ≡ 3 → ⊥)) × (i ≡ 4 → ⊥) → i ≡ 5
sixth zero h q = absurd (q.0.0.0.0.1 refl)
sixth (suc zero) h q = absurd (q.0.0.0.1 refl)
sixth (suc (suc zero)) h q = absurd (q.0.0.1 refl)
sixth (suc (suc (suc zero))) h q = absurd (q.0.1 refl)
sixth (suc (suc (suc (suc zero)))) h q = absurd (q.1 refl)
sixth (suc (suc (suc (suc (suc zero))))) h q = refl
sixth (suc (suc (suc (suc (suc (suc i)))))) h q = absurd (omega arith)

pub row_reads : (i k : ℕ) → k < height (point i) → get_or read_levels (first i + k) 0 ≡ (point i).reads
unfolding read_levels
row_reads i k h = column_at reads_of refl (λ p. length-replicate (height p) p.reads) i k h ∙ get_or-replicate _ k _ 0 h

pub row-writes : (i k : ℕ) → k < height (point i) → get_or write_levels (first i + k) 0 ≡ (point i).writes
unfolding write_levels
row-writes i k h = column_at writes_of refl (λ p. length-replicate (height p) p.writes) i k h ∙ get_or-replicate _ k _ 0 h

-- no value is longer than 40 bytes: one test over the types
pub len-small : (i k : ℕ) → len_at i k ≤ 40
unfolding len_at point points
len-small i k = go (ltb i 6) refl
  where
    go : (b : Bool) → ltb i 6 ≡ b → get_or (lens (point i)) k 0 ≤ 40
    go true e = entry-small 40 (lens (point i)) (at-below 6 (λ j. small 40 (lens (point j))) refl i (ltb-true i 6 e)) k
    go false e =
        let z : point i ≡ no_point = get_or-eq_default points no_point (ltb-false i 6 e) in
        rw z zero-le

-- a type with a logical is one of the six
pub six : (b : Build) (i l : ℕ) → l < logicals b i → i < 6
unfolding logicals
six b i l h = go (ltb i 6) refl
  where
    go : (x : Bool) → ltb i 6 ≡ x → i < 6
    go true e = ltb-true i 6 e
    go false e = absurd (not-suc-le-zero (rw (get_or-eq_default (counts b) 0 (ltb-false i 6 e)) at h))

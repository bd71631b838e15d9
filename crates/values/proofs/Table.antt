-- What is known of the 175 rows: which lengths go with which kinds and ranges, which ranges with which kinds, and that the two of a pair are unsigned, of two bytes each.
-- Assumes nothing.
use mathlib.Core.Path.{◌≡◌, refl}
use mathlib.Core.Bool.{Bool, true, false, not}
use Prim.Native.Nat.{ℕ, ◌-◌, ◌≤◌, ◌<◌}
use lib.Dec.{eqb, leb}
use borrow.Author.Tests.{le-leb}
use Rattle.base.specs.Lists.{both, either, only}
use Rattle.base.proofs.Below.{at-below, both_left, both_right}
use Rattle.points.specs.Types.{segments}
use Rattle.points.specs.Place.{first}
use Rattle.points.proofs.Rows.{first_segment}
use Rattle.points.specs.Columns.{row_at, kind_of, range_of}
use Rattle.points.specs.declared.Kind.{Kind}
use Rattle.points.specs.declared.Kind.TheVariants.{Text, Unsigned, Signed, Single, Double, Tlp}
use Rattle.points.specs.declared.Range.{Range}
use Rattle.points.specs.declared.Range.TheVariants.{Any, Between, Status, Rate, Size, Number}
use Rattle.values.specs.Pairs.{pair_of, in_pair}
use Rattle.values.specs.Weighable.{unsigned_long, kind_long, range_long}

abbrev regular : ℕ → Bool
regular r =
    both (kind_long (kind_of (row_at r).kind) (row_at r).len)
    (both (range_long (range_of (row_at r).range) (row_at r).len) (only (both (leb 161 r) (in_pair (r - 161))) (unsigned_long (row_at r).len)))

all-regular : (r : ℕ) → r < 175 → regular r ≡ true
unfolding row_at kind_long range_long pair_of
all-regular r h = at-below 175 regular refl r h

module _ (r n : ℕ) (h : r < 175) (e : n ≡ (row_at r).len) where
  pub kind_length : (k : Kind) → k ≡ kind_of (row_at r).kind → kind_long k n ≡ true
  kind_length k f = rw (e, f) (both_left _ _ (all-regular r h))

  pub range_length : (q : Range) → q ≡ range_of (row_at r).range → range_long q n ≡ true
  range_length q f = rw (e, f) (both_left _ _ (both_right (kind_long (kind_of (row_at r).kind) (row_at r).len) _ (all-regular r h)))

  -- f is where the rows of type 124 begin
  pub pair_length : (f : ℕ) → f ≡ first segments → f ≤ r → in_pair (r - f) ≡ true → unsigned_long n ≡ true
  pair_length f d i p =
      let t : 161 ≤ r = rw (d, first_segment) at i in
      let u : in_pair (r - 161) ≡ true = rw (d, first_segment) at p in
      rw e
      (rw (le-leb 161 r t, u) at
      (both_right (range_long (range_of (row_at r).range) (row_at r).len) _ (both_right (kind_long (kind_of (row_at r).kind) (row_at r).len) _ (all-regular r h))))

pub ruleset lengths = (kind_length, range_length)

-- ---- which ranges go with which kinds

-- no range but the kind's own
abbrev pub plain : Range → Bool
plain Any = true
plain (Between least most) = false
plain Status = false
plain Rate = false
plain Size = false
plain Number = false

-- the range of a status, and that of a TLP which names a number
abbrev pub of_status : Range → Bool
of_status Any = false
of_status (Between least most) = false
of_status Status = true
of_status Rate = false
of_status Size = false
of_status Number = false

abbrev pub of_number : Range → Bool
of_number Any = false
of_number (Between least most) = false
of_number Status = false
of_number Rate = false
of_number Size = false
of_number Number = true

-- A status is signed, a float has no range of its own, a TLP at most that it names a number. An unsigned number has each of the others.
abbrev pub ranged : Kind → Range → Bool
ranged Text q = true
ranged Unsigned q = not (either (of_status q) (of_number q))
ranged Signed q = of_status q
ranged Single q = plain q
ranged Double q = plain q
ranged Tlp q = either (plain q) (of_number q)

-- the range of each row goes with its kind
pub row-ranged : (r : ℕ) → r < 175 → ranged (kind_of (row_at r).kind) (range_of (row_at r).range) ≡ true
unfolding row_at
row-ranged r h = at-below 175 (λ j. ranged (kind_of (row_at j).kind) (range_of (row_at j).range)) refl r h

-- ---- the two of a pair have two bytes each

-- parameter k of type 124, which has n bytes, has two where it has a mate
abbrev pub mates : ℕ → ℕ → Bool
mates k n = only (in_pair k) (eqb n 2)

-- each row of a pair has two
pub row-mates : (r : ℕ) → r < 175 → 161 ≤ r → mates (r - 161) (row_at r).len ≡ true
unfolding row_at pair_of
row-mates r h k = rw (le-leb 161 r k) at (at-below 175 (λ j. only (leb 161 j) (mates (j - 161) (row_at j).len)) refl r h)

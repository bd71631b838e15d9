-- The next entry of each kind of list, by the whole data and the whole locations.
-- Assumes nothing.
use Prim.Native.Nat.{ℕ, ◌+◌, ◌-◌, ◌*◌, ◌≤◌}
use native.Mathlib.Nat.{add-zero}
use native.Mathlib.Omega.{arith}
use mathlib.Core.Path.{◌≡◌, refl}
use mathlib.Core.List.{List}
use mathlib.Core.Bool.{Bool, true, false}
use borrow.Author.Tests.{le-leb, lt-leb, leb-true, leb-false, eq-eqb, ne_eqb}
use lib.Dec.{leb, eqb}
use lib.ListN.{length, get_or, drop, length-drop}
use lib.Seq.{get_or-drop}
use Rattle.base.specs.Check.{◌>>=◌, test}
use Rattle.points.specs.Types.{Point, gateway}
use Rattle.rules.specs.Entries as rules
use Rattle.rules.specs.Entries.{Named, named, located, found, next}
use Rattle.lists.specs.Walks.{taken}

-- a test of what is left of a list, by the whole
pub leb_moved : (n at m : ℕ) → at ≤ n → leb m (n - at) ≡ leb (at + m) n
leb_moved n at m h = go (leb (at + m) n) refl
  where
    go : (b : Bool) → leb (at + m) n ≡ b → leb m (n - at) ≡ b
    go true x = let y = leb-true _ _ x in le-leb _ _ (omega arith)
    go false x = let y = leb-false _ _ x in lt-leb _ _ (omega arith)

-- the end of the data, by what is left of it and by the whole
pub ended : (d : List ℕ) (at : ℕ) → eqb (length (drop at d)) 0 ≡ leb (length d) at
ended d at = rw length-drop (go (leb (length d) at) refl)
  where
    go : (b : Bool) → leb (length d) at ≡ b → eqb (length d - at) 0 ≡ b
    go true x = let y = leb-true _ _ x in eq-eqb _ _ (omega arith)
    go false x = let y = leb-false _ _ x in ne_eqb _ _ (λ z. omega arith)

module _ (level : Point → ℕ) (who : rules.Caller) (e : ℕ) (d : List ℕ) (at : ℕ) where
  pub named_is : at ≤ length d
      → next gateway level who (taken e named) (drop at d) at
      ≡ (test (leb (at + 3) (length d)) 21 (length d) >>= λ _. found gateway level who (get_or d at 0) (get_or d (at + 1) 0) (get_or d (at + 2) 0) at (at + 1) (at + 2))
  unfolding next taken
  named_is h =
      let z : at + length (drop at d) ≡ length d = simp length-drop (omega arith) in
      let y : leb 3 (length (drop at d)) ≡ leb (at + 3) (length d) = simp length-drop (leb_moved (length d) at 3 h) in
      rw (y, z) (simp (get_or-drop, add-zero))

  pub located_is : (bs : List ℕ)
      → next gateway level who (taken e (located bs)) (drop at d) at ≡ found gateway level who (get_or bs (3 * e) 0) (get_or bs (3 * e + 1) 0) (get_or bs (3 * e + 2) 0) 1 1 1
  unfolding next taken
  located_is bs = simp (get_or-drop, add-zero)

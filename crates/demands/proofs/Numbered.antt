-- `Agree` goes by a type's index and leaves out the bounds. Here by the rules' numbers: it is enough that the stores agree wherever a
-- type, a logical and a parameter are found.
-- Assumes nothing.
use Prim.Native.Nat.{ℕ, ◌≤◌, ◌<◌}
use native.Mathlib.Omega.{arith}
use mathlib.Core.Path.{◌≡◌, refl, sym, ap, ◌∙◌}
use mathlib.Core.Bool.{Bool, true, false}
use mathlib.Core.List.{List, []}
use borrow.Author.Tests.{ltb-true, ltb-false, lt-ltb, eqb-true}
use lib.ListN.{length-map, get_or-eq_default}
use lib.Dec.{eqb, ltb}
use Rattle.base.specs.Lists.{part}
use Rattle.base.proofs.Below.{at-below}
use Rattle.points.specs.Types.{points, Build, logicals, point, height, index_of}
use Rattle.points.specs.Place.{row_len, lens, len_at, offset, place_of, spot_of}
use Rattle.store.specs.Store.{value}
use Rattle.demands.specs.Found.{There}
use Rattle.points.proofs.Rows.{six}
use Rattle.demands.specs.Secrecy.{AgreementByNumber}

-- each of the six is found by its own number
same_index : (i : ℕ) → i < 6 → index_of (point i).id ≡ i
unfolding index_of point points
same_index i h = eqb-true _ _ (at-below 6 (λ j. eqb (index_of (point j).id) j) refl i h)

-- past its rows a type has no bytes
no_bytes : (b : Build) (s : List ℕ) (i l k : ℕ) → height (point i) ≤ k → value b s i l k ≡ []
unfolding value part len_at
no_bytes b s i l k h = ap (part s (offset b i l k)) (get_or-eq_default (lens (point i)) 0 (rw (length-map (point i).rows row_len) h))

is_there_lem : (b : Build) (t l k : ℕ) → l < logicals b (index_of t) → k < height (point (index_of t)) → There (place_of b t l k)
unfolding place_of
is_there_lem b t l k hl hk = (spot_of b (index_of t) l k, simp (lt-ltb 0 (logicals b (index_of t)) (omega arith), lt-ltb _ _ hl, lt-ltb _ _ hk))

pub agree_by_number : AgreementByNumber
agree_by_number b K s t same i l k hl hr = go (ltb k (height (point i))) refl
  where
    e : index_of (point i).id ≡ i
    e = same_index i (six b i l hl)

    go : (x : Bool) → ltb k (height (point i)) ≡ x → value b s i l k ≡ value b t i l k
    go true h = rw e at (same (point i).id l k (is_there_lem b (point i).id l k (rw e hl) (rw e (ltb-true _ _ h))) (rw e hr))
    go false h = no_bytes b s i l k (ltb-false _ _ h) ∙ sym (no_bytes b t i l k (ltb-false _ _ h))

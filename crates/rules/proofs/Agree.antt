-- Two stores that agree in all that a level may read: what storing does to them, and what the checks look at in them.
-- Assumes nothing.
use Prim.Native.Nat.{ℕ, zero, suc, ◌≤◌, ◌<◌}
use native.Mathlib.Omega.{arith}
use mathlib.Core.Path.{◌≡◌, refl, sym, ap, ap₂, ◌∙◌, fun_ext}
use mathlib.Core.Bool.{Bool, true, false}
use mathlib.Core.Logic.{◌⊎◌, inl, inr}
use mathlib.Core.List.{List, [], ◌∷◌, ◌++◌}
use borrow.Author.Tests.{eqb-true}
use lib.ListN.{length}
use lib.Dec.{eqb}
use Rattle.base.specs.Lists.{All, only}
use Rattle.points.specs.Types.{points, Build, logicals, point, tables, segments}
use Rattle.points.specs.Place.{store_size}
use Rattle.store.specs.Store.{value, values, Write, Names, storing, stored}
use Rattle.store.proofs.Laws.{Sound, names?, storing-there, storing_elsewhere, stored-length}
use Rattle.values.specs.Pairs.{pair_of, paired, together}
use Rattle.rules.specs.Agree.{Agree}

pub lower : (b : Build) (K L : ℕ) (s t : List ℕ) → L ≤ K → Agree b K s t → Agree b L s t
lower b K L s t h same i l k hl hr = same i l k hl (omega arith)

-- ---- all that is asked of the levels: what a check looks at in the store is everybody's to read

pub tables_open : (point tables).reads ≤ 0
unfolding point points
tables_open = omega arith

pub segments_open : (point segments).reads ≤ 0
unfolding point points
segments_open = omega arith

module _ (b : Build) (s t : List ℕ) (same : Agree b 0 s t) where
  pub together-same : (i l k : ℕ) → l < logicals b i → together b s i l k ≡ together b t i l k
  unfolding together
  together-same i l k h = go (eqb i segments) refl
    where
      go : (x : Bool) → eqb i segments ≡ x
          → only x (paired (pair_of k) l (value b s segments l)) ≡ only x (paired (pair_of k) l (value b t segments l))
      go true e = ap (paired (pair_of k) l) (fun_ext λ q. same segments l q (rw (eqb-true i segments e) at h) segments_open)
      go false e = refl

-- ---- runs of values

pub values_same : (b : Build) (K : ℕ) (s t : List ℕ) → Agree b K s t → (i l k n : ℕ) → l < logicals b i → (point i).reads ≤ K
    → values b s i l k n ≡ values b t i l k n
unfolding values
values_same b K s t same i l k zero hl hr = refl
values_same b K s t same i l k (suc n) hl hr =
    ap₂ (λ (x y : List ℕ). x ++ y) (same i l k hl hr) (values_same b K s t same i l (suc k) n hl hr)

-- ---- the same values stored in both

pub storing-same : (b : Build) (K : ℕ) (s t : List ℕ) → length s ≡ store_size b → length t ≡ store_size b → (w : Write) → Sound b w
    → Agree b K s t → Agree b K (storing b s w) (storing b t w)
storing-same b K s t ls lt w o same i l k h r = go (names? w i l k)
  where
    go : Names w i l k ⊎ (Names w i l k → ⊥) → value b (storing b s w) i l k ≡ value b (storing b t w) i l k
    go (inl e) = storing-there b s w ls o i l k e ∙ sym (storing-there b t w lt o i l k e)
    go (inr ne) = storing_elsewhere b s w ls o i l k h ne ∙ same i l k h r ∙ sym (storing_elsewhere b t w lt o i l k h ne)

pub stored_same : (b : Build) (K : ℕ) (s t : List ℕ) → length s ≡ store_size b → length t ≡ store_size b → Agree b K s t
    → (ws : List Write) → All (Sound b) ws → Agree b K (stored b s ws) (stored b t ws)
unfolding stored
stored_same b K s t ls lt same [] o = same
stored_same b K s t ls lt same (w ∷ ws) o =
    storing-same b K (stored b s ws) (stored b t ws) (stored-length b s ls ws o.1) (stored-length b t lt ws o.1) w o.0
    (stored_same b K s t ls lt same ws o.1)

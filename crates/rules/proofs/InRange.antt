-- A store all of whose values are in range stays so when a value that was judged in it is stored.
-- Assumes nothing.
use Prim.Native.Nat.{ℕ, ◌<◌}
use native.Mathlib.Decide.{ℕ_discrete}
use mathlib.Core.Path.{◌≡◌, refl, ap, ◌∙◌}
use mathlib.Core.Bool.{Bool, true, false}
use mathlib.Core.Logic.{◌⊎◌, inl, inr}
use mathlib.Core.List.{List, [], ◌∷◌}
use borrow.Author.Tests.{eqb-true}
use lib.ListN.{length}
use lib.Dec.{eqb}
use Rattle.base.specs.Lists.{All, only}
use Rattle.points.specs.Types.{Build, logicals, segments}
use Rattle.points.specs.Place.{store_size}
use Rattle.store.specs.Store.{value, Write, Names, storing, stored}
use Rattle.store.proofs.Laws.{Sound, three?, names?, storing-there, storing_elsewhere, stored-length}
use Rattle.values.specs.Pairs.{pair?, pair_of, paired, together}
use Rattle.values.proofs.Paired.{pair_depends}
use Rattle.rules.specs.InRange.{Ranged, holding, InRange, Judged}

-- w is of the pair of parameter k of logical l of type 124
abbrev Mates : Write → ℕ → ℕ → Type 0
Mates w l k = (w.type ≡ segments) × (w.logical ≡ l) × (pair_of w.parameter ≡ pair_of k)

mates? : (w : Write) (l k : ℕ) → Mates w l k ⊎ (Mates w l k → ⊥)
mates? w l k = three? (ℕ_discrete w.type segments) (ℕ_discrete w.logical l) (pair? (pair_of w.parameter) (pair_of k))

-- what was judged for one of a pair is judged for the other
pair_of_lem : (b : Build) (s : List ℕ) (i l' k' l k : ℕ) → i ≡ segments → l' ≡ l → pair_of k' ≡ pair_of k → together b s i l' k' ≡ true
    → paired (pair_of k) l (value b s segments l) ≡ true
unfolding together
pair_of_lem b s i l' k' l k e f g h = rw (e, f, g) at h

-- ---- one value stored

module _ (b : Build) (s : List ℕ) (w : Write) (whole : length s ≡ store_size b) (o : Sound b w) (good : InRange b s) (fine : Ranged b (storing b s w) w) where
  -- a pair that w belongs to is as judged, any other as it was
  pair-kept : (l k : ℕ) → l < logicals b segments → paired (pair_of k) l (value b s segments l) ≡ true → Mates w l k ⊎ (Mates w l k → ⊥)
      → paired (pair_of k) l (value b (storing b s w) segments l) ≡ true
  pair-kept l k h old (inl m) = pair_of_lem b (storing b s w) _ _ _ l k m.0 m.1 m.2 fine.1
  pair-kept l k h old (inr ne) =
      pair_depends (pair_of k) l (value b (storing b s w) segments l) (value b s segments l)
      (λ q e. storing_elsewhere b s w whole o segments l q h (λ n. ne (n.0, n.1, ap pair_of n.2 ∙ e)))
      ∙ old

  together-kept : (i l k : ℕ) → l < logicals b i → together b s i l k ≡ true → together b (storing b s w) i l k ≡ true
  unfolding together
  together-kept i l k h = go (eqb i segments) refl
    where
      go : (x : Bool) → eqb i segments ≡ x → only x (paired (pair_of k) l (value b s segments l)) ≡ true
          → only x (paired (pair_of k) l (value b (storing b s w) segments l)) ≡ true
      go true e old = pair-kept l k (rw (eqb-true i segments e) at h) old (mates? w l k)
      go false e old = refl

  pub storing_in_range : InRange b (storing b s w)
  storing_in_range i l k hl hk = go (names? w i l k)
    where
      go : Names w i l k ⊎ (Names w i l k → ⊥) → Ranged b (storing b s w) (holding b (storing b s w) i l k)
      go (inl e) = rw (storing-there b s w whole o i l k e, ← e.0, ← e.1, ← e.2) fine
      go (inr ne) = rw (storing_elsewhere b s w whole o i l k hl ne) ((good i l k hl hk).0, together-kept i l k hl (good i l k hl hk).1)

pub stored_in_range : (b : Build) (s : List ℕ) → length s ≡ store_size b → InRange b s → (ws : List Write) → All (Sound b) ws → Judged b s ws
    → InRange b (stored b s ws)
unfolding stored
stored_in_range b s whole good [] o j = good
stored_in_range b s whole good (w ∷ ws) o j =
    storing_in_range b (stored b s ws) w (stored-length b s whole ws o.1) o.0 (stored_in_range b s whole good ws o.1 j.1) j.0

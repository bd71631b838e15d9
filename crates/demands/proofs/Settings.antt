-- The system write: the parameter holds the value, every other keeps its bytes.
-- Assumes nothing.
use Prim.Native.Nat.{ℕ, ◌≤◌, ◌<◌}
use native.Mathlib.Omega.{arith}
use mathlib.Core.Path.{◌≡◌, refl, sym, ap, ◌∙◌}
use mathlib.Core.List.{List, [], ◌∷◌}
use borrow.Author.Tests.{eqb-true}
use lib.ListN.{length, take}
use lib.Seq.{take_all}
use Rattle.base.specs.Check.{fault, pass}
use Rattle.base.proofs.Checks.{Holds, passing, step, step-test}
use Rattle.points.specs.Types.{Build, logicals, index_of}
use Rattle.points.specs.Place.{len_at}
use Rattle.store.specs.Store.{value, Write, Names, stored}
use Rattle.store.proofs.Laws.{stored_there, stored_elsewhere}
use Rattle.rules.specs.Entries.{system, block}
use Rattle.rules.specs.System.{setting, Left, system_write}
use Rattle.rules.proofs.Answered.{Written, unset, was_set, written}
use Rattle.demands.specs.Tables.{set_to, system_table}
use Rattle.demands.specs.Brought.{values_in}
use Rattle.demands.proofs.Says.{given_first, first_has, blank}
use Rattle.demands.proofs.Acted.{writing_brings}
use Rattle.demands.proofs.Unframed.{setting-says}

module _ (b : Build) (s : List ℕ) (t l k : ℕ) (v : List ℕ) where
  setting_brings : Holds (λ ws. ws ≡ set_to t l k v ∷ []) (setting b s t l k v)
  unfolding setting values_in
  setting_brings =
      step _ λ _. step _ λ _. step-test _ _ λ long.
      let e : take (len_at (index_of t) k) v ≡ v = take_all (len_at (index_of t) k) v (omega (arith, eqb-true (length v) (len_at (index_of t) k) long)) in
      rw e at (writing_brings b system s (block (index_of t) l k) 1 v 0 [])

  -- a refusal has a number
  refused-number : {n p : ℕ} → setting b s t l k v ≡ fault n p → 1 ≤ n
  unfolding blank
  refused-number {n} {p} e =
      first_has (λ m. 1 ≤ m) n p (system_table b s t l k v) (omega arith) (given_first _ (sym (setting-says b s t l k v).says ∙ rw e))

  brought_by : {ws : List Write} → setting b s t l k v ≡ pass ws → ws ≡ set_to t l k v ∷ []
  brought_by e = elim (rw e at setting_brings) [ passing q ↦ q ]

  -- acted on: the one value is stored
  pub system_acts : (system_write b s t l k v).outcome ≡ 0 → (system_write b s t l k v).store ≡ stored b s (set_to t l k v ∷ [])
  system_acts = go (written b s t l k v)
    where
      go : {x : Left} → Written b s t l k v x → x.outcome ≡ 0 → x.store ≡ stored b s (set_to t l k v ∷ [])
      go (unset e) z = let n = refused-number e in absurd (omega arith)
      go (was_set w e q) z = ap (stored b s) (brought_by e)

  pub system_holds : (system_write b s t l k v).outcome ≡ 0 → value b (system_write b s t l k v).store (index_of t) l k ≡ v
  system_holds = go (written b s t l k v)
    where
      go : {x : Left} → Written b s t l k v x → x.outcome ≡ 0 → value b x.store (index_of t) l k ≡ v
      go (unset e) z = let n = refused-number e in absurd (omega arith)
      go (was_set w e q) z =
          let o = rw (brought_by e) at q.sound in
          rw (brought_by e) (stored_there b s w [] (set_to t l k v) [] (index_of t) l k o.0.logical o (refl, refl, refl) tt)

  pub system_kept : (i m n : ℕ) → m < logicals b i → (Names (set_to t l k v) i m n → ⊥) → value b (system_write b s t l k v).store i m n ≡ value b s i m n
  system_kept i m n hm ne = go (written b s t l k v)
    where
      go : {x : Left} → Written b s t l k v x → value b x.store i m n ≡ value b s i m n
      go (unset e) = refl
      go (was_set {ws} w e q) = stored_elsewhere b s w ws i m n hm q.sound (rw (brought_by e) (ne, tt))

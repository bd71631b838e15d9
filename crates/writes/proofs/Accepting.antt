-- A value is accepted by the rules exactly where the code admits it: its pair is judged beside the store as it arrived.
-- Assumes nothing.
use Prim.Native.Nat.{ℕ, ◌+◌}
use native.Mathlib.Nat.{add-zero}
use mathlib.Core.Path.{◌≡◌, refl, sym, ap, ◌∙◌}
use mathlib.Core.Bool.{Bool, true, false}
use mathlib.Core.List.{List, ◌∷◌}
use borrow.Author.Tests.{leb-true}
use lib.Dec.{leb}
use lib.ListN.{length, take}
use lib.Seq.{length-take-le}
use Rattle.base.specs.Check.{Check, fault, pass, ◌>>=◌, test, from}
use Rattle.base.specs.Lists.{All}
use Rattle.points.specs.Types.{row, gateway}
use Rattle.points.specs.Place.{first, len_at, store_size}
use Rattle.points.specs.Columns.{row_at}
use Rattle.points.proofs.Rows.{row_at_lem, six}
use Rattle.store.specs.Store.{stored}
use Rattle.store.proofs.Laws.{Sound}
use Rattle.values.specs.Judged.{judged}
use Rattle.values.specs.Pairs.{together}
use Rattle.values.specs.Weighed.{mated, weighed}
use Rattle.rules.specs.Entries as rules
use Rattle.rules.specs.Entries.{Named, may_write}
use Rattle.rules.specs.Lists.{entry, accepts}
use Rattle.rules.proofs.Found.{Stands}
use Rattle.writes.proofs.Mates.{Earlier, as_arrived}

-- ---- the two chains of checks, over their tests alone: m may be written, t is long enough, j is how the row judges it, g its pair

abbrev rule_chain : (m t : Bool) → Check Unit → (g : Bool) → (locked end at : ℕ) → Check Unit
rule_chain m t j g locked end at = do
  _ ← test m 26 locked
  _ ← test t 21 end
  _ ← from at j
  _ ← test g 27 at
  pass tt

abbrev weight : Check Unit → Bool → Check Unit
weight j g = do
  _ ← j
  _ ← test g 27 0
  pass tt

abbrev pub code_chain : (m t : Bool) → Check Unit → (locked end at : ℕ) → Check Unit
code_chain m t w locked end at = do
  _ ← test m 26 locked
  _ ← test t 21 end
  from at w

same_chain : (m t : Bool) (j : Check Unit) (g : Bool) (locked end at : ℕ) → rule_chain m t j g locked end at ≡ code_chain m t (weight j g) locked end at
unfolding ◌>>=◌ test from
same_chain false t j g locked end at = refl
same_chain true false j g locked end at = refl
same_chain true true (fault n p) g locked end at = refl
same_chain true true (pass x) true locked end at = refl
same_chain true true (pass x) false locked end at = ap (fault 27) (sym (add-zero at))

-- the pair counts only where it is reached
pair_reached : (m t : Bool) (j : Check Unit) (g g' : Bool) (locked end at : ℕ) → (m ≡ true → t ≡ true → g ≡ g') → rule_chain m t j g locked end at ≡ rule_chain m t j g' locked end at
unfolding ◌>>=◌ test
pair_reached false t j g g' locked end at h = refl
pair_reached true false j g g' locked end at h = refl
pair_reached true true j g g' locked end at h = ap (λ (x : Bool). from at j >>= λ _. test x 27 at >>= λ _. pass tt) (h refl refl)

-- ---- an entry

module _ (who : rules.Caller) (s : List ℕ) (whole : length s ≡ store_size gateway) where
  pub accepts_is : (ws : List _) (q : Named) (d : List ℕ) (locked at : ℕ) → Stands gateway q → All (Sound gateway) ws → Earlier who ws
      → accepts gateway who s ws q d locked at
      ≡ code_chain (may_write who (row_at (first q.type + q.parameter)).access q.logical) (leb (len_at q.type q.parameter) (length d))
      (weighed gateway s (first q.type + q.parameter) q.logical (take (len_at q.type q.parameter) d)) locked (at + length d) at
  unfolding accepts weighed
  accepts_is ws q d locked at w sound e =
      rw (row_at_lem q.type q.parameter w.parameter)
      (pair_reached _ _ (judged gateway (row q.type q.parameter) q.logical v) _ _ locked (at + length d) at mate ∙ same_chain _ _ _ _ locked (at + length d) at)
    where
      v : List ℕ
      v = take (len_at q.type q.parameter) d

      mate : may_write who (row q.type q.parameter).access q.logical ≡ true → leb (len_at q.type q.parameter) (length d) ≡ true
          → together gateway (stored gateway s (entry q d ∷ ws)) q.type q.logical q.parameter ≡ mated gateway s (first q.type + q.parameter) q.logical v
      mate em et =
          as_arrived who s whole ws sound e q.type q.logical q.parameter _ (six gateway q.type q.logical w.logical)
          (record { logical = w.logical; parameter = w.parameter; long = length-take-le _ d (leb-true _ _ et) }) em

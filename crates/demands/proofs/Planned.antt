-- Each opcode's checks are its table, and so are those of the system write and of the number read.
-- Assumes nothing.
use Prim.Native.Nat.{ℕ}
use mathlib.Core.Path.{◌≡◌, refl}
use mathlib.Core.Bool.{Bool, true, false}
use mathlib.Core.List.{List, [], ◌∷◌}
use borrow.Author.Tests.{ltb-true}
use lib.ListN.{get_or, drop}
use lib.Dec.{ltb}
use Rattle.base.specs.Check.{Check}
use Rattle.base.proofs.Below.{at-below}
use Rattle.points.specs.Types.{points, Build, logicals, point, height, index_of}
use Rattle.points.proofs.Rows.{six}
use Rattle.rules.specs.Asked.{Held}
use Rattle.rules.specs.Entries.{request, named}
use Rattle.rules.specs.Lists.{ends, fitting}
use Rattle.rules.specs.Opcodes.{plan7, plan8, last_of, spans, plan167, plan166, counted, plan180, plan181, locates, plan10, plan11, Opcode, read7, set8, read10, write11, write166, read167, read180, write181, unserved, plan}
use Rattle.demands.specs.Table.{unless, first_of}
use Rattle.demands.specs.Rows.{type_row, logical_row, parameter_row, short_row, count_row}
use Rattle.demands.specs.Tables.{count_table, locate_table, plan_table}
use Rattle.demands.proofs.Says.{Says, blank, say, ask, last, follow, end}
use Rattle.demands.proofs.Tabled.{there-says, reading-says, writing-says}

-- ---- 167 and 166: a type with a logical has a parameter 0, and what the first check found is there

-- each of the six types has a parameter 0
has_first : (b : Build) (i : ℕ) → ltb 0 (logicals b i) ≡ true → ltb 0 (height (point i)) ≡ true
unfolding point points
has_first b i e = at-below 6 (λ j. ltb 0 (height (point j))) refl i (six b i 0 (ltb-true _ _ e))

-- a row that stood before, or that follows from one that did, is none
again : {A : Type 0} {c : Check A} (s x y z n last : Bool) (m : ℕ) → (x ≡ true → z ≡ true)
    → Says c (unless s 21 m ∷ unless x 22 0 ∷ unless y 23 1 ∷ unless z 24 3 ∷ unless n 30 2 ∷ unless x 22 0 ∷ unless y 23 1 ∷ unless last 24 3 ∷ [])
    → Says c (unless s 21 m ∷ unless x 22 0 ∷ unless y 23 1 ∷ unless n 30 2 ∷ unless last 24 3 ∷ [])
unfolding first_of
again false x y z n last m h k = record { says = k.says }
again true false y z n last m h k = record { says = k.says }
again true true false z n last m h k = record { says = k.says }
again true true true true n last m h k = record { says = k.says }
again true true true false n last m h k = cc (h refl)

spans-says : (b : Build) (d : List ℕ)
    → Says (spans b d) (short_row 4 d ∷ type_row b (get_or d 0 0) 0 ∷ logical_row b (get_or d 0 0) (get_or d 1 0) 1 ∷ count_row (get_or d 2 0) 2 ∷ parameter_row (get_or d 0 0) (last_of d) 3 ∷ [])
unfolding spans
spans-says b d =
    again _ _ _ _ _ _ _ (has_first b (index_of (get_or d 0 0)))
    (ask λ _. follow (there-says b (get_or d 0 0) (get_or d 1 0) 0 0 1 3) λ _. ask λ _. there-says b (get_or d 0 0) (get_or d 1 0) (last_of d) 0 1 3)

counted-says : (d : List ℕ) → Says (counted d) (count_table d)
unfolding counted
counted-says d = ask λ _. last

locates-says : (b : Build) (d : List ℕ) → Says (locates b d) (locate_table b d)
unfolding locates
locates-says b d = ask λ _. ask λ _. ask λ _. ask λ _. ask λ _. say

module _ (b : Build) (L : ℕ) (h : Held) (d : List ℕ) where
  pub plan-says : (o : Opcode) → Says (plan b o L h d) (plan_table b o L h d)
  unfolding plan plan_table plan7 plan8 plan167 plan166 plan180 plan181 plan10 plan11 ends fitting blank first_of
  plan-says read7 = ask λ _. say
  plan-says set8 = ask λ _. ask λ _. ask λ _. ask λ _. ask λ _. ask λ _. ask λ _. ask λ _. ask λ _. say
  plan-says read10 = follow (locates-says b d) λ _. end (reading-says b (request L) _ (get_or d 2 0) (drop 3 d) 3 _) λ _. say
  plan-says write11 = follow (locates-says b d) λ _. end (writing-says b (request L) h.store _ (get_or d 2 0) (drop 3 d) 3 []) λ _. say
  plan-says write166 =
      follow (spans-says b d) λ _. ask λ _. end (writing-says b (request L) h.store _ (get_or d 2 0) (drop 4 d) 4 []) λ _. say
  plan-says read167 = follow (spans-says b d) λ _. ask λ _. ask λ _. ask λ _. say
  plan-says read180 = follow (counted-says d) λ _. end (reading-says b (request L) named (get_or d 0 0) (drop 1 d) 1 _) λ _. say
  plan-says write181 = follow (counted-says d) λ _. end (writing-says b (request L) h.store named (get_or d 0 0) (drop 1 d) 1 []) λ _. say
  plan-says unserved = record { says = refl }

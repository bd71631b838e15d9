-- A list with one entry more taken, and what stays of it.
-- Assumes nothing.
use Prim.Native.Nat.{ℕ, ◌+◌, ◌*◌}
use native.Mathlib.Omega.{arith}
use mathlib.Core.Path.{◌≡◌, refl, ap, ◌∙◌}
use lib.ListN.{drop}
use lib.Seq.{drop-drop}
use Rattle.rules.specs.Entries.{Source, block, named, located, spoken, after, locked_place}
use Rattle.lists.specs.Walks.{taken}

pub taken_more : (src : Source) (e : ℕ) → after (taken e src) ≡ taken (e + 1) src
unfolding taken
taken_more (block i l k) e = ap (block i l) (omega arith)
taken_more named e = refl
taken_more (located bs) e = let z : 3 * e + 3 ≡ 3 * (e + 1) = omega arith in ap located (drop-drop 3 (3 * e) bs ∙ ap (λ (n : ℕ). drop n bs) z)

pub taken_none : (src : Source) → taken 0 src ≡ src
unfolding taken
taken_none (block i l k) = ap (block i l) (omega arith)
taken_none named = refl
taken_none (located bs) = refl

pub spoken_taken : (src : Source) (e : ℕ) → spoken (taken e src) ≡ spoken src
unfolding taken
spoken_taken (block i l k) e = refl
spoken_taken named e = refl
spoken_taken (located bs) e = refl

pub locked_taken : (src : Source) (e at : ℕ) → locked_place (taken e src) at ≡ locked_place src at
unfolding taken
locked_taken (block i l k) e at = refl
locked_taken named e at = refl
locked_taken (located bs) e at = refl

-- Texts that depend on the row or the logical, as the code writes them.
-- Assumes nothing.
use mathlib.Core.Path.{◌≡◌, refl, sym, ap, ◌∙◌}
use mathlib.Core.List.{List, [], ◌∷◌, ◌++◌, map, append_assoc}
use Prim.Native.Nat.{ℕ, zero, suc, ◌+◌, ◌-◌, ◌≤◌, ◌<◌}
use native.Mathlib.Nat.{not-suc-le-zero}
use native.Mathlib.Omega.{arith}
use borrow.Author.Tests.{lt-ltb, le-ltb, eqb-true}
use lib.Dec.{eqb}
use lib.ListN.{length, get_or, drop, get_or-map}
use lib.Seq.{get_or-drop}
use Rattle.base.specs.Bytes.{ascii, padded}
use Rattle.base.proofs.Below.{at-below, entry-small}
use Rattle.points.specs.Row.{Row, no_row}
use Rattle.points.specs.Columns.{all_rows, row_at}
use Rattle.store.specs.Fresh.{digits, two_digits}
use Rattle.fill.specs.Steps.{row_words}

-- ---- a number behind a name

-- a space behind a text is one of those that follow it
padded_space : (w : List ℕ) (n : ℕ) → padded n (w ++ (32 ∷ [])) ≡ padded n w
padded_space w zero = refl
padded_space [] (suc n) = refl
padded_space (x ∷ w) (suc n) = ap (λ (l : List ℕ). x ∷ l) (padded_space w n)

module _ (name : List ℕ) (n x : ℕ) where
  pub one_digit : x < 10 → padded n (name ++ ((48 + x) ∷ 32 ∷ [])) ≡ padded n (name ++ digits x)
  one_digit h =
      simp (lt-ltb x 10 h) (ap (padded n) (sym (append_assoc name ((48 + x) ∷ []) (32 ∷ []))) ∙ padded_space (name ++ ((48 + x) ∷ [])) n)

  pub two_digits_long : 10 ≤ x → padded n (name ++ two_digits x) ≡ padded n (name ++ digits x)
  two_digits_long h = simp (le-ltb x 10 h)

-- ---- texts by row: the tags of the first ten rows, and none in the others

pub tag : (r : ℕ) → r < 10 → row_words (row_at r) ≡ ascii "Register" ++ digits (r + 1)
unfolding row_at
tag zero h = refl
tag (suc zero) h = refl
tag (suc (suc zero)) h = refl
tag (suc (suc (suc zero))) h = refl
tag (suc (suc (suc (suc zero)))) h = refl
tag (suc (suc (suc (suc (suc zero))))) h = refl
tag (suc (suc (suc (suc (suc (suc zero)))))) h = refl
tag (suc (suc (suc (suc (suc (suc (suc zero))))))) h = refl
tag (suc (suc (suc (suc (suc (suc (suc (suc zero)))))))) h = refl
tag (suc (suc (suc (suc (suc (suc (suc (suc (suc zero))))))))) h = refl
tag (suc (suc (suc (suc (suc (suc (suc (suc (suc (suc r)))))))))) h = absurd (omega arith)

-- a tag has ten bytes, and so there is room for it
pub tag_long : (r : ℕ) → r < 10 → (row_at r).len ≡ 10
unfolding row_at
tag_long r h = eqb-true _ _ (at-below 10 (λ j. eqb (row_at j).len 10) refl r h)

pub tag_room : (s : List ℕ) (at r : ℕ) → r < 10 → at + (row_at r).len ≤ length s → at + 10 ≤ length s
tag_room s at r h k = omega (arith, tag_long r h)

abbrev words_long : Row → ℕ
words_long r = length (row_words r)

none-long : (w : List ℕ) → length w ≤ 0 → w ≡ []
none-long [] h = refl
none-long (x ∷ w) h = absurd (not-suc-le-zero h)

pub no_words : (r : ℕ) → 10 ≤ r → row_words (row_at r) ≡ []
unfolding row_at
no_words r h =
    let e : 10 + (r - 10) ≡ r = omega arith in
    let row : get_or (drop 10 all_rows) (r - 10) no_row ≡ row_at r = get_or-drop 10 all_rows (r - 10) no_row ∙ ap row_at e in
    let k : words_long (get_or (drop 10 all_rows) (r - 10) no_row) ≤ 0 =
    rw (← get_or-map words_long (drop 10 all_rows) (r - 10) no_row) (entry-small 0 (map words_long (drop 10 all_rows)) refl (r - 10)) in
    none-long (row_words (row_at r)) (rw row at k)

-- A text is weighed byte by byte: it has no narrower range and no mate.
-- Assumes nothing.
use Prim.Native.Nat.{ℕ, ◌-◌, ◌<◌}
use native.Mathlib.Nat.{add-zero}
use native.Mathlib.Omega.{arith}
use mathlib.Core.Path.{◌≡◌, refl, ap}
use mathlib.Core.Bool.{Bool, true, false, cond}
use mathlib.Core.List.{List, [], ◌∷◌}
use borrow.Author.Tests.{eqb-true}
use lib.Dec.{leb, eqb}
use Rattle.base.specs.Check.{Check, fault, pass, ◌>>=◌, test, from}
use Rattle.base.specs.Lists.{both, only}
use Rattle.base.proofs.Below.{at-below, both_left, both_right}
use Rattle.points.specs.Row.{Range, any, between, status, rate, size, number}
use Rattle.points.specs.Types.{gateway, segments}
use Rattle.points.specs.Place.{first}
use Rattle.points.specs.Columns.{row_at, kind_of}
use Rattle.points.specs.declared.Kind.{Kind}
use Rattle.points.specs.declared.Kind.TheVariants.{Text, Unsigned, Signed, Single, Double, Tlp}
use Rattle.points.proofs.Rows.{first_segment}
use Rattle.store.specs.Store.{value}
use Rattle.values.specs.Kinds.{printable, printed, of_kind}
use Rattle.values.specs.Judged.{in_range, judged}
use Rattle.values.specs.Pairs.{Pair, none, sizes, periodic, daily, pair_of, paired}
use Rattle.values.specs.Weighed.{changed, mated, weighed}
use Rattle.writes.specs.Walked.{printing}
use Rattle.writes.proofs.Mates.{pair_code}

-- the rules' chain for a text, where b says whether it is printable
abbrev judgement : Bool → Check Unit
judgement b = do
  _ ← test b 27 0
  _ ← test true 27 0
  pass tt

abbrev chain : Bool → Check Unit
chain b = do
  _ ← judgement b
  _ ← test true 27 0
  pass tt

letters : (v : List ℕ) (at : ℕ) → from at (chain (printed v)) ≡ printing v at
unfolding printed printing ◌>>=◌ test from
letters [] at = refl
letters (x ∷ v) at = go (printable x) (letters v at)
  where
    go : (b : Bool) → from at (chain (printed v)) ≡ printing v at → from at (chain (cond b (printed v) false)) ≡ (test b 27 at >>= λ _. printing v at)
    go true ih = ih
    go false ih = ap (fault 27) (add-zero at)

abbrev is_any : Range → Bool
is_any any = true
is_any (between least most) = false
is_any status = false
is_any rate = false
is_any size = false
is_any number = false

is_any_lem : (r : Range) → is_any r ≡ true → r ≡ any
is_any_lem any e = refl
is_any_lem (between least most) e = cc
is_any_lem status e = cc
is_any_lem rate e = cc
is_any_lem size e = cc
is_any_lem number e = cc

abbrev is_text : Kind → Bool
is_text Text = true
is_text Unsigned = false
is_text Signed = false
is_text Single = false
is_text Double = false
is_text Tlp = false

is_none : (p : Pair) → pair_code p ≡ 0 → p ≡ none
is_none none e = refl
is_none sizes e = absurd (omega arith)
is_none periodic e = absurd (omega arith)
is_none daily e = absurd (omega arith)

-- one test over the rows
plain_text : ℕ → Bool
plain_text r = only (is_text (kind_of (row_at r).kind)) (both (is_any (row_at r).range) (only (leb 161 r) (eqb (pair_code (pair_of (r - 161))) 0)))

texts_plain : (r : ℕ) → r < 175 → plain_text r ≡ true
unfolding plain_text row_at pair_of
texts_plain r h = at-below 175 plain_text refl r h

module _ (r : ℕ) (h : r < 175) (text : kind_of (row_at r).kind ≡ Text) where
  plain : both (is_any (row_at r).range) (only (leb 161 r) (eqb (pair_code (pair_of (r - 161))) 0)) ≡ true
  unfolding plain_text
  plain = rw text at (texts_plain r h)

  mateless : (s : List ℕ) (l : ℕ) (v : List ℕ) → mated gateway s r l v ≡ true
  unfolding mated paired
  mateless s l v = go (leb 161 r) refl (both_right (is_any (row_at r).range) _ plain)
    where
      go : (b : Bool) → leb 161 r ≡ b → only b (eqb (pair_code (pair_of (r - 161))) 0) ≡ true
          → only (leb (first segments) r) (paired (pair_of (r - first segments)) l (changed (r - first segments) v (value gateway s segments l))) ≡ true
      go false x t = rw (first_segment, x) refl
      go true x t =
          let p : pair_of (r - 161) ≡ none = is_none _ (eqb-true _ 0 t) in
          rw (first_segment, x, p) refl

  rangeless : (row_at r).range ≡ any
  rangeless = is_any_lem (row_at r).range (both_left (is_any (row_at r).range) _ plain)

  -- a text is fine if each of its bytes is
  pub weighs_text : (s : List ℕ) (l : ℕ) (v : List ℕ) (at : ℕ) → from at (weighed gateway s r l v) ≡ printing v at
  unfolding weighed judged of_kind in_range
  weighs_text s l v at = rw (text, rangeless, mateless s l v) (letters v at)

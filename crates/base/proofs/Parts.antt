-- A part of a list, and a list with a part replaced: what is read back, there and elsewhere.
-- Assumes nothing.
use mathlib.Core.Path.{◌≡◌, refl, sym, ap, ◌∙◌}
use mathlib.Core.List.{List, [], ◌∷◌, ◌++◌, append_assoc, append-nil}
use mathlib.Core.Logic.{◌⊎◌, inl, inr}
use Prim.Native.Nat.{ℕ, suc, ◌+◌, ◌-◌, ◌≤◌, ◌<◌}
use native.Mathlib.Nat.{add-zero, add_assoc}
use native.Mathlib.Numerals.{add-one}
use native.Mathlib.Omega.{arith}
use lib.ListN.{length, get_or, take, drop, length-append, length-take, length-drop, take-append-drop}
use lib.Seq.{take-length, length-take-le, take_at, drop_at, take-append-le, take-take, take-add, drop-cons, drop-drop}
use Rattle.std.proofs.lemmas.List.{drop-take}
use Rattle.base.specs.Lists.{part, put}

pub length_part : (s : List ℕ) (a n : ℕ) → a + n ≤ length s → length (part s a n) ≡ n
unfolding part
length_part s a n h = length-take-le n (drop a s) (simp length-drop (omega arith))

pub part_all : (s : List ℕ) (n : ℕ) → length s ≡ n → part s 0 n ≡ s
unfolding part
part_all s n e = rw (← e) (take-length s)

-- the first element of a part, and the rest
pub part-cons : (s : List ℕ) (a n : ℕ) → a < length s → part s a (suc n) ≡ get_or s a 0 ∷ part s (a + 1) n
unfolding part
part-cons s a n h = rw (add-one, drop-cons s a 0)

-- two parts, one behind the other
pub part-add : (s : List ℕ) (a m n : ℕ) → part s a (m + n) ≡ part s a m ++ part s (a + m) n
unfolding part
part-add s a m n = take-add m n (drop a s) ∙ ap (λ (l : List ℕ). take m (drop a s) ++ take n l) (drop-drop m a s)

module _ (s v : List ℕ) (a : ℕ) (fits : a + length v ≤ length s) where
  pub length-put : length (put s a v) ≡ length s
  unfolding put
  length-put = simp (length-append, length-take, length-drop) (omega arith)

  pub part-put : part (put s a v) a (length v) ≡ v
  unfolding put part
  part-put =
      ap (λ (l : List ℕ). take (length v) (drop a l)) (append_assoc (take a s) v (drop (a + length v) s))
      ∙ ap (take (length v)) (drop_at (take a s) (v ++ drop (a + length v) s) a (length-take-le a s (omega arith)))
      ∙ take_at v (drop (a + length v) s) (length v) refl

  head-length : length (take a s ++ v) ≡ a + length v
  head-length = simp (length-append, length-take) (omega arith)

  -- a part that ends at or before the place
  pub part-before : (b n : ℕ) → b + n ≤ a → part (put s a v) b n ≡ part s b n
  unfolding put part
  part-before b n h =
      sym (drop-take b n (take a s ++ v ++ drop (a + length v) s))
      ∙ ap (λ (l : List ℕ). drop b (take (b + n) l)) (append_assoc (take a s) v (drop (a + length v) s))
      ∙ ap (drop b) (take-append-le (b + n) (take a s) (v ++ drop (a + length v) s) (simp length-take (omega arith)) ∙ take-take (b + n) a s h)
      ∙ drop-take b n s

  -- a part that begins behind what was put
  pub part_behind : (b n : ℕ) → a + length v ≤ b → part (put s a v) b n ≡ part s b n
  unfolding put part
  part_behind b n h =
      let k : ℕ = b - (a + length v) in
      let e : a + length v + k ≡ b = omega arith in
      ap (λ (j : ℕ). take n (drop j (take a s ++ v ++ drop (a + length v) s))) (sym e)
      ∙ ap (take n) (sym (drop-drop k (a + length v) (take a s ++ v ++ drop (a + length v) s))
      ∙ ap (drop k) (drop_at (take a s ++ v) (drop (a + length v) s) (a + length v) head-length)
      ∙ drop-drop k (a + length v) s)
      ∙ ap (λ (j : ℕ). take n (drop j s)) e

  -- two stretches with nothing in common
  pub part_apart : (b n : ℕ) → (a + length v ≤ b) ⊎ (b + n ≤ a) → part (put s a v) b n ≡ part s b n
  part_apart b n (inl h) = part_behind b n h
  part_apart b n (inr h) = part-before b n h

-- nothing put
pub put-none : (s : List ℕ) (a : ℕ) → put s a [] ≡ s
unfolding put
put-none s a = rw (append-nil, add-zero) (take-append-drop a s)

-- two pieces put one behind the other are one piece: how a reply is built
pub put_join : (s v w : List ℕ) (a : ℕ) → a + length v + length w ≤ length s → put (put s a v) (a + length v) w ≡ put s a (v ++ w)
unfolding put
put_join s v w a h =
    let m : ℕ = a + length v in
    let e : length (take a s ++ v) ≡ m = head-length s v a (omega arith) in
    let front : take m (take a s ++ v ++ drop m s) ≡ take a s ++ v = take_at (take a s ++ v) (drop m s) m e in
    let back : drop (m + length w) (take a s ++ v ++ drop m s) ≡ drop (a + length (v ++ w)) s =
    sym (drop-drop (length w) m (take a s ++ v ++ drop m s))
    ∙ ap (drop (length w)) (drop_at (take a s ++ v) (drop m s) m e)
    ∙ drop-drop (length w) m s
    ∙ ap (λ (j : ℕ). drop j s) (add_assoc a (length v) (length w) ∙ ap (λ (j : ℕ). a + j) (sym (length-append v w))) in
    rw (front, back) (ap (λ (l : List ℕ). l ++ drop (a + length (v ++ w)) s) (append_assoc (take a s) v w))

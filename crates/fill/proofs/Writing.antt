-- A text and a number, written into a value.
-- Assumes nothing.
use mathlib.Core.Path.{◌≡◌, refl, ap}
use mathlib.Core.List.{List, [], ◌∷◌, ◌++◌, append-nil}
use Prim.Native.Nat.{ℕ, min, zero, suc, ◌+◌, ◌-◌, ◌/◌, ◌%◌, ◌≤◌, ◌<◌}
use native.Mathlib.Nat.{sub-zero}
use native.Mathlib.Numerals.{add-one}
use native.Mathlib.Omega.{arith}
use borrow.Rule.Slice.PartMut.{put_mid}
use lib.ListN.{length, take, drop, set, replicate}
use lib.Seq.{take-suc-set, take_all, take_at, drop_at, append_snoc}
use Rattle.base.specs.Bytes.{bytes, padded}

-- a text in n bytes: as much of it as there is room for, and spaces behind it
pub padded_parts : (n : ℕ) (w : List ℕ) → padded n w ≡ take (min (length w) n) w ++ replicate (n - min (length w) n) 32
padded_parts zero w = let m : min (length w) 0 ≡ 0 = omega arith in rw m refl
padded_parts (suc n) [] =
    let m : min 0 (suc n) ≡ 0 = omega arith in
    let k : min 0 n ≡ 0 = omega arith in
    rw (m, sub-zero) (ap (λ (l : List ℕ). 32 ∷ l) (rw (k, sub-zero) at (padded_parts n [])))
padded_parts (suc n) (x ∷ w) =
    let m : min (suc (length w)) (suc n) ≡ suc (min (length w) n) = omega arith in
    let k : suc n - suc (min (length w) n) ≡ n - min (length w) n = omega arith in
    rw (m, k) (ap (λ (l : List ℕ). x ∷ l) (padded_parts n w))

-- ---- i bytes of a number are written, and y is left of it

pub figure_more : (s : List ℕ) (n i y : ℕ) → i < length s → i < n
    → take (i + 1) (set s i (y % 256)) ++ bytes (n - (i + 1)) (y / 256) ≡ take i s ++ bytes (n - i) y
figure_more s n i y h k =
    let m : n - i ≡ suc (n - (i + 1)) = omega arith in
    rw (m, add-one, take-suc-set) (append_snoc (take i s) (y % 256) (bytes (n - suc i) (y / 256)))

pub figure_all : (s : List ℕ) (n i y : ℕ) → length s ≤ i → n ≤ i → take i s ++ bytes (n - i) y ≡ s
figure_all s n i y h k =
    let m : n - i ≡ 0 = omega arith in
    rw (m, take_all i s h) (append-nil s)

-- a name of eight bytes, and two digits in place of the spaces behind it
pub label : (name digits : List ℕ) → length name ≡ 8 → length digits ≡ 2 → put_mid 8 2 (name ++ 32 ∷ 32 ∷ []) digits ≡ name ++ digits
label name digits h k =
    let front : take 8 (name ++ 32 ∷ 32 ∷ []) ≡ name = take_at name (32 ∷ 32 ∷ []) 8 h in
    let back : drop 8 (name ++ 32 ∷ 32 ∷ []) ≡ 32 ∷ 32 ∷ [] = drop_at name (32 ∷ 32 ∷ []) 8 h in
    rw (front, back) (ap (λ (l : List ℕ). name ++ l) (append-nil digits))

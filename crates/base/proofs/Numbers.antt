-- The number that a part of a list says, by its bytes.
-- Assumes nothing.
use mathlib.Core.Path.{◌≡◌, sym, ap, ◌∙◌}
use mathlib.Core.List.{List, [], ◌∷◌, ◌++◌}
use Prim.Native.Nat.{ℕ, zero, suc, ◌+◌, ◌*◌, ◌^◌, ◌≤◌, ◌<◌}
use native.Mathlib.Nat.{pow-suc, mul_comm, mul_assoc}
use native.Mathlib.Omega.{arith}
use lib.ListN.{length, get_or, take}
use lib.Seq.{take-suc, length-take-le}
use Rattle.std.specs.Int.{w16, w32, w64, from_le_bytes, sum_through, byte_worth}
use Rattle.base.specs.Lists.{part}
use Rattle.base.specs.Bytes.{le}
use Rattle.base.proofs.Parts.{part-cons, part_all}

-- the number of two lists, one behind the other
pub le-append : (x y : List ℕ) → le (x ++ y) ≡ le x + 256 ^ length x * le y
unfolding le
le-append [] y = omega arith
le-append (b ∷ x) y =
    let e : 256 ^ suc (length x) * le y ≡ 256 * (256 ^ length x * le y) =
    ap (λ (p : ℕ). p * le y) (pow-suc 256 (length x) ∙ mul_comm (256 ^ length x) 256) ∙ mul_assoc 256 (256 ^ length x) (le y) in
    let ih = le-append x y in
    omega arith

-- ---- the same by std's words, where a number has just so many bytes

-- the first k + 1 bytes, each at what it is worth at its place
worth : (bs : List ℕ) (k : ℕ) → k < length bs → sum_through (λ i. byte_worth i (get_or bs i 0)) k ≡ le (take (suc k) bs)
unfolding le
worth [] k h = absurd (omega arith)
worth (b ∷ bs) zero h = omega arith
worth (b ∷ bs) (suc k) h =
    let n : length (take (suc k) (b ∷ bs)) ≡ suc k = length-take-le (suc k) (b ∷ bs) (omega arith) in
    let x : ℕ = get_or (b ∷ bs) (suc k) 0 in
    let t : take (suc (suc k)) (b ∷ bs) ≡ take (suc k) (b ∷ bs) ++ (x ∷ []) = take-suc (b ∷ bs) (suc k) 0 h in
    let e : le (take (suc (suc k)) (b ∷ bs)) ≡ le (take (suc k) (b ∷ bs)) + 256 ^ suc k * x =
    ap le t ∙ le-append (take (suc k) (b ∷ bs)) (x ∷ []) ∙ rw n (omega arith) in
    ap (λ (s : ℕ). s + x * 256 ^ suc k) (worth (b ∷ bs) k (omega arith)) ∙ ap (λ (p : ℕ). le (take (suc k) (b ∷ bs)) + p) (mul_comm x (256 ^ suc k)) ∙ sym e

pub le_of_1 : (s : List ℕ) (a : ℕ) → a + 1 ≤ length s → le (part s a 1) ≡ get_or s a 0
unfolding le part
le_of_1 s a h = let h₁ : a < length s = omega arith in rw (part-cons s a 0) (omega arith)

pub le_of_2 : (bs : List ℕ) → length bs ≡ 2 → le bs ≡ from_le_bytes w16 bs
unfolding part
le_of_2 bs e = sym (worth bs 1 (omega arith) ∙ ap le (part_all bs 2 e))

pub le_of_4 : (bs : List ℕ) → length bs ≡ 4 → le bs ≡ from_le_bytes w32 bs
unfolding part
le_of_4 bs e = sym (worth bs 3 (omega arith) ∙ ap le (part_all bs 4 e))

pub le_of_8 : (bs : List ℕ) → length bs ≡ 8 → le bs ≡ from_le_bytes w64 bs
unfolding part
le_of_8 bs e = sym (worth bs 7 (omega arith) ∙ ap le (part_all bs 8 e))

-- A list written piece by piece from its front: each piece behind the ones before makes one piece of them all.
-- Assumes nothing.
use mathlib.Core.Path.{◌≡◌, sym, ap, ap₂, ◌∙◌}
use mathlib.Core.List.{List, ◌++◌, append_assoc, append-nil}
use Prim.Native.Nat.{ℕ, ◌+◌, ◌-◌, ◌≤◌}
use native.Mathlib.Nat.{zero-add}
use native.Mathlib.Omega.{arith}
use lib.ListN.{length, take, drop, length-append, length-drop, take-append-drop}
use lib.Seq.{sets, sets-eq, take_at, drop_at, take-append_seam, drop-append-add, drop-drop, drop-length, length-take-le}
use Rattle.base.specs.Lists.{part, put, over}
use Rattle.base.proofs.Parts.{length_part}

-- the first piece
pub put_first : (s v : List ℕ) → put s 0 v ≡ over s v
unfolding put over
put_first s v = rw zero-add

-- one more piece behind the first ones
pub over-next : (s v w : List ℕ) (n : ℕ) → length v ≡ n → put (over s v) n w ≡ over s (v ++ w)
unfolding put over
over-next s v w n e =
    rw (← e)
    (ap₂ (λ (x y : List ℕ). x ++ w ++ y) (take-append_seam v (drop (length v) s)) (drop-append-add v (drop (length v) s) (length w) ∙ drop-drop (length w) (length v) s)
    ∙ ap (λ (k : ℕ). v ++ w ++ drop k s) (sym (length-append v w)))

-- a piece that stands behind the first ones already
pub over-there : (s v : List ℕ) (a n : ℕ) → length v ≡ a → a + n ≤ length s → over s v ≡ over s (v ++ part s a n)
unfolding over part
over-there s v a n e h =
    let d : List ℕ = take n (drop a s) in
    let len : length d ≡ n = length_part s a n h in
    let sum : a + n ≡ length (v ++ d) = simp length-append (omega arith) in
    let rest : drop n (drop a s) ≡ drop (length (v ++ d)) s = drop-drop n a s ∙ ap (λ (k : ℕ). drop k s) sum in
    ap (λ (k : ℕ). v ++ drop k s) e
    ∙ ap (λ (l : List ℕ). v ++ l) (sym (take-append-drop n (drop a s)) ∙ ap (λ (l : List ℕ). d ++ l) rest)
    ∙ sym (append_assoc v d (drop (length (v ++ d)) s))

-- what is written over a piece leaves nothing of it
pub over-put : (s v w : List ℕ) (a : ℕ) → a ≤ length s → a + length v ≤ length w → over (put s a v) w ≡ over s w
unfolding over put
over-put s v w a hs hw =
    let m : ℕ = a + length v in
    let k : ℕ = length w - m in
    let e : m + k ≡ length w = omega arith in
    let front : length (take a s ++ v) ≡ m = length-append (take a s) v ∙ ap (λ (j : ℕ). j + length v) (length-take-le a s hs) in
    ap (λ (l : List ℕ). w ++ l)
    (ap (λ (j : ℕ). drop j (take a s ++ v ++ drop m s)) (sym e)
    ∙ sym (drop-drop k m (take a s ++ v ++ drop m s))
    ∙ ap (drop k) (drop_at (take a s ++ v) (drop m s) m front)
    ∙ drop-drop k m s
    ∙ ap (λ (j : ℕ). drop j s) e)

-- its front is what was written
pub take-over : (s v : List ℕ) (n : ℕ) → length v ≡ n → take n (over s v) ≡ v
unfolding over
take-over s v n e = take_at v (drop (length v) s) n e

-- as many as there are leave none of them
pub over-whole : (s v : List ℕ) → length s ≡ length v → over s v ≡ v
unfolding over
over-whole s v e = ap (λ (n : ℕ). v ++ drop n s) (sym e) ∙ ap (λ (l : List ℕ). v ++ l) (drop-length s) ∙ append-nil v

pub length_over : (s v : List ℕ) → length v ≤ length s → length (over s v) ≡ length s
unfolding over
length_over s v h = simp (length-append, length-drop) (omega arith)

-- single stores, one behind the other
pub stored : (s v : List ℕ) (a : ℕ) → a + length v ≤ length s → sets s a v ≡ put s a v
unfolding put
stored s v a h = sets-eq v s a h

-- Lists joined, and lists zipped: what stands where.
-- Assumes nothing.
use mathlib.Core.Path.{◌≡◌, refl, sym, ap, ◌∙◌}
use mathlib.Core.List.{List, [], ◌∷◌, ◌++◌, map}
use Prim.Native.Nat.{ℕ, zero, suc, ◌+◌, ◌*◌, ◌≤◌, ◌<◌}
use native.Mathlib.Nat.{zero-add, add-zero, add-suc, suc-add, add_assoc, zero-mul, suc-mul, not-suc-le-zero, le_of_suc-le-suc}
use native.Mathlib.Omega.{arith}
use lib.ListN.{length, get_or, take, drop, length-append, get_or-append}
use lib.Seq.{get_or-append-add, take-append_seam, drop-append-add, take_at, take-take, drop-drop}
use Rattle.base.specs.Lists.{part, sum, joined, upward, zipped}
use Rattle.std.proofs.lemmas.List.{drop-take}

-- the k-th element of the i-th of several lists
pub joined_at : {A : Type 0} (d : A) (xs : List (List A)) (i k : ℕ) → k < length (get_or xs i [])
    → get_or (joined xs) (sum (take i (map length xs)) + k) d ≡ get_or (get_or xs i []) k d
joined_at d [] i k h = absurd (not-suc-le-zero h)
joined_at d (x ∷ xs) zero k h = ap (λ (n : ℕ). get_or (x ++ joined xs) n d) (zero-add k) ∙ get_or-append x (joined xs) d k h
joined_at d (x ∷ xs) (suc i) k h =
    ap (λ (n : ℕ). get_or (x ++ joined xs) n d) (add_assoc (length x) (sum (take i (map length xs))) k)
    ∙ get_or-append-add x (joined xs) (sum (take i (map length xs)) + k) d
    ∙ joined_at d xs i k h

-- the k-th of several lists, whole
pub joined-part : (xs : List (List ℕ)) (k : ℕ) → part (joined xs) (sum (take k (map length xs))) (length (get_or xs k [])) ≡ get_or xs k []
unfolding part
joined-part [] k = refl
joined-part (x ∷ xs) zero = take-append_seam x (joined xs)
joined-part (x ∷ xs) (suc k) =
    ap (take (length (get_or xs k []))) (drop-append-add x (joined xs) (sum (take k (map length xs)))) ∙ joined-part xs k

pub length-joined : (xs : List (List ℕ)) → length (joined xs) ≡ sum (map length xs)
length-joined [] = refl
length-joined (x ∷ xs) = length-append x (joined xs) ∙ ap (λ (n : ℕ). length x + n) (length-joined xs)

-- a part of a part
pub part-part : (s : List ℕ) (b m a n : ℕ) → a + n ≤ m → part (part s b m) a n ≡ part s (b + a) n
unfolding part
part-part s b m a n h =
    sym (drop-take a n (take m (drop b s)))
    ∙ ap (drop a) (take-take (a + n) m (drop b s) h)
    ∙ drop-take a n (drop b s)
    ∙ ap (take n) (drop-drop a b s)

-- of lists that are all of one length, the l-th
pub upward-part : (g : ℕ → List ℕ) (e : ℕ) → ((j : ℕ) → length (g j) ≡ e) → (n i l : ℕ) → l < n
    → part (joined (upward g i n)) (l * e) e ≡ g (i + l)
unfolding part
upward-part g e len zero i l h = absurd (not-suc-le-zero h)
upward-part g e len (suc n) i zero h =
    rw (zero-mul, add-zero) (take_at (g i) (joined (upward g (suc i) n)) e (len i))
upward-part g e len (suc n) i (suc l) h =
    let f : suc l * e ≡ length (g i) + l * e = suc-mul l e ∙ omega (arith, len i) in
    ap (λ (m : ℕ). take e (drop m (g i ++ joined (upward g (suc i) n)))) f
    ∙ ap (take e) (drop-append-add (g i) (joined (upward g (suc i) n)) (l * e))
    ∙ upward-part g e len n (suc i) l (le_of_suc-le-suc h)
    ∙ ap g (suc-add i l ∙ sym (add-suc i l))

pub length-upward : (g : ℕ → List ℕ) (e : ℕ) → ((j : ℕ) → length (g j) ≡ e) → (n i : ℕ) → length (joined (upward g i n)) ≡ n * e
length-upward g e len zero i = sym (zero-mul e)
length-upward g e len (suc n) i =
    length-append (g i) (joined (upward g (suc i) n)) ∙ omega (arith, len i, length-upward g e len n (suc i), suc-mul n e)

-- the i-th of two lists zipped; past either end f gives the default
pub zipped-at : {A B C : Type 0} (f : A → B → C) (a : A) (b : B) (c : C) → ((y : B) → f a y ≡ c) → ((x : A) → f x b ≡ c)
    → (xs : List A) (ys : List B) (i : ℕ) → get_or (zipped f xs ys) i c ≡ f (get_or xs i a) (get_or ys i b)
zipped-at f a b c l r [] ys i = sym (l _)
zipped-at f a b c l r (x ∷ xs) [] i = sym (r _)
zipped-at f a b c l r (x ∷ xs) (y ∷ ys) zero = refl
zipped-at f a b c l r (x ∷ xs) (y ∷ ys) (suc i) = zipped-at f a b c l r xs ys i

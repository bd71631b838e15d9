-- Lists: a part, a list with a part replaced, sums, lists joined, and what holds of each element.
-- Assumes nothing.
use Rattle.std.specs.Prelude.{ℕ, zero, suc, ◌+◌, Bool, true, false, List, [], ◌∷◌, ◌++◌, length, take, drop}

-- the n elements from place a on
unfoldable pub part : List ℕ → ℕ → ℕ → List ℕ
part s a n = take n (drop a s)

-- the list with v in it from place a on
unfoldable pub put : List ℕ → ℕ → List ℕ → List ℕ
put s a v = take a s ++ v ++ drop (a + length v) s

-- the list with v at its front: what a space holds once v is written to it
unfoldable pub over : List ℕ → List ℕ → List ℕ
over s v = v ++ drop (length v) s

abbrev pub sum : List ℕ → ℕ
sum [] = 0
sum (x ∷ xs) = x + sum xs

abbrev pub joined {ℓ} : {A : Type ℓ} → List (List A) → List A
joined [] = []
joined (x ∷ xs) = x ++ joined xs

-- g i, g (i + 1), .. : n of them
abbrev pub upward : {A : Type 0} → (ℕ → A) → ℕ → ℕ → List A
upward g i zero = []
upward g i (suc n) = g i ∷ upward g (suc i) n

-- each of two lists' elements with the other's
abbrev pub zipped : {A B C : Type 0} → (A → B → C) → List A → List B → List C
zipped f [] ys = []
zipped f (x ∷ xs) [] = []
zipped f (x ∷ xs) (y ∷ ys) = f x y ∷ zipped f xs ys

-- each element of a list
abbrev pub All : {A : Type 0} → (A → Type 0) → List A → Type 0
All P [] = Unit {0}
All P (x ∷ xs) = P x × All P xs

-- ---- tests joined

abbrev pub both : Bool → Bool → Bool
both true b = b
both false b = false

abbrev pub either : Bool → Bool → Bool
either true b = true
either false b = b

-- a test that is asked only where the first holds
abbrev pub only : Bool → Bool → Bool
only true b = b
only false b = true

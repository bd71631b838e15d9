-- The laws of checks: a proof about a check goes line by line as the check does, and past each line it has what passed there.
-- Assumes nothing.
use Prim.Native.Nat.{ℕ}
use mathlib.Core.Path.{◌≡◌, refl, ap, ◌∙◌}
use mathlib.Core.Bool.{Bool, true, false}
use mathlib.Core.List.{List, [], ◌∷◌}
use Rattle.base.specs.Check.{Check, fault, pass, ◌>>=◌, test, outcome_of}
use Rattle.base.specs.Lists.{All}

-- two that go on from the same check are equal if they are past it
pub step_same : {A B : Type 0} (c : Check A) {f g : A → Check B} → ((a : A) → f a ≡ g a) → (c >>= f) ≡ (c >>= g)
unfolding ◌>>=◌
step_same (fault n p) h = refl
step_same (pass a) h = h a

-- the same for a test that looks at the store: the two tests come out alike
pub test-same : {B : Type 0} {b b' : Bool} (n p : ℕ) {x y : Check B} → b ≡ b' → x ≡ y → (test b n p >>= λ _. x) ≡ (test b' n p >>= λ _. y)
test-same n p e f = rw (e, f)

-- what holds of each result that passes
pub data Holds {A : Type 0} (P : A → Type 0) : Check A → Type 0 where
  faulty : {n p : ℕ} → Holds P (fault n p)
  passing : {a : A} → P a → Holds P (pass a)

pub step : {A B : Type 0} (c : Check A) {f : A → Check B} {P : B → Type 0} → ((a : A) → Holds P (f a)) → Holds P (c >>= f)
unfolding ◌>>=◌
step (fault n p) h = faulty
step (pass a) h = h a

-- the same where the first check is known to hold something
pub step_with : {A B : Type 0} {c : Check A} {f : A → Check B} {Q : A → Type 0} {P : B → Type 0}
    → Holds Q c → ((a : A) → Q a → Holds P (f a)) → Holds P (c >>= f)
unfolding ◌>>=◌
step_with faulty h = faulty
step_with (passing q) h = h _ q

-- what passes a test is that it holds
pub tested : (b : Bool) (n p : ℕ) → Holds (λ _. b ≡ true) (test b n p)
unfolding test
tested true n p = passing refl
tested false n p = faulty

pub step-test : {B : Type 0} {b : Bool} (n p : ℕ) {x : Check B} {P : B → Type 0} → (b ≡ true → Holds P x) → Holds P (test b n p >>= λ _. x)
step-test {b} n p h = step_with (tested b n p) λ _. h

-- three checks, one behind the other
pub then_then : {A B C : Type 0} (c : Check A) (f : A → Check B) (g : B → Check C) → (c >>= f >>= g) ≡ (c >>= λ a. f a >>= g)
unfolding ◌>>=◌
then_then (fault n p) f g = refl
then_then (pass a) f g = refl

-- what is known anyway holds of what passes
pub anyway : {A P : Type 0} → P → (c : Check A) → Holds (λ _. P) c
anyway q (fault n p) = faulty
anyway q (pass a) = passing q

-- what follows from what is known holds too
pub holds-map : {A : Type 0} {c : Check A} {P Q : A → Type 0} → Holds P c → ((a : A) → P a → Q a) → Holds Q c
holds-map faulty h = faulty
holds-map (passing p) h = passing (h _ p)

-- two that go on from the same check, of which something is known
pub hold_same : {A B : Type 0} {c : Check A} {f g : A → Check B} {Q : A → Type 0} → Holds Q c → ((a : A) → Q a → f a ≡ g a) → (c >>= f) ≡ (c >>= g)
unfolding ◌>>=◌
hold_same faulty h = refl
hold_same (passing q) h = h _ q

-- the same of a test: it holds where the two go on
pub same-test : {B : Type 0} {b : Bool} (n p : ℕ) {x y : Check B} → (b ≡ true → x ≡ y) → (test b n p >>= λ _. x) ≡ (test b n p >>= λ _. y)
same-test {b} n p h = hold_same (tested b n p) λ _. h

-- and from two checks that come out alike
pub both-same : {A B : Type 0} {c c' : Check A} {f g : A → Check B} {Q : A → Type 0}
    → c ≡ c' → Holds Q c → ((a : A) → Q a → f a ≡ g a) → (c >>= f) ≡ (c' >>= g)
both-same {g} e q h = hold_same q h ∙ ap (λ (x : Check _). x >>= g) e

-- what each of a list has, each has of what follows from it
pub all_map : {A : Type 0} {P Q : A → Type 0} (xs : List A) → ((x : A) → P x → Q x) → All P xs → All Q xs
all_map [] f a = tt
all_map (x ∷ xs) f a = (f x a.0, all_map xs f a.1)

-- ---- for the code: a test that came out one way or the other (the definition at one turn of a loop)

pub passed : {B : Type 0} {b : Bool} (n p : ℕ) (x : Check B) → b ≡ true → (test b n p >>= λ _. x) ≡ x
unfolding ◌>>=◌ test
passed n p x e = rw e

pub failed : {B : Type 0} {b : Bool} (n p : ℕ) (x : Check B) → b ≡ false → (test b n p >>= λ _. x) ≡ fault n p
unfolding ◌>>=◌ test
failed n p x e = rw e

-- the same for any check

pub on_pass : {A B : Type 0} {c : Check A} {a : A} (f : A → Check B) → c ≡ pass a → (c >>= f) ≡ f a
unfolding ◌>>=◌
on_pass f e = rw e

pub on_fault : {A B : Type 0} {c : Check A} {n p : ℕ} (f : A → Check B) → c ≡ fault n p → (c >>= f) ≡ fault n p
unfolding ◌>>=◌
on_fault f e = rw e

-- where the whole passes, so does the first
pub first_passes : {A B : Type 0} (c : Check A) {f : A → Check B} {x : B} → (c >>= f) ≡ pass x → (a : A) × ((c ≡ pass a) × (f a ≡ pass x))
unfolding ◌>>=◌
first_passes (fault n p) e = cc
first_passes (pass a) e = (a, (refl, e))

-- and a first test holds
pub first-test : {B : Type 0} (b : Bool) (n p : ℕ) (x : Check B) {y : B} → (test b n p >>= λ _. x) ≡ pass y → b ≡ true
unfolding ◌>>=◌ test
first-test true n p x e = refl
first-test false n p x e = cc

-- a check and nothing behind it: what it comes to is the check's own
pub last-same : (c : Check Unit) → outcome_of (c >>= λ _. pass (tt {0})) ≡ outcome_of c
unfolding outcome_of ◌>>=◌
last-same (fault n p) = refl
last-same (pass a) = refl

-- No two parameters share a byte, and each lies within the store, whatever the build.
-- Assumes nothing.
use mathlib.Core.Path.{◌≡◌, refl, ap, subst}
use mathlib.Core.Logic.{◌⊎◌, inl, inr, ⊎_elim}
use Prim.Native.Nat.{ℕ, zero, suc, ◌+◌, ◌*◌, ◌≤◌, ◌<◌}
use native.Mathlib.Nat.{suc-mul, mul-le-mul_right, zero-mul, mul-zero}
use native.Mathlib.Omega.{arith}
use lib.ListN.{get_or}
use Rattle.base.proofs.Sums.{before, inside, step}
use Rattle.base.proofs.Joined.{zipped-at}
use Rattle.points.specs.Types.{points, no_point, point, Build, counts, logicals}
use Rattle.points.specs.Place.{lens, each, area, areas, store_size, base, within, len_at, offset}

-- a type's bytes are its logicals'
pub area_of : (b : Build) (i : ℕ) → get_or (areas b) i 0 ≡ logicals b i * each (point i)
unfolding areas logicals point
area_of b i = zipped-at area 0 no_point 0 (λ p. zero-mul (each p)) (λ n. mul-zero n) (counts b) points i

-- a parameter ends no later than its logical
ends : (b : Build) (i l k : ℕ) → offset b i l k + len_at i k ≤ base b i + l * each (point i) + each (point i)
unfolding offset within len_at
ends b i l k = omega (arith, inside (lens (point i)) k)

-- one logical more
pub grown : (i l m : ℕ) → l < m → l * each (point i) + each (point i) ≤ m * each (point i)
grown i l m h = subst (λ (n : ℕ). n ≤ m * each (point i)) (suc-mul l (each (point i))) (mul-le-mul_right (each (point i)) h)

-- a type ends where the next begins, at the latest, and within the store
type_before : (b : Build) (i m : ℕ) → i < m → base b i + logicals b i * each (point i) ≤ base b m
unfolding base
type_before b i m h = omega (arith, before (areas b) i m h, area_of b i)

type_inside : (b : Build) (i : ℕ) → base b i + logicals b i * each (point i) ≤ store_size b
unfolding base store_size
type_inside b i = omega (arith, inside (areas b) i, area_of b i)

-- a parameter lies within the store
pub fits : (b : Build) (i l k : ℕ) → l < logicals b i → offset b i l k + len_at i k ≤ store_size b
fits b i l k h = omega (arith, ends b i l k, grown i l (logicals b i) h, type_inside b i)

-- the next parameter begins where this one ends
pub next_parameter : (b : Build) (i l k : ℕ) → offset b i l (suc k) ≡ offset b i l k + len_at i k
unfolding offset within len_at
next_parameter b i l k = omega (arith, step (lens (point i)) k)

-- ---- each of two different parameters lies before the other, or behind it

-- two stretches with nothing in common
abbrev pub Apart : ℕ → ℕ → ℕ → ℕ → Type 0
Apart a n c m = (a + n ≤ c) ⊎ (c + m ≤ a)

order : (a c : ℕ) → (a < c) ⊎ ((c < a) ⊎ (a ≡ c))
order zero zero = inr (inr refl)
order zero (suc c) = inl (omega arith)
order (suc a) zero = inr (inl (omega arith))
order (suc a) (suc c) =
    ⊎_elim (λ h. inl (omega arith)) (⊎_elim (λ h. inr (inl (omega arith))) (λ h. inr (inr (ap suc h)))) (order a c)

by_type : (b : Build) (i l k j m n : ℕ) → l < logicals b i → i < j → offset b i l k + len_at i k ≤ offset b j m n
unfolding offset
by_type b i l k j m n h e = omega (arith, ends b i l k, grown i l (logicals b i) h, type_before b i j e)

by_logical : (b : Build) (i l k m n : ℕ) → l < m → offset b i l k + len_at i k ≤ offset b i m n
unfolding offset
by_logical b i l k m n e = omega (arith, ends b i l k, grown i l m e)

by_parameter : (b : Build) (i l k n : ℕ) → k < n → offset b i l k + len_at i k ≤ offset b i l n
unfolding offset within len_at
by_parameter b i l k n e = omega (arith, before (lens (point i)) k n e)

module _ (b : Build) (i l k j m n : ℕ) (hl : l < logicals b i) (hm : m < logicals b j) where
  pub apart : ((i ≡ j) × (l ≡ m) × (k ≡ n) → ⊥) → Apart (offset b i l k) (len_at i k) (offset b j m n) (len_at j n)
  apart ne = types (order i j)
    where
      parameters : i ≡ j → l ≡ m → (k < n) ⊎ ((n < k) ⊎ (k ≡ n)) → Apart (offset b i l k) (len_at i k) (offset b j m n) (len_at j n)
      parameters e f (inl h) = inl (rw (← e, ← f) (by_parameter b i l k n h))
      parameters e f (inr (inl h)) = inr (rw (← e, ← f) (by_parameter b i l n k h))
      parameters e f (inr (inr h)) = absurd (ne (e, f, h))

      logicals' : i ≡ j → (l < m) ⊎ ((m < l) ⊎ (l ≡ m)) → Apart (offset b i l k) (len_at i k) (offset b j m n) (len_at j n)
      logicals' e (inl h) = inl (rw (← e) (by_logical b i l k m n h))
      logicals' e (inr (inl h)) = inr (rw (← e) (by_logical b i m n l k h))
      logicals' e (inr (inr h)) = parameters e h (order k n)

      types : (i < j) ⊎ ((j < i) ⊎ (i ≡ j)) → Apart (offset b i l k) (len_at i k) (offset b j m n) (len_at j n)
      types (inl h) = inl (by_type b i l k j m n hl h)
      types (inr (inl h)) = inr (by_type b j m n i l k hm h)
      types (inr (inr h)) = logicals' h (order l m)

-- The laws of the store: what was stored is read back, every other parameter keeps its bytes, the length stays.
-- Assumes nothing.
use mathlib.Core.Path.{◌≡◌, refl, sym, ap, ◌∙◌}
use mathlib.Core.Logic.{◌⊎◌, inl, inr}
use mathlib.Core.List.{List, [], ◌∷◌, ◌++◌, append-nil}
use Prim.Native.Nat.{ℕ, zero, suc, ◌+◌, ◌-◌, ◌≤◌, ◌<◌}
use native.Mathlib.Decide.{ℕ_discrete}
use native.Mathlib.Omega.{arith}
use lib.ListN.{length, take, drop, length-drop, length-append, length-map}
use lib.Seq.{length-take-le, take-add, drop-drop, drop-cons}
use Rattle.base.specs.Lists.{part, put, sum, All}
use Rattle.base.proofs.Parts.{length-put, part-put, part_apart}
use Rattle.points.specs.Types.{Build, logicals, point, height}
use Rattle.points.specs.Place.{row_len, lens, offset, len_at, store_size}
use Rattle.points.proofs.Laws.{fits, apart, next_parameter}
use Rattle.store.specs.Store.{value, values, span_of, Write, Names, storing, stored}

-- ---- one parameter

module _ (b : Build) (s : List ℕ) (whole : length s ≡ store_size b) where
  pub value-length : (i l k : ℕ) → l < logicals b i → length (value b s i l k) ≡ len_at i k
  unfolding value part
  value-length i l k h = length-take-le _ _ (simp length-drop (omega (arith, fits b i l k h)))

  module _ (v : List ℕ) (i l k : ℕ) (hl : l < logicals b i) (len : length v ≡ len_at i k) where
    room : offset b i l k + length v ≤ length s
    room = omega (arith, fits b i l k hl)

    pub kept-length : length (put s (offset b i l k) v) ≡ store_size b
    kept-length = length-put s v (offset b i l k) room ∙ whole

    pub value_same : value b (put s (offset b i l k) v) i l k ≡ v
    unfolding value
    value_same = rw (← len) (part-put s v (offset b i l k) room)

    pub value-other : (j m n : ℕ) → m < logicals b j → ((i ≡ j) × (l ≡ m) × (k ≡ n) → ⊥)
        → value b (put s (offset b i l k) v) j m n ≡ value b s j m n
    unfolding value
    value-other j m n hm ne =
        part_apart s v (offset b i l k) room (offset b j m n) (len_at j n) (rw len (apart b i l k j m n hl hm ne))

-- ---- a run of parameters is one part of the store

pub span_more : (i k n : ℕ) → k < height (point i) → span_of i k (suc n) ≡ len_at i k + span_of i (suc k) n
unfolding len_at
span_more i k n h =
    let m : k < length (lens (point i)) = rw (length-map (point i).rows row_len) h in
    ap (λ (xs : List ℕ). sum (take (suc n) xs)) (drop-cons (lens (point i)) k 0 m)

pub values-part : (b : Build) (s : List ℕ) (i l k n : ℕ) → k + n ≤ height (point i) → values b s i l k n ≡ part s (offset b i l k) (span_of i k n)
unfolding values value part
values-part b s i l k zero h = refl
values-part b s i l k (suc n) h =
    let a : ℕ = offset b i l k in
    ap (λ (v : List ℕ). take (len_at i k) (drop a s) ++ v)
    (values-part b s i l (suc k) n (omega arith) ∙ ap (λ (c : ℕ). take (span_of i (suc k) n) (drop c s)) (next_parameter b i l k))
    ∙ ap (λ (v : List ℕ). take (len_at i k) (drop a s) ++ take (span_of i (suc k) n) v) (sym (drop-drop (len_at i k) a s))
    ∙ sym (take-add (len_at i k) (span_of i (suc k) n) (drop a s))
    ∙ ap (λ (m : ℕ). take m (drop a s)) (sym (span_more i k n (omega arith)))

pub values_one : (b : Build) (s : List ℕ) (i l k : ℕ) → values b s i l k 1 ≡ value b s i l k
unfolding values
values_one b s i l k = append-nil (value b s i l k)

pub values_length : (b : Build) (s : List ℕ) → length s ≡ store_size b → (i l k n : ℕ) → l < logicals b i → k + n ≤ height (point i)
    → length (values b s i l k n) ≡ span_of i k n
unfolding values
values_length b s whole i l k zero hl h = refl
values_length b s whole i l k (suc n) hl h =
    length-append (value b s i l k) (values b s i l (suc k) n)
    ∙ omega (arith, value-length b s whole i l k hl, values_length b s whole i l (suc k) n hl (omega arith), span_more i k n (omega arith))

-- where the parameter behind a run begins, and so where its last one ends
pub span_reach : (b : Build) (i l k n : ℕ) → k + n ≤ height (point i) → offset b i l k + span_of i k n ≡ offset b i l (k + n)
span_reach b i l k zero h = let z : k + 0 ≡ k = omega arith in rw z (omega arith)
span_reach b i l k (suc n) h =
    let z : k + suc n ≡ suc k + n = omega arith in
    rw z (omega (arith, span_more i k n (omega arith), next_parameter b i l k, span_reach b i l (suc k) n (omega arith)))

pub span_end : (b : Build) (i l k n : ℕ) → 1 ≤ n → k + n ≤ height (point i) → offset b i l (k + n - 1) + len_at i (k + n - 1) ≡ offset b i l k + span_of i k n
span_end b i l k n h w =
    let z : suc (k + n - 1) ≡ k + n = omega arith in
    sym (next_parameter b i l (k + n - 1)) ∙ ap (offset b i l) z ∙ sym (span_reach b i l k n w)

-- ---- values stored

-- a value that has its place in the store, and its length
pub record Sound (b : Build) (w : Write) : Type 0 where
  pub logical : w.logical < logicals b w.type
  pub parameter : w.parameter < height (point w.type)
  pub long : length w.bytes ≡ len_at w.type w.parameter

-- three decisions as one
pub three? : {A B C : Type 0} → Dec A → Dec B → Dec C → (A × B × C) ⊎ ((A × B × C) → ⊥)
three? (yes a) (yes b) (yes c) = inl (a, b, c)
three? (no a) y z = inr (λ e. a e.0)
three? (yes a) (no b) z = inr (λ e. b e.1)
three? (yes a) (yes b) (no c) = inr (λ e. c e.2)

pub names? : (w : Write) (i l k : ℕ) → Names w i l k ⊎ (Names w i l k → ⊥)
names? w i l k = three? (ℕ_discrete w.type i) (ℕ_discrete w.logical l) (ℕ_discrete w.parameter k)

module _ (b : Build) (s : List ℕ) (w : Write) (whole : length s ≡ store_size b) (o : Sound b w) where
  pub storing-length : length (storing b s w) ≡ store_size b
  unfolding storing
  storing-length = kept-length b s whole w.bytes w.type w.logical w.parameter o.logical o.long

  pub storing-there : (i l k : ℕ) → Names w i l k → value b (storing b s w) i l k ≡ w.bytes
  unfolding storing
  storing-there i l k e =
      rw (← e.0, ← e.1, ← e.2) (value_same b s whole w.bytes w.type w.logical w.parameter o.logical o.long)

  pub storing_elsewhere : (i l k : ℕ) → l < logicals b i → (Names w i l k → ⊥) → value b (storing b s w) i l k ≡ value b s i l k
  unfolding storing
  storing_elsewhere i l k h ne =
      value-other b s whole w.bytes w.type w.logical w.parameter o.logical o.long i l k h ne

module _ (b : Build) (s : List ℕ) (whole : length s ≡ store_size b) where
  pub stored-length : (ws : List Write) → All (Sound b) ws → length (stored b s ws) ≡ store_size b
  unfolding stored
  stored-length [] o = whole
  stored-length (w ∷ ws) o = storing-length b (stored b s ws) w (stored-length ws o.1) o.0

  pub stored_elsewhere : (ws : List Write) (i l k : ℕ) → l < logicals b i → All (Sound b) ws → All (λ w. Names w i l k → ⊥) ws
      → value b (stored b s ws) i l k ≡ value b s i l k
  unfolding stored
  stored_elsewhere [] i l k h o ne = refl
  stored_elsewhere (w ∷ ws) i l k h o ne =
      storing_elsewhere b (stored b s ws) w (stored-length ws o.1) o.0 i l k h ne.0 ∙ stored_elsewhere ws i l k h o.1 ne.1

  -- a parameter holds the last value that names it
  pub stored_there : (later : List Write) (w : Write) (ws : List Write) (i l k : ℕ) → l < logicals b i → All (Sound b) (later ++ w ∷ ws)
      → Names w i l k → All (λ v. Names v i l k → ⊥) later → value b (stored b s (later ++ w ∷ ws)) i l k ≡ w.bytes
  unfolding stored
  stored_there [] w ws i l k h o n ne = storing-there b (stored b s ws) w (stored-length ws o.1) o.0 i l k n
  stored_there (v ∷ later) w ws i l k h o n ne =
      storing_elsewhere b (stored b s (later ++ w ∷ ws)) v (stored-length (later ++ w ∷ ws) o.1) o.0 i l k h ne.0
      ∙ stored_there later w ws i l k h o.1 n ne.1

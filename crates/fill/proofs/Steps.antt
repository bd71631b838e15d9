-- A fill goes on: by one parameter, from a logical to the next, from a type to the next, and to the end of the store.
-- Assumes nothing.
use mathlib.Core.Path.{◌≡◌, refl, sym, ap, ◌∙◌}
use mathlib.Core.List.{List, [], ◌++◌, append_assoc, append-nil}
use Prim.Native.Nat.{ℕ, ◌+◌, ◌-◌, ◌≤◌, ◌<◌}
use native.Mathlib.Numerals.{add-one}
use native.Mathlib.Omega.{arith}
use borrow.Author.Tests.{eq-eqb, ne_eqb}
use borrow.Rule.Slice.PartMut.{put_mid, Post-is}
use lib.ListN.{length, take, drop, drop_of_length-le}
use lib.Seq.{take_all}
use Rattle.base.specs.Lists.{part, put}
use Rattle.base.proofs.Below.{entry-small}
use Rattle.base.proofs.Parts.{put-none, length_part, put_join, part-add}
use Rattle.base.proofs.Sums.{inside}
use Rattle.points.specs.Types.{point, height, logicals, counts, gateway}
use Rattle.points.specs.Place.{first, spot_of, base, areas, within, len_at, offset, store_size}
use Rattle.points.specs.declared.Spot.{Spot}
use Rattle.points.specs.Columns.{row_at}
use Rattle.points.specs.Sums.{store_bytes}
use Rattle.points.proofs.Laws.{fits, next_parameter}
use Rattle.points.proofs.Rows.{row_at_lem, row_len_lem}
use Rattle.store.specs.Store.{value}
use Rattle.store.specs.Fresh.{start_of, default_of, fresh}
use Rattle.store.proofs.Fresh.{value-fresh, length-fresh, length-start, next_logical, next_type}
use Rattle.rules.specs.System.{fill}
use Rattle.fill.specs.Steps.{renewed}

-- ---- one stretch of the fresh store behind another

pub renewed_none : (s : List ℕ) (a : ℕ) → renewed s a a ≡ s
unfolding renewed part
renewed_none s a = let e : a - a ≡ 0 = omega arith in rw e (put-none s a)

fresh_long : length (fresh gateway) ≡ 12427
fresh_long = length-fresh gateway ∙ store_bytes

stretches : (f s : List ℕ) (a m n : ℕ) → length s ≡ length f → a + m + n ≤ length f
    → put (put s a (part f a m)) (a + m) (part f (a + m) n) ≡ put s a (part f a (m + n))
stretches f s a m n e h =
    let lm : length (part f a m) ≡ m = length_part f a m (omega arith) in
    let ln : length (part f (a + m) n) ≡ n = length_part f (a + m) n (omega arith) in
    rw (part-add f a m n) (rw lm at (put_join s (part f a m) (part f (a + m) n) a (omega arith)))

renewed_more : (s : List ℕ) (a c e : ℕ) → length s ≡ 12427 → a ≤ c → c ≤ e → e ≤ 12427 → renewed (renewed s a c) c e ≡ renewed s a e
unfolding renewed
renewed_more s a c e whole h k m =
    let c₁ : a + (c - a) ≡ c = omega arith in
    let e₁ : (c - a) + (e - c) ≡ e - a = omega arith in
    rw (c₁, e₁) at (stretches (fresh gateway) s a (c - a) (e - c) (whole ∙ sym fresh_long) (omega (arith, fresh_long)))

-- what is renewed up to a place, and from there up to another
onward : (s₀ s z : List ℕ) (a c e : ℕ) → length s₀ ≡ 12427 → a ≤ c → c ≤ e → e ≤ 12427 → s ≡ renewed s₀ a c → z ≡ renewed s c e → z ≡ renewed s₀ a e
onward s₀ s z a c e whole h k m p q = q ∙ ap (λ (x : List ℕ). renewed x c e) p ∙ renewed_more s₀ a c e whole h k m

renewed_all : (s : List ℕ) → length s ≡ 12427 → renewed s 0 12427 ≡ fresh gateway
unfolding renewed put part
renewed_all s whole =
    let e : take 12427 (fresh gateway) ≡ fresh gateway = take_all 12427 (fresh gateway) (omega (arith, fresh_long)) in
    let h : length s ≤ 12427 = omega arith in
    let d : drop 12427 s ≡ [] = drop_of_length-le s h in
    rw (e, fresh_long, d) (append-nil (fresh gateway))

-- a value changed where it lies
changed_there : (s v : List ℕ) (a n : ℕ) → length v ≡ n → put_mid a (a + n - a) s v ≡ put s a v
unfolding put
changed_there s v a n e =
    let there : a + n ≡ a + length v = omega arith in
    ap (λ (l : List ℕ). take a s ++ (v ++ l)) (Post-is a (a + n) s (omega arith) ∙ ap (λ (k : ℕ). drop k s) there)
    ∙ sym (append_assoc (take a s) v (drop (a + length v) s))

-- ---- where parameters, logicals and types begin and end

module _ (i l : ℕ) where
  begins : (k : ℕ) → offset gateway i l 0 ≤ offset gateway i l k
  unfolding offset within
  begins k = omega arith

  ends : (k : ℕ) → l < logicals gateway i → offset gateway i l k + len_at i k ≤ 12427
  ends k h = rw (← store_bytes) (fits gateway i l k h)

  pub logical_end : (k : ℕ) → k ≡ height (point i) → offset gateway i (l + 1) 0 ≡ offset gateway i l k
  logical_end k e = rw (add-one l, e) (next_logical gateway i l)

  next_inside : l < logicals gateway i → offset gateway i (l + 1) 0 ≤ 12427
  next_inside h = omega (arith, logical_end (height (point i)) refl, ends (height (point i)) h)

  type_begins : offset gateway i 0 0 ≤ offset gateway i l 0
  unfolding offset
  type_begins = omega arith

  pub type_end : l ≡ logicals gateway i → offset gateway (i + 1) 0 0 ≡ offset gateway i l 0
  type_end e = rw (add-one i, e) (next_type gateway i)

type_inside : (i : ℕ) → offset gateway i 0 0 ≤ 12427
unfolding offset base within store_size
type_inside i = omega (arith, inside (areas gateway) i, store_bytes)

-- no type has as many logicals as two digits do not name
pub logical_small : (i l : ℕ) → l < logicals gateway i → l < 99
unfolding logicals gateway
logical_small i l h = omega (arith, entry-small 32 (counts gateway) refl i)

-- ---- the turns

module _ (s₀ : List ℕ) (whole : length s₀ ≡ 12427) where
  pub type_turn : (s z : List ℕ) (i : ℕ) → s ≡ renewed s₀ 0 (offset gateway i 0 0)
      → z ≡ renewed s (offset gateway i 0 0) (offset gateway (i + 1) 0 0) → z ≡ renewed s₀ 0 (offset gateway (i + 1) 0 0)
  type_turn s z i p q =
      onward s₀ s z 0 (offset gateway i 0 0) (offset gateway (i + 1) 0 0) whole (omega arith)
      (omega (arith, type_end i (logicals gateway i) refl, type_begins i (logicals gateway i))) (type_inside (i + 1)) p q

  module _ (s : List ℕ) (i l : ℕ) (h : l < logicals gateway i) where
    pub logical_turn : (z : List ℕ) → s ≡ renewed s₀ (offset gateway i 0 0) (offset gateway i l 0)
        → z ≡ renewed s (offset gateway i l 0) (offset gateway i (l + 1) 0) → z ≡ renewed s₀ (offset gateway i 0 0) (offset gateway i (l + 1) 0)
    logical_turn z p q =
        onward s₀ s z (offset gateway i 0 0) (offset gateway i l 0) (offset gateway i (l + 1) 0) whole (type_begins i l)
        (omega (arith, logical_end i l (height (point i)) refl, begins i l (height (point i)))) (next_inside i l h) p q

    -- the default is what the fresh store has there
    pub parameter_turn : (v : List ℕ) (k : ℕ) (spot : Spot) → k < height (point i) → s ≡ renewed s₀ (offset gateway i l 0) (offset gateway i l k)
        → spot ≡ spot_of gateway i l k → v ≡ start_of l spot.len (row_at spot.row).default
        → put s spot.begin v ≡ renewed s₀ (offset gateway i l 0) (offset gateway i l (k + 1))
    unfolding renewed value default_of
    parameter_turn v k spot hk p e ev =
        let at : ℕ = offset gateway i l k in
        let next : offset gateway i l (k + 1) ≡ offset gateway i l k + len_at i k = rw (add-one k) (next_parameter gateway i l k) in
        let wide : offset gateway i l (k + 1) - offset gateway i l k ≡ len_at i k = omega arith in
        let ev₁ : v ≡ start_of l (len_at i k) (row_at (first i + k)).default = rw e at ev in
        let fresh_there : v ≡ part (fresh gateway) at (len_at i k) = (rw (row_at_lem i k hk, ← row_len_lem i k) at ev₁) ∙ sym (value-fresh gateway i l k h) in
        let q : put s spot.begin v ≡ put s at (part (fresh gateway) at (offset gateway i l (k + 1) - offset gateway i l k)) = rw (wide, ← fresh_there, e) in
        onward s₀ s (put s spot.begin v) (offset gateway i l 0) at (offset gateway i l (k + 1)) whole (begins i l k) (omega arith)
        (omega (arith, ends i l k h)) p q

    pub parameter_there : (v : List ℕ) (k : ℕ) (spot : Spot) → k < height (point i) → s ≡ renewed s₀ (offset gateway i l 0) (offset gateway i l k)
        → spot ≡ spot_of gateway i l k → v ≡ start_of l spot.len (row_at spot.row).default
        → put_mid spot.begin (spot.begin + spot.len - spot.begin) s v ≡ renewed s₀ (offset gateway i l 0) (offset gateway i l (k + 1))
    parameter_there v k spot hk p e ev =
        let long : length v ≡ spot.len = ap length ev ∙ length-start l spot.len (row_at spot.row).default in
        changed_there s v spot.begin spot.len long ∙ parameter_turn v k spot hk p e ev

-- ---- the whole fill

pub refused : (s : List ℕ) → (length s ≡ 12427 → ⊥) → record { outcome = 2; store = s } ≡ fill gateway s
unfolding fill
refused s h = simp (ne_eqb (length s) (store_size gateway) (λ e. h (e ∙ store_bytes)))

pub store_begins : offset gateway 0 0 0 ≡ 0
unfolding offset base within point
store_begins = refl

six_ends : offset gateway 6 0 0 ≡ 12427
unfolding offset base within point areas gateway
six_ends = refl

pub store_ends : (i : ℕ) → i ≡ 6 → offset gateway i 0 0 ≡ 12427
store_ends i e = rw e six_ends

pub filled : (s z : List ℕ) → length s ≡ 12427 → z ≡ renewed s 0 12427 → record { outcome = 0; store = z } ≡ fill gateway s
unfolding fill
filled s z h e =
    let k : length s ≡ store_size gateway = h ∙ sym store_bytes in
    let q : z ≡ fresh gateway = e ∙ renewed_all s h in
    simp (eq-eqb (length s) (store_size gateway) k, q)

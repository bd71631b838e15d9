-- The pair of a value is judged in the store that the value makes. The mate of what a request may write is read-only, so the store as it
-- arrived has it: no copy of the store is needed.
-- Assumes nothing.
use Prim.Native.Nat.{ℕ, ◌+◌, ◌-◌, ◌≤◌, ◌<◌}
use native.Mathlib.Decide.{ℕ_discrete}
use native.Mathlib.Omega.{arith}
use mathlib.Core.Path.{◌≡◌, refl, sym, ap, ◌∙◌}
use mathlib.Core.Bool.{Bool, true, false, cond, not}
use mathlib.Core.List.{List, [], ◌∷◌}
use borrow.Author.Tests.{eq-eqb, ne_eqb, le-leb, lt-leb, ltb-true, ltb-false}
use lib.Dec.{eqb, leb, ltb}
use lib.ListN.{length, get_or-eq_default}
use Rattle.base.specs.Lists.{All, either, only}
use Rattle.base.proofs.Below.{below, at-below}
use Rattle.points.specs.Row.{Access, read_write, read_only, read_only_first, locked_at}
use Rattle.points.specs.Types.{points, point, height, row, gateway, segments, logicals}
use Rattle.points.specs.Place.{first, len_at, store_size}
use Rattle.store.specs.Store.{value, Write, Names, storing, stored}
use Rattle.store.proofs.Laws.{Sound, storing-there, storing_elsewhere, stored-length, stored_elsewhere}
use Rattle.values.specs.Pairs.{Pair, none, sizes, periodic, daily, pair_of, paired, together}
use Rattle.values.specs.Weighed.{changed, mated}
use Rattle.values.proofs.Paired.{pair_depends}
use Rattle.rules.specs.Entries as rules
use Rattle.rules.specs.Entries.{request, system, may_write}
use Rattle.lists.proofs.Found.{earlier_row}

-- a request writes only what is open to it, the system one value
abbrev pub Free : rules.Caller → Write → Type 0
Free who w = may_write who (row w.type w.parameter).access w.logical ≡ true

abbrev pub Earlier : rules.Caller → List Write → Type 0
Earlier (request L) ws = All (Free (request L)) ws
Earlier system ws = ws ≡ []

-- ---- what is known of the table: of two mates one is read-only

abbrev shut : Access → Bool
shut read_write = false
shut read_only = true
shut read_only_first = false

abbrev pub pair_code : Pair → ℕ
pair_code none = 0
pair_code sizes = 1
pair_code periodic = 2
pair_code daily = 3

abbrev one_shut : ℕ → ℕ → Bool
one_shut k q =
    either (shut (row segments k).access) (either (eqb k q) (either (eqb (pair_code (pair_of k)) 0)
    (either (not (eqb (pair_code (pair_of q)) (pair_code (pair_of k)))) (shut (row segments q).access))))

always : (k q : ℕ) → k < 14 → q < 14 → one_shut k q ≡ true
unfolding row point points pair_of
always k q hk hq = at-below 14 (λ n. one_shut k n) (at-below 14 (λ m. below 14 (λ n. one_shut m n)) refl k hk) q hq

-- past its parameters type 124 has no pair
no_pair : (q : ℕ) → 14 ≤ q → pair_of q ≡ none
unfolding pair_of
no_pair q h =
    get_or-eq_default (none ∷ sizes ∷ none ∷ periodic ∷ daily ∷ periodic ∷ daily ∷ none ∷ none ∷ none ∷ none ∷ none ∷ sizes ∷ none ∷ []) none h

mate_shut : (k q : ℕ) → k < 14 → shut (row segments k).access ≡ false → (k ≡ q → ⊥) → (pair_code (pair_of k) ≡ 0 → ⊥) → pair_of q ≡ pair_of k
    → shut (row segments q).access ≡ true
mate_shut k q hk a b c e = go (ltb q 14) refl
  where
    go : (x : Bool) → ltb q 14 ≡ x → shut (row segments q).access ≡ true
    go true y =
        let t = always k q hk (ltb-true q 14 y) in
        let z : eqb (pair_code (pair_of q)) (pair_code (pair_of k)) ≡ true = eq-eqb _ _ (ap pair_code e) in
        simp (a, ne_eqb k q b, ne_eqb _ 0 c, z) at t
    go false y = absurd (c (ap pair_code (sym e ∙ no_pair q (ltb-false q 14 y))))

is_locked : (x : Access) (l : ℕ) → shut x ≡ true → locked_at x l ≡ true
is_locked read_write l e = e
is_locked read_only l e = refl
is_locked read_only_first l e = let z : ◌≡◌ {A = ℕ} 0 1 = cc in absurd (omega arith)

not-shut : (x : Access) (l : ℕ) → not (locked_at x l) ≡ true → shut x ≡ false
not-shut read_write l e = refl
not-shut read_only l e = let z : ◌≡◌ {A = ℕ} 0 1 = cc in absurd (omega arith)
not-shut read_only_first l e = refl

never : (x : Bool) → x ≡ true → not x ≡ true → ⊥
never true e f = let z : ◌≡◌ {A = ℕ} 0 1 = cc in omega arith
never false e f = let z : ◌≡◌ {A = ℕ} 0 1 = cc in omega arith

pub no_pair_same : (l : ℕ) (g g' : ℕ → List ℕ) → paired none l g ≡ paired none l g'
unfolding paired
no_pair_same l g g' = refl

-- ---- so no earlier value is the mate's

unnamed : (L l q : ℕ) (ws : List Write) → shut (row segments q).access ≡ true → All (Free (request L)) ws → All (λ w. Names w segments l q → ⊥) ws
unnamed L l q [] h f = tt
unnamed L l q (w ∷ ws) h f = (
  (λ n. never (locked_at (row segments q).access l) (is_locked (row segments q).access l h)
      (rw (← n.0, ← n.1, ← n.2) f.0)),
  unnamed L l q ws h f.1,
)

module _ (s : List ℕ) (whole : length s ≡ store_size gateway) (ws : List Write) (sound : All (Sound gateway) ws) (l : ℕ) (hl : l < logicals gateway segments) where
  mate_kept : (who : rules.Caller) (k q : ℕ) → k < 14 → may_write who (row segments k).access l ≡ true → Earlier who ws
      → (k ≡ q → ⊥) → (pair_code (pair_of k) ≡ 0 → ⊥) → pair_of q ≡ pair_of k → value gateway (stored gateway s ws) segments l q ≡ value gateway s segments l q
  unfolding stored
  mate_kept (request L) k q hk f e ne c p =
      stored_elsewhere gateway s whole ws segments l q hl sound (unnamed L l q ws (mate_shut k q hk (not-shut (row segments k).access l f) ne c p) e)
  mate_kept system k q hk f e ne c p = rw e refl

  -- within type 124
  mates-here : (who : rules.Caller) (k : ℕ) (v : List ℕ) → k < 14 → length v ≡ len_at segments k → Sound gateway (record { type = segments; logical = l; parameter = k; bytes = v })
      → may_write who (row segments k).access l ≡ true → Earlier who ws
      → paired (pair_of k) l (value gateway (stored gateway s (record { type = segments; logical = l; parameter = k; bytes = v } ∷ ws)) segments l)
      ≡ paired (pair_of k) l (changed k v (value gateway s segments l))
  unfolding stored
  mates-here who k v hk lv o f e = go (pair_of k) refl
    where
      w : Write
      w = record { type = segments; logical = l; parameter = k; bytes = v }

      long : length (stored gateway s ws) ≡ store_size gateway
      long = stored-length gateway s whole ws sound

      each : (pair_code (pair_of k) ≡ 0 → ⊥) → (q : ℕ) → pair_of q ≡ pair_of k → Dec (k ≡ q)
          → value gateway (storing gateway (stored gateway s ws) w) segments l q ≡ changed k v (value gateway s segments l) q
      each c q p (yes d) = storing-there gateway (stored gateway s ws) w long o segments l q (refl, refl, d) ∙ sym (ap (λ (b : Bool). cond b v (value gateway s segments l q)) (eq-eqb q k (sym d)))
      each c q p (no d) =
          storing_elsewhere gateway (stored gateway s ws) w long o segments l q hl (λ n. d n.2) ∙ mate_kept who k q hk f e d c p
          ∙ sym (ap (λ (b : Bool). cond b v (value gateway s segments l q)) (ne_eqb q k (λ z. d (sym z))))

      go : (p : Pair) → pair_of k ≡ p → paired p l (value gateway (storing gateway (stored gateway s ws) w) segments l) ≡ paired p l (changed k v (value gateway s segments l))
      go none ep = no_pair_same l _ _
      go sizes ep = pair_depends sizes l _ _ (λ q eq. each (λ z. let y = ap pair_code ep in omega arith) q (eq ∙ sym ep) (ℕ_discrete k q))
      go periodic ep = pair_depends periodic l _ _ (λ q eq. each (λ z. let y = ap pair_code ep in omega arith) q (eq ∙ sym ep) (ℕ_discrete k q))
      go daily ep = pair_depends daily l _ _ (λ q eq. each (λ z. let y = ap pair_code ep in omega arith) q (eq ∙ sym ep) (ℕ_discrete k q))

-- ---- a value of any type

segment_height : height (point segments) ≡ 14
unfolding point points
segment_height = refl

module _ (who : rules.Caller) (s : List ℕ) (whole : length s ≡ store_size gateway) (ws : List Write) (sound : All (Sound gateway) ws) (e : Earlier who ws) where
  pub as_arrived : (i l k : ℕ) (v : List ℕ) → i < 6 → Sound gateway (record { type = i; logical = l; parameter = k; bytes = v })
      → may_write who (row i k).access l ≡ true
      → together gateway (stored gateway s (record { type = i; logical = l; parameter = k; bytes = v } ∷ ws)) i l k ≡ mated gateway s (first i + k) l v
  unfolding together mated
  as_arrived i l k v h o f = go (ℕ_discrete i segments)
    where
      go : Dec (i ≡ segments)
          → only (eqb i segments) (paired (pair_of k) l (value gateway (stored gateway s (record { type = i; logical = l; parameter = k; bytes = v } ∷ ws)) segments l))
          ≡ only (leb (first segments) (first i + k))
          (paired (pair_of (first i + k - first segments)) l (changed (first i + k - first segments) v (value gateway s segments l)))
      go (yes d) =
          let z : first segments + k - first segments ≡ k = omega arith in
          let u : first segments ≤ first segments + k = omega arith in
          let y : leb (first segments) (first segments + k) ≡ true = le-leb _ _ u in
          let o' : Sound gateway (record { type = segments; logical = l; parameter = k; bytes = v }) = rw d at o in
          let f' : may_write who (row segments k).access l ≡ true = rw d at f in
          let hk : k < 14 = rw segment_height at o'.parameter in
          rw (d, z, y) (mates-here s whole ws sound l o'.logical who k v hk o'.long o' f' e)
      go (no d) =
          let y : leb (first segments) (first i + k) ≡ false = lt-leb _ _ (earlier_row i k (omega arith) o.parameter) in
          rw (ne_eqb i segments d, y) refl

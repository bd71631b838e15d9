-- Two whole stores that agree in what everybody may read give every request and every system write the same plan: a check looks at the
-- store only for the locations of type 99 and for the pairs of type 124.
-- Assumes nothing.
use Prim.Native.Nat.{ℕ, zero, suc}
use native.Mathlib.Omega.{arith}
use mathlib.Core.Path.{◌≡◌, refl}
use mathlib.Core.List.{List, [], ◌∷◌}
use borrow.Author.Tests.{leb-true}
use lib.ListN.{length, get_or, drop}
use Rattle.base.specs.Lists.{All}
use Rattle.base.proofs.Checks.{step_same, test-same, hold_same, both-same, same-test}
use Rattle.points.specs.Types.{Build, tables}
use Rattle.points.specs.Place.{store_size}
use Rattle.store.specs.Store.{Write, stored}
use Rattle.store.proofs.Laws.{Sound}
use Rattle.rules.specs.Asked.{Asked, Held}
use Rattle.rules.specs.Received.{received}
use Rattle.rules.specs.Entries.{Caller, request, system, Named, Source, block, named, located, spoken, after}
use Rattle.rules.specs.Lists.{write_level, entry, accepts, writing}
use Rattle.rules.specs.Opcodes.{plan7, plan167, plan166, plan180, plan181, plan10, plan11, Opcode, read7, set8, read10, write11, write166, read167, read180, write181, unserved, plan}
use Rattle.rules.specs.System.{setting}
use Rattle.rules.specs.Agree.{Agree}
use Rattle.rules.proofs.Agree.{tables_open, together-same, values_same, stored_same}
use Rattle.rules.proofs.Found.{Stands, finds, spans-finds, Ready, next-holds, ready-after, locates-known}
use Rattle.rules.proofs.Walks.{accepts-holds, entry-sound}

module _ (b : Build) (s t : List ℕ) (ls : length s ≡ store_size b) (lt : length t ≡ store_size b) (same : Agree b 0 s t) where
  accepts-same : (who : Caller) (ws : List Write) (p : Named) (d : List ℕ) (locked at : ℕ) → All (Sound b) ws → Stands b p
      → accepts b who s ws p d locked at ≡ accepts b who t ws p d locked at
  unfolding accepts
  accepts-same who ws p d locked at o w =
      step_same _ λ _. same-test _ _ λ long. step_same _ λ _.
      let ws' : List Write = entry p d ∷ ws in
      let o' : All (Sound b) ws' = (entry-sound b p d w (leb-true _ _ long), o) in
      test-same _ _ (together-same b (stored b s ws') (stored b t ws') (stored_same b 0 s t ls lt same ws' o') p.type p.logical p.parameter w.logical) refl

  writing-same : (who : Caller) (src : Source) (n : ℕ) (d : List ℕ) (at : ℕ) (ws : List Write) → Ready b write_level who src n → All (Sound b) ws
      → writing b who s src n d at ws ≡ writing b who t src n d at ws
  unfolding writing
  writing-same who src zero d at ws r o = refl
  writing-same who src (suc n) d at ws r o =
      hold_same (next-holds b write_level who src n d at r) λ p f.
      both-same (accepts-same who ws p (drop (spoken src) d) _ _ o f.stands) (accepts-holds b who s ws p _ _ _) λ _ a.
      writing-same who (after src) n _ _ _ (ready-after b write_level who src n r) (entry-sound b p _ f.stands a.long, o)

  module _ (c : List ℕ) (L : ℕ) (d : List ℕ) where
    abbrev one : Held
    one = record { store = s; clock = c }

    abbrev other : Held
    other = record { store = t; clock = c }

    pub plan-same : (o : Opcode) → plan b o L one d ≡ plan b o L other d
    unfolding plan plan7 plan166 plan167 plan180 plan181 plan10 plan11
    plan-same read7 = refl
    plan-same set8 = refl
    plan-same read10 =
        hold_same (locates-known b d) λ _ known.
        rw (values_same b 0 s t same tables (get_or d 0 0) (get_or d 1 0) (get_or d 2 0) known tables_open)
    plan-same write11 =
        hold_same (locates-known b d) λ _ known.
        rw (values_same b 0 s t same tables (get_or d 0 0) (get_or d 1 0) (get_or d 2 0) known tables_open, writing-same (request L) (located _) (get_or d 2 0) (drop 3 d) 3 [] tt tt)
    plan-same write166 =
        hold_same (spans-finds b d) λ _ e. same-test _ _ λ lv.
        rw (writing-same (request L) (block _ _ (get_or d 3 0)) (get_or d 2 0) (drop 4 d) 4 [] (e.logical, omega (arith, e.parameter), lv) tt)
    plan-same read167 = refl
    plan-same read180 = refl
    plan-same write181 = step_same _ λ _. rw (writing-same (request L) named (get_or d 0 0) (drop 1 d) 1 [] tt tt)
    plan-same unserved = refl

  pub setting_same : (y l k : ℕ) (v : List ℕ) → setting b s y l k v ≡ setting b t y l k v
  unfolding setting
  setting_same y l k v =
      test-same _ _ (rw (ls, lt)) (hold_same (finds b y l k 0 0 0) λ _ e. step_same _ λ _.
      writing-same system (block _ _ k) 1 v 0 [] (e.logical, omega (arith, e.parameter), refl) tt)

  pub received-same : (a : Asked) (c : List ℕ) (n : ℕ) → received b a (record { store = s; clock = c }) n ≡ received b a (record { store = t; clock = c }) n
  unfolding received
  received-same a c n = step_same _ λ _. test-same _ _ (rw (ls, lt)) refl

-- What is acted on: the values that a request brings are stored, all and in their order; the reply and the clock are as listed.
-- Assumes nothing.
use Prim.Native.Nat.{ℕ, zero, suc}
use native.Mathlib.Omega.{arith}
use mathlib.Core.Path.{◌≡◌, refl, sym, ap, ◌∙◌}
use mathlib.Core.List.{List, [], ◌++◌, append_assoc, append-nil}
use lib.ListN.{length, get_or, drop}
use Rattle.base.specs.Check.{pass}
use Rattle.base.proofs.Checks.{Holds, faulty, passing, step, step_with, holds-map}
use Rattle.points.specs.Types.{Build}
use Rattle.store.specs.Store.{Write, stored}
use Rattle.store.proofs.Laws.{values_one}
use Rattle.frame.specs.Frame.{data_of}
use Rattle.rules.specs.Asked.{Asked, Held}
use Rattle.rules.specs.Deeds.{Piece, Deeds, shown, told}
use Rattle.rules.specs.Entries.{Caller, request, Source, block, named, located, after}
use Rattle.rules.specs.Lists.{read_level, write_level, reading, writing}
use Rattle.rules.specs.Opcodes.{plan7, plan8, plan167, plan166, plan180, plan181, plan10, plan11, Opcode, read7, set8, read10, write11, write166, read167, read180, write181, unserved, plan}
use Rattle.rules.specs.Answer.{Answer, planned}
use Rattle.rules.proofs.Answered.{Answered, unheard, refused, acted, answered}
use Rattle.demands.specs.Brought.{values_in, brought, values_of, replied, clock_left, operation, ActedOn}
use Rattle.demands.specs.Stores.{RequestLeavesWhatItBrings}
use Rattle.demands.proofs.Tabled.{next-names}
use Rattle.demands.proofs.Listed.{silent-number, faulted-number}
use Rattle.demands.proofs.Replies.{sending}

-- ---- the two walks

pub writing_brings : (b : Build) (who : Caller) (s : List ℕ) (src : Source) (n : ℕ) (d : List ℕ) (at : ℕ) (ws : List Write)
    → Holds (λ vs. vs ≡ values_in src n d ws) (writing b who s src n d at ws)
unfolding writing values_in
writing_brings b who s src zero d at ws = step _ λ _. passing refl
writing_brings b who s src (suc n) d at ws =
    step_with (next-names b write_level who src d at) λ p e. step _ λ _.
    rw e (writing_brings b who s (after src) n _ _ _)

reading-tells-all : (b : Build) (who : Caller) (s : List ℕ) (src : Source) (n : ℕ) (d : List ℕ) (at : ℕ) (ps : List Piece)
    → Holds (λ qs. told b s qs ≡ told b s ps ++ values_of b s src n d) (reading b who src n d at ps)
unfolding reading values_of told shown
reading-tells-all b who s src zero d at ps = step _ λ _. step _ λ _. passing (sym (append-nil (told b s ps)))
reading-tells-all b who s src (suc n) d at ps =
    step_with (next-names b read_level who src d at) λ p e.
    rw e (holds-map (reading-tells-all b who s (after src) n _ _ _) λ qs x. x ∙ simp (append_assoc, values_one))

-- ---- each opcode

-- a plan's values, reply and clock are those of the request
pub record Keeps (b : Build) (o : Opcode) (h : Held) (d : List ℕ) (x : Deeds) : Type 0 where
  pub puts : x.puts ≡ brought b o h d
  pub tells : told b h.store x.says ≡ replied b o h d
  pub clock : x.clock ≡ clock_left o h d

module _ (b : Build) (L : ℕ) (h : Held) (d : List ℕ) where
  pub keeps : (o : Opcode) → Holds (Keeps b o h d) (plan b o L h d)
  unfolding plan brought replied clock_left plan7 plan8 plan167 plan166 plan180 plan181 plan10 plan11 told shown
  keeps read7 = step _ λ _. passing (record { puts = refl; tells = refl; clock = refl })
  keeps set8 =
      step _ λ _. step _ λ _. step _ λ _. step _ λ _. step _ λ _. step _ λ _. step _ λ _. step _ λ _. step _ λ _.
      passing (record { puts = refl; tells = refl; clock = refl })
  keeps read10 =
      step _ λ _. step_with (reading-tells-all b (request L) h.store (located _) (get_or d 2 0) (drop 3 d) 3 _) λ ps e.
      passing (record { puts = refl; tells = e ∙ simp (append_assoc, values_one); clock = refl })
  keeps write11 =
      step _ λ _. step_with (writing_brings b (request L) h.store (located _) (get_or d 2 0) (drop 3 d) 3 []) λ ws e.
      passing (record { puts = e; tells = refl; clock = refl })
  keeps write166 =
      step _ λ _. step _ λ _. step_with (writing_brings b (request L) h.store (block _ _ (get_or d 3 0)) (get_or d 2 0) (drop 4 d) 4 []) λ ws e.
      passing (record { puts = e; tells = refl; clock = refl })
  keeps read167 = step _ λ _. step _ λ _. step _ λ _. step _ λ _. passing (record { puts = refl; tells = refl; clock = refl })
  keeps read180 =
      step _ λ _. step_with (reading-tells-all b (request L) h.store named (get_or d 0 0) (drop 1 d) 1 _) λ ps e.
      passing (record { puts = refl; tells = e; clock = refl })
  keeps write181 =
      step _ λ _. step_with (writing_brings b (request L) h.store named (get_or d 0 0) (drop 1 d) 1 []) λ ws e.
      passing (record { puts = e; tells = refl; clock = refl })
  keeps unserved = faulty

-- what a plan that passed keeps
kept_by : (b : Build) (a : Asked) (h : Held) {d : Deeds} → planned b a h ≡ pass d → Keeps b (operation a) h (data_of a.frame) d
kept_by b a h e = elim (rw e at (keeps b a.level h (data_of a.frame) (operation a))) [ passing q ↦ q ]

pub brings : (b : Build) (a : Asked) (h : Held) {d : Deeds} → planned b a h ≡ pass d → d.puts ≡ brought b (operation a) h (data_of a.frame)
brings b a h e = (kept_by b a h e).puts

pub acts : RequestLeavesWhatItBrings
acts b a h r = go (answered b a h r)
  where
    go : {x : Answer} → Answered b a h r x → x.outcome ≡ 0 → ActedOn b a h r x
    go (unheard e) z = let s = silent-number b a h (length r) _ _ e in absurd (omega arith)
    go (refused k e) z = let t = faulted-number b a h _ _ e in absurd (omega arith)
    go (acted {d} k e l) z =
        let q = kept_by b a h e in
        record { store = ap (stored b h.store) q.puts; clock = q.clock; reply = sending a r _ _ (rw q.tells) (rw q.tells) }

-- What each opcode leaves, where it touches only some of the buffers.
-- Assumes nothing.
use Prim.Native.Nat.{ℕ, ◌≤◌}
use native.Mathlib.Omega.{arith}
use mathlib.Core.Path.{◌≡◌, refl, sym, ap, ap₂, ◌∙◌, subst}
use mathlib.Core.Bool.{Bool, true, false, cond, not}
use mathlib.Core.List.{List, []}
use lib.ListN.{length}
use Rattle.base.specs.Check.{Check, fault, pass}
use Rattle.base.specs.Lists.{put}
use Rattle.base.proofs.Checks.{Holds, faulty, passing, step}
use Rattle.base.proofs.Parts.{put-none}
use Rattle.points.specs.Types.{gateway}
use Rattle.store.specs.Store.{stored}
use Rattle.frame.specs.Frame.{opcode, data_of, is_broadcast}
use Rattle.rules.specs.Deeds.{Deeds, told, sizes}
use Rattle.rules.specs.Opcodes.{plan7, plan8, plan10, plan11, plan166, plan167, plan180, plan181, Opcode, unserved, opcode_of, plan}
use Rattle.rules.proofs.Lawful.{Lawful, lawful}
use Rattle.request.specs.Acted.{without_data, Acted}
use Rattle.opcodes.specs.Done.{held, said, done, space_by, store_by, clock_by}
use Rattle.request.specs.Sent.{plan_for}

-- a plan that stores nothing and leaves the clock, one that tells nothing and leaves it, and one that only sets it
abbrev Reads : List ℕ → Deeds → Type 0
Reads c d = (d.puts ≡ []) × (d.clock ≡ c)

abbrev Writes : List ℕ → Deeds → Type 0
Writes c d = (d.says ≡ []) × (d.clock ≡ c)

abbrev Sets : Deeds → Type 0
Sets d = (d.says ≡ []) × (d.puts ≡ [])

pub reads7 : (s c d : List ℕ) → Holds (Reads c) (plan7 (held s c) d)
unfolding plan7
reads7 s c d = step _ λ _. passing (refl, refl)

pub sets8 : (level : ℕ) (d : List ℕ) → Holds Sets (plan8 level d)
unfolding plan8
sets8 level d = step _ λ _. step _ λ _. step _ λ _. step _ λ _. step _ λ _. step _ λ _. step _ λ _. step _ λ _. step _ λ _. passing (refl, refl)

module _ (level : ℕ) (s c d : List ℕ) where
  pub reads10 : Holds (Reads c) (plan10 gateway level (held s c) d)
  unfolding plan10
  reads10 = step _ λ _. step _ λ _. passing (refl, refl)

  pub writes11 : Holds (Writes c) (plan11 gateway level (held s c) d)
  unfolding plan11
  writes11 = step _ λ _. step _ λ _. passing (refl, refl)

  pub writes166 : Holds (Writes c) (plan166 gateway level (held s c) d)
  unfolding plan166
  writes166 = step _ λ _. step _ λ _. step _ λ _. passing (refl, refl)

  pub reads167 : Holds (Reads c) (plan167 gateway level (held s c) d)
  unfolding plan167
  reads167 = step _ λ _. step _ λ _. step _ λ _. step _ λ _. passing (refl, refl)

  pub reads180 : Holds (Reads c) (plan180 gateway level (held s c) d)
  unfolding plan180
  reads180 = step _ λ _. step _ λ _. passing (refl, refl)

  pub writes181 : Holds (Writes c) (plan181 gateway level (held s c) d)
  unfolding plan181
  writes181 = step _ λ _. step _ λ _. passing (refl, refl)

-- a plan p that is carried out: primed is what is left
module _ (level : ℕ) (s c r : List ℕ) (all : Bool) (seven : length c ≡ 7) where
  -- what is told is short
  few : (p : Check Deeds) → Holds (Lawful gateway level (held s c)) p → (x : Check ℕ) → x ≡ said p → (n : ℕ) → x ≡ pass n → n ≤ 255
  few (fault m q) l x e n y = let z : ◌≡◌ {A = ℕ} 0 1 = cc in absurd (omega arith)
  few (pass d) (passing l) x e n y = let ns : n ≡ sizes d.says = cc in omega (arith, l.short seven)

  -- all says whether it is a broadcast
  abbrev aloud : Bool
  aloud = not all

  cond_same : (b : Bool) → r ≡ cond b r r
  cond_same true = refl
  cond_same false = refl

  silent : (d : Deeds) → d.says ≡ [] → r ≡ cond aloud (put r 6 (told gateway s d.says)) r
  unfolding told
  silent d e = rw (e, put-none) (cond_same aloud)

  read-acted : (p : Check Deeds) → Holds (Lawful gateway level (held s c)) p → Holds (Reads c) p → (x : Check ℕ) (r' : List ℕ)
      → x ≡ said p → r' ≡ space_by aloud s r p → Acted p aloud s s c c r r' x
  unfolding stored
  read-acted p l faulty x r' e w = record { answer = e; few = few p l x e; store = refl; clock = refl; space = w }
  read-acted p l (passing q) x r' e w = record { answer = e; few = few p l x e; store = sym (ap (stored gateway s) q.0); clock = sym q.1; space = w }

  written-acted : (p : Check Deeds) → Holds (Lawful gateway level (held s c)) p → Holds (Writes c) p → (x : Check Unit) (s' : List ℕ)
      → x ≡ done p → s' ≡ store_by s p → Acted p aloud s s' c c r r (without_data x)
  unfolding without_data
  written-acted p l faulty x s' e w =
      let a : without_data x ≡ said p = rw e in
      record { answer = a; few = few p l (without_data x) a; store = w; clock = refl; space = refl }
  written-acted p l (passing {a = d} q) x s' e w =
      let a : without_data x ≡ said p = rw (e, q.0) in
      record { answer = a; few = few p l (without_data x) a; store = w; clock = sym q.1; space = silent d q.0 }

  set-acted : (p : Check Deeds) → Holds (Lawful gateway level (held s c)) p → Holds Sets p → (x : Check Unit) (c' : List ℕ)
      → x ≡ done p → c' ≡ clock_by c p → Acted p aloud s s c c' r r (without_data x)
  unfolding stored without_data
  set-acted p l faulty x c' e w =
      let a : without_data x ≡ said p = rw e in
      record { answer = a; few = few p l (without_data x) a; store = refl; clock = w; space = refl }
  set-acted p l (passing {a = d} q) x c' e w =
      let a : without_data x ≡ said p = rw (e, q.0) in
      record { answer = a; few = few p l (without_data x) a; store = sym (ap (stored gateway s) q.1); clock = w; space = silent d q.0 }

  -- the same of the plan for the frame f, whose opcode has the number n and is o, and whose data is d
  module _ (f d : List ℕ) (n : ℕ) (o : Opcode) (its_number : n ≡ opcode f) (served : opcode_of n ≡ o) (given : d ≡ data_of f) (to_all : all ≡ is_broadcast f) where
    abbrev its_plan : Check Deeds
    its_plan = plan gateway o level (held s c) d

    held_by : Holds (Lawful gateway level (held s c)) its_plan
    held_by = lawful gateway level (held s c) d o

    abbrev Leaves : List ℕ → List ℕ → List ℕ → Check ℕ → Type 0
    Leaves s' c' r' x = Acted (plan_for f level s c) (not (is_broadcast f)) s s' c c' r r' x

    its : (s' c' r' : List ℕ) (x : Check ℕ) → Acted its_plan aloud s s' c c' r r' x → Leaves s' c' r' x
    its s' c' r' x q =
        let same : its_plan ≡ plan_for f level s c = ap₂ (λ (k : Opcode) (e : List ℕ). plan gateway k level (held s c) e) (sym (sym (ap opcode_of its_number) ∙ served)) given in
        subst (λ (b : Bool). Acted (plan_for f level s c) (not b) s s' c c' r r' x) to_all (subst (λ (p : Check Deeds). Acted p aloud s s' c c' r r' x) same q)

    pub has_read : Holds (Reads c) its_plan → (x : Check ℕ) (r' : List ℕ) → x ≡ said its_plan → r' ≡ space_by aloud s r its_plan → Leaves s c r' x
    has_read q x r' e w = its s c r' x (read-acted its_plan held_by q x r' e w)

    -- y is the same answer as it is handed on
    pub has_written : Holds (Writes c) its_plan → (x : Check Unit) (y : Check ℕ) (s' : List ℕ) → y ≡ without_data x → x ≡ done its_plan → s' ≡ store_by s its_plan → Leaves s' c r y
    has_written q x y s' h e w = rw h (its s' c r (without_data x) (written-acted its_plan held_by q x s' e w))

    pub has_set : Holds Sets its_plan → (x : Check Unit) (y : Check ℕ) (c' : List ℕ) → y ≡ without_data x → x ≡ done its_plan → c' ≡ clock_by c its_plan → Leaves s c' r y
    has_set q x y c' h e w = rw h (its s c' r (without_data x) (set-acted its_plan held_by q x c' e w))

    pub has_none : o ≡ unserved → (y : Check ℕ) → y ≡ fault 20 0 → Leaves s c r y
    unfolding plan
    has_none e y h =
        let none : its_plan ≡ fault 20 0 = rw e in
        rw h (its s c r (fault 20 0) (rw none (record { answer = refl; few = few (fault 20 0) faulty (fault 20 0) refl; store = refl; clock = refl; space = refl })))

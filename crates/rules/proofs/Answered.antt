-- Every answer is one of three: not received, refused, acted on; with all that it leaves. The same of a system write, a fill and a tick.
-- Assumes nothing.
use Prim.Native.Nat.{ℕ, ◌+◌, ◌≤◌}
use mathlib.Core.Path.{◌≡◌, refl, subst}
use mathlib.Core.Bool.{Bool, true, false, cond}
use mathlib.Core.List.{List, [], ◌∷◌}
use borrow.Author.Tests.{leb-true, eqb-true}
use lib.ListN.{length}
use lib.Dec.{eqb}
use Rattle.base.specs.Check.{Check, fault, pass}
use Rattle.base.specs.Lists.{over}
use Rattle.base.proofs.Checks.{Holds, passing, step, step_with, anyway, step-test}
use Rattle.clock.specs.Moments.{valid_clock, later, tick, clock_of, clock_bytes}
use Rattle.points.specs.Types.{Build}
use Rattle.points.specs.Place.{store_size}
use Rattle.store.specs.Store.{Write, stored}
use Rattle.store.specs.Fresh.{fresh}
use Rattle.frame.specs.Frame.{longest, opcode, data_length, data_of}
use Rattle.frame.specs.Framing.{whole}
use Rattle.rules.specs.Asked.{Asked, Held}
use Rattle.rules.specs.Received.{received}
use Rattle.rules.specs.Deeds.{Deeds, told}
use Rattle.rules.specs.Entries.{system}
use Rattle.rules.specs.Opcodes.{opcode_of}
use Rattle.rules.specs.Answer.{Answer, error_opcode, sent, carried, planned, admitted, answer}
use Rattle.rules.specs.System.{setting, Left, leaving, system_write, fill, Passed, ticking}
use Rattle.rules.proofs.Walks.{Puts}
use Rattle.rules.proofs.Lawful.{Lawful, lawful, setting-puts}

-- what is known of a request once it is received
pub record Received (b : Build) (a : Asked) (h : Held) (r : ℕ) : Type 0 where
  pub passed : received b a h r ≡ pass tt
  pub room : longest ≤ r
  pub whole : length h.store ≡ store_size b
  pub level : a.level ≤ 3
  pub clock : valid_clock (clock_of h.clock) ≡ true
  pub eight : 8 ≤ length a.frame
  pub long : length a.frame ≤ longest
  pub exact : length a.frame ≡ data_length a.frame + 8

-- a frame of 8 + n bytes
whole-holds : (f : List ℕ) → Holds (λ _. (8 ≤ length f) × (length f ≤ longest) × (length f ≡ data_length f + 8)) (whole f)
unfolding whole
whole-holds f = step-test _ _ λ eight. step-test _ _ λ long. step-test _ _ λ exact. step _ λ _. passing (leb-true _ _ eight, leb-true _ _ long, eqb-true _ _ exact)

received-holds : (b : Build) (a : Asked) (h : Held) (r : ℕ) → Holds (λ _. received b a h r ≡ pass tt → Received b a h r) (received b a h r)
unfolding received
received-holds b a h r =
    step-test _ _ λ room. step-test _ _ λ whole. step _ λ _. step-test _ _ λ level. step-test _ _ λ clock. step_with (whole-holds a.frame) λ _ f. step _ λ _.
    passing (λ e. record { passed = e; room = leb-true _ _ room; whole = eqb-true _ _ whole; level = leb-true _ _ level; clock = clock; eight = f.0; long = f.1; exact = f.2 })

pub received_is : (b : Build) (a : Asked) (h : Held) (r : ℕ) → received b a h r ≡ pass tt → Received b a h r
received_is b a h r e = go (subst (Holds (λ _. received b a h r ≡ pass tt → Received b a h r)) e (received-holds b a h r))
  where
    go : Holds (λ (x : Unit {0}). received b a h r ≡ pass tt → Received b a h r) (pass tt) → Received b a h r
    go (passing k) = k e

pub data Answered (b : Build) (a : Asked) (h : Held) (r : List ℕ) : Answer → Type 0 where
  -- not a byte is written
  unheard : {n p : ℕ} → received b a h (length r) ≡ fault n p
      → Answered b a h r (record { outcome = n; count = 0; store = h.store; clock = h.clock; reply = r })
  -- an error frame
  refused : {n p : ℕ} → Received b a h (length r) → planned b a h ≡ fault n p
      → Answered b a h r (record { outcome = n; count = length (sent a error_opcode (n ∷ p ∷ [])); store = h.store; clock = h.clock; reply = over r (sent a error_opcode (n ∷ p ∷ [])) })
  -- a reply, values stored, a clock set
  acted : {d : Deeds} → Received b a h (length r) → planned b a h ≡ pass d → Lawful b a.level h d
      → Answered b a h r (record { outcome = 0; count = length (sent a (opcode a.frame) (told b h.store d.says)); store = stored b h.store d.puts; clock = d.clock; reply = over r (sent a (opcode a.frame) (told b h.store d.says)) })

module _ (b : Build) (a : Asked) (h : Held) (r : List ℕ) where
  carried-is : Received b a h (length r) → (p : Check Deeds) → planned b a h ≡ p → Holds (Lawful b a.level h) p → Answered b a h r (carried b a h r p)
  unfolding carried
  carried-is k (fault n p) e l = refused k e
  carried-is k (pass d) e (passing l) = acted k e l

  admitted-is : (c : Check Unit) → received b a h (length r) ≡ c → Holds (λ _. received b a h (length r) ≡ pass tt → Received b a h (length r)) c
      → Answered b a h r (admitted b a h r c)
  unfolding admitted over
  admitted-is (fault n p) e k = unheard e
  admitted-is (pass x) e (passing k) = carried-is (k e) (planned b a h) refl (lawful b a.level h (data_of a.frame) (opcode_of (opcode a.frame)))

  pub answered : Answered b a h r (answer b a h r)
  unfolding answer
  answered = admitted-is (received b a h (length r)) refl (received-holds b a h (length r))

-- ---- a system write

pub data Written (b : Build) (s : List ℕ) (t l k : ℕ) (v : List ℕ) : Left → Type 0 where
  unset : {n p : ℕ} → setting b s t l k v ≡ fault n p → Written b s t l k v (record { outcome = n; store = s })
  was_set : {ws : List Write} → length s ≡ store_size b → setting b s t l k v ≡ pass ws → Puts b system s ws
      → Written b s t l k v (record { outcome = 0; store = stored b s ws })

setting-whole : (b : Build) (s : List ℕ) (t l k : ℕ) (v : List ℕ) → Holds (λ _. length s ≡ store_size b) (setting b s t l k v)
unfolding setting
setting-whole b s t l k v = step-test _ _ λ whole. step _ λ _. step _ λ _. anyway (eqb-true _ _ whole) _

module _ (b : Build) (s : List ℕ) (t l k : ℕ) (v : List ℕ) where
  leaving-is : (c : Check (List Write)) → setting b s t l k v ≡ c → Holds (λ _. length s ≡ store_size b) c → Holds (Puts b system s) c
      → Written b s t l k v (leaving b s c)
  unfolding leaving
  leaving-is (fault n p) e w q = unset e
  leaving-is (pass ws) e (passing w) (passing q) = was_set w e q

  pub written : Written b s t l k v (system_write b s t l k v)
  unfolding system_write
  written = leaving-is (setting b s t l k v) refl (setting-whole b s t l k v) (setting-puts b s t l k v)

-- ---- a fill

pub data Filled (b : Build) (s : List ℕ) : Left → Type 0 where
  unfilled : eqb (length s) (store_size b) ≡ false → Filled b s (record { outcome = 2; store = s })
  filled_up : eqb (length s) (store_size b) ≡ true → Filled b s (record { outcome = 0; store = fresh b })

pub filled : (b : Build) (s : List ℕ) → Filled b s (fill b s)
unfolding fill
filled b s = go (eqb (length s) (store_size b)) refl
  where
    go : (x : Bool) → eqb (length s) (store_size b) ≡ x → Filled b s (cond x (record { outcome = 0; store = fresh b }) (record { outcome = 2; store = s }))
    go true e = filled_up e
    go false e = unfilled e

-- ---- a tick

pub data Moved (c : List ℕ) : Passed → Type 0 where
  stopped : valid_clock (clock_of c) ≡ false → Moved c (record { outcome = 3; clock = c })
  moved_on : valid_clock (clock_of c) ≡ true → Moved c (record { outcome = 0; clock = clock_bytes (later (clock_of c)) })

pub moved : (c : List ℕ) → Moved c (ticking c)
unfolding ticking tick
moved c = go (valid_clock (clock_of c)) refl
  where
    go : (x : Bool) → valid_clock (clock_of c) ≡ x → Moved c (ticking c)
    go true e = rw e (moved_on e)
    go false e = rw e (stopped e)

-- Refusals: they leave store and clock, and the reply space holds one error frame or is untouched.
-- Assumes nothing.
use Prim.Native.Nat.{ℕ}
use native.Mathlib.Omega.{arith}
use mathlib.Core.Path.{◌≡◌, refl}
use mathlib.Core.Bool.{true}
use mathlib.Core.List.{List}
use borrow.Author.Tests.{eq-eqb}
use lib.ListN.{length}
use Rattle.base.specs.Check.{Check, fault, pass}
use Rattle.base.specs.Lists.{over}
use Rattle.points.specs.Types.{Build}
use Rattle.points.specs.Place.{store_size}
use Rattle.store.specs.Fresh.{fresh}
use Rattle.values.specs.Number.{Raw, raw_read, telling}
use Rattle.rules.specs.Asked.{Asked, Held}
use Rattle.rules.specs.Answer.{Answer, to_all, error_opcode, error_data, sent, answer}
use Rattle.rules.specs.System.{Left, fill, Passed}
use Rattle.rules.proofs.Places.{place-fits}
use Rattle.rules.proofs.Answered.{received_is, Answered, unheard, refused, acted, answered, Written, unset, was_set, written, Filled, filled_up, unfilled, filled, Moved, moved_on, stopped, moved}
use Rattle.demands.specs.Outcomes.{Silent, Faulted, Untouched, ErrorFrame}
use Rattle.demands.specs.Refusals.{PlaceIsByte, RefusedSystemWriteChangesNothing, RefusedFillChangesNothing, RefusedTickChangesNothing, RefusedRawReadChangesNothing}
use Rattle.demands.proofs.Listed.{silent-number, faulted-number}
use Rattle.demands.proofs.Exactly.{refused-row}
use Rattle.demands.proofs.Replies.{sending}

-- the place of a fault is a byte
pub place_is_byte : PlaceIsByte
place_is_byte b a h r n p k e = place-fits b a h r n p (received_is b a h r k) e

module _ (b : Build) (a : Asked) (h : Held) (r : List ℕ) where
  -- a refusal changes neither store nor clock
  pub refused-keeps : ((answer b a h r).outcome ≡ 0 → ⊥) → ((answer b a h r).store ≡ h.store) × ((answer b a h r).clock ≡ h.clock)
  refused-keeps = go (answered b a h r)
    where
      go : {x : Answer} → Answered b a h r x → (x.outcome ≡ 0 → ⊥) → (x.store ≡ h.store) × (x.clock ≡ h.clock)
      go (unheard e) n = (refl, refl)
      go (refused k e) n = (refl, refl)
      go (acted k e l) n = absurd (n refl)

  -- outcomes 1 to 8 write no byte and have length 0
  pub silent : Silent (answer b a h r).outcome → Untouched r (answer b a h r)
  silent = go (answered b a h r)
    where
      go : {x : Answer} → Answered b a h r x → Silent x.outcome → Untouched r x
      go (unheard e) n = (refl, refl)
      go (refused k e) n = let t = faulted-number b a h _ _ e in absurd (omega arith)
      go (acted k e l) n = absurd (omega arith)

  -- a broadcast is never answered
  pub broadcast : to_all a ≡ true → Untouched r (answer b a h r)
  unfolding sent over
  broadcast = go (answered b a h r)
    where
      nothing : (op : ℕ) (d : List ℕ) → to_all a ≡ true → (length (sent a op d) ≡ 0) × (over r (sent a op d) ≡ r)
      nothing op d e = rw e (refl, refl)

      go : {x : Answer} → Answered b a h r x → to_all a ≡ true → Untouched r x
      go (unheard e) t = (refl, refl)
      go (refused k e) t = nothing _ _ t
      go (acted k e l) t = nothing _ _ t

  -- outcomes 20 to 31 reply with an error frame
  pub error_frame : Faulted (answer b a h r).outcome → ErrorFrame b a h r (answer b a h r)
  error_frame = go (answered b a h r)
    where
      go : {x : Answer} → Answered b a h r x → Faulted x.outcome → ErrorFrame b a h r x
      go (unheard e) t = let s = silent-number b a h (length r) _ _ e in absurd (omega arith)
      go (refused {n} {p} k e) t =
          record {
            place = p;
            byte = place-fits b a h (length r) n p k e;
            row = refused-row b a h r k.passed e;
            frame = sending a r error_opcode (error_data n p) refl refl;
          }
      go (acted k e l) t = absurd (omega arith)

-- ---- the calls that no frame reaches

pub system_keeps : RefusedSystemWriteChangesNothing
system_keeps b s t l k v = go (written b s t l k v)
  where
    go : {x : Left} → Written b s t l k v x → (x.outcome ≡ 0 → ⊥) → x.store ≡ s
    go (unset e) n = refl
    go (was_set w e q) n = absurd (n refl)

-- a fill refuses, or leaves the defaults
pub fill-keeps : RefusedFillChangesNothing
fill-keeps b s = go (filled b s)
  where
    go : {x : Left} → Filled b s x → (x.outcome ≡ 0 → ⊥) → x.store ≡ s
    go (filled_up e) n = absurd (n refl)
    go (unfilled e) n = refl

pub fill_fills : (b : Build) (s : List ℕ) → length s ≡ store_size b → fill b s ≡ record { outcome = 0; store = fresh b }
unfolding fill
fill_fills b s e = rw (eq-eqb _ _ e)

pub tick-keeps : RefusedTickChangesNothing
tick-keeps c = go (moved c)
  where
    go : {x : Passed} → Moved c x → (x.outcome ≡ 0 → ⊥) → x.clock ≡ c
    go (moved_on e) n = absurd (n refl)
    go (stopped e) n = refl

-- a number read changes nothing, and a refusal leaves kind and bits as they were
pub raw-keeps : RefusedRawReadChangesNothing
unfolding telling
raw-keeps b s t l k kind bits = go (raw_read b s t l k)
  where
    go : (c : Check Raw) → ((telling kind bits c).outcome ≡ 0 → ⊥) → ((telling kind bits c).kind ≡ kind) × ((telling kind bits c).bits ≡ bits)
    go (fault n p) h = (refl, refl)
    go (pass x) h = absurd (h refl)

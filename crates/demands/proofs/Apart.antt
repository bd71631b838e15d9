-- The hypotheses of secrecy can be met, and K is sharp: for K of 1 and of 0 two different stores that K does not tell apart, and a
-- request of the next level that does.
-- Assumes nothing.
use Prim.Native.Nat.{ℕ, ◌<◌}
use native.Mathlib.Omega.{arith}
use mathlib.Core.Path.{◌≡◌, refl, sym, ap}
use mathlib.Core.List.{List, [], ◌∷◌}
use lib.ListN.{get_or}
use Rattle.base.specs.Check.{◌>>=◌, test, from}
use Rattle.base.specs.Lists.{part, put, over}
use Rattle.crc.specs.Crc.{turn, turns4, crc_byte, crc_from, crc_of}
use Rattle.clock.specs.Calendar.{leap, month_days, valid_date}
use Rattle.clock.specs.Moments.{valid_clock, clock_of}
use Rattle.points.specs.Types.{point, gateway}
use Rattle.points.specs.Place.{placing}
use Rattle.points.specs.There.{there}
use Rattle.store.specs.Store.{value, values, Write, storing}
use Rattle.store.specs.Fresh.{fresh}
use Rattle.store.proofs.Laws.{Sound, storing_elsewhere, storing-length}
use Rattle.store.proofs.Fresh.{length-fresh}
use Rattle.frame.specs.Address.{same_address, stationary, for_us}
use Rattle.frame.specs.Frame.{data_of, crc_right, sealed, frame_of}
use Rattle.frame.specs.Framing.{whole, directed}
use Rattle.rules.specs.Received.{received}
use Rattle.rules.specs.Deeds.{shown, told}
use Rattle.rules.specs.Entries.{found, next}
use Rattle.rules.specs.Lists.{ends, fitting, reading}
use Rattle.rules.specs.Opcodes.{counted, plan180, opcode_of, plan}
use Rattle.rules.specs.Answer.{sent, carried, admitted, answer}
use Rattle.demands.specs.Calls.{Seen, call, run, Alike}
use Rattle.demands.specs.Secrecy.{start, fresh_but, lettered, switched, HiddenValueIsUnseen, HiddenValueIsUntold, TextHiddenAtLevel1, TextToldAtLevel2, SwitchHiddenAtLevel0, SwitchToldAtLevel1, StoresDiffer}
use Rattle.demands.proofs.Secret.{secret}

-- a value stored where level K may not read is not seen at level K
pub unseen : HiddenValueIsUnseen
unseen b K s w whole o h i l k hl hr =
    sym (storing_elsewhere b s w whole o i l k hl (λ n. let e : (point w.type).reads ≡ (point i).reads = ap (λ (j : ℕ). (point j).reads) n.0 in omega arith))

-- the first byte of the value in its reply
abbrev shown_byte : List Seen → ℕ
shown_byte [] = 0
shown_byte (x ∷ xs) = get_or x.reply 10 0

-- A name for all that the two requests compute through.
unfoldable computing : ℕ
unfolding call run placing part put over value values storing fresh there ◌>>=◌ test from turn turns4 crc_byte crc_from crc_of leap month_days valid_date valid_clock clock_of same_address stationary for_us data_of crc_right whole directed sealed frame_of received shown told found next ends fitting reading counted plan180 opcode_of plan sent carried admitted answer
computing = 0

pub alike : (K : ℕ) (w : Write) → Sound gateway w → K < (point w.type).reads → Alike gateway K (start (fresh gateway)) (start (fresh_but w))
alike K w o hidden =
    record {
      whole = length-fresh gateway;
      whole_too = storing-length gateway (fresh gateway) w (length-fresh gateway) o;
      store = unseen gateway K (fresh gateway) w (length-fresh gateway) o hidden;
      clock = refl;
    }

-- no sequence of calls at levels up to K tells them apart
pub not-told : HiddenValueIsUntold
not-told K w o hidden cs h = (secret gateway K _ _ (alike K w o hidden) cs h).seen

-- ---- level 1: twenty letters S in the first text of type 123, which level 2 reads

pub alike-at_1 : TextHiddenAtLevel1
unfolding placing
alike-at_1 = alike 1 lettered (record { logical = omega arith; parameter = omega arith; long = refl }) (omega arith)

pub told-at_2 : TextToldAtLevel2
unfolding computing
told-at_2 e = let z : ◌≡◌ {A = ℕ} 32 83 = ap shown_byte e in omega arith

-- ---- level 0: the power switch of type 122 off, which level 1 reads

pub alike-at_0 : SwitchHiddenAtLevel0
unfolding placing
alike-at_0 = alike 0 switched (record { logical = omega arith; parameter = omega arith; long = refl }) (omega arith)

pub told-at_1 : SwitchToldAtLevel1
unfolding computing
told-at_1 e = let z : ◌≡◌ {A = ℕ} 1 0 = ap shown_byte e in omega arith

-- so the stores of each pair differ
pub differ : StoresDiffer
differ w cs told e = told (ap (λ (s : List ℕ). (run gateway (start s) cs).seen) e)

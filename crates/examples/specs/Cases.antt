-- What an example is: a request on a fresh store, or a tick of the clock, with what is to be seen.
-- Assumes nothing.
use Rattle.std.specs.Prelude.{ℕ, ◌-◌, Bool, true, false, List, [], ◌∷◌, ◌++◌, replicate, eqb}
use Rattle.base.specs.Check.{◌>>=◌, test, from}
use Rattle.base.specs.Lists.{part, put, over, both}
use Rattle.base.specs.Bytes.{le}
use Rattle.crc.specs.Crc.{turn, turns4, crc_byte, crc_from, crc_of}
use Rattle.clock.specs.Calendar.{leap, month_days, valid_date, years_days, months_days, weekday_of}
use Rattle.clock.specs.Moments.{valid_clock, day_later, later, tick, weekday_at, clock_of, clock_bytes}
use Rattle.points.specs.Types.{gateway, index_of}
use Rattle.points.specs.Place.{placing}
use Rattle.points.specs.There.{there}
use Rattle.store.specs.Store.{value, values, storing, stored}
use Rattle.store.specs.Fresh.{fresh}
use Rattle.values.specs.Kinds.{printed, signed_of, finite32, finite64, valid_tlp, number_tlp, of_kind}
use Rattle.values.specs.Judged.{status_ok, rate_ok, size_ok, in_range, judged}
use Rattle.values.specs.Pairs.{pair_of, paired, together}
use Rattle.frame.specs.Address.{address, same_address, stationary, for_us}
use Rattle.frame.specs.Framing.{whole, directed}
use Rattle.frame.specs.Frame.{longest, data_of, crc_right, sealed, frame_of}
use Rattle.rules.specs.Received.{received}
use Rattle.rules.specs.Deeds.{shown, told}
use Rattle.rules.specs.Entries.{found, next}
use Rattle.rules.specs.Lists.{ends, fitting, reading, accepts, writing}
use Rattle.rules.specs.Opcodes.{plan7, plan8, spans, plan167, plan166, counted, plan180, plan181, locates, plan10, plan11, opcode_of, plan}
use Rattle.rules.specs.Answer.{Answer, sent, carried, admitted, answer}
use Rattle.rules.specs.System.{Passed, ticking}

-- what is seen: the outcome; the opcode and the data of the frame that is sent; what one parameter, or the clock with its weekday, holds
-- afterwards; and whether the store is as it was
pub record Seen : Type 0 where
  pub outcome : ℕ
  pub says : List ℕ
  pub holds : List ℕ
  pub kept : Bool

pub data Case : Type 0 where
  -- level, opcode, data; the parameter to look at
  asks : (level op : ℕ) → List ℕ → (t l k : ℕ) → Seen → Case
  -- the clock's seven bytes
  ticks : List ℕ → Seen → Case
  -- and the weekday of a date, with no tick
  dates : List ℕ → Seen → Case

abbrev pub same : List ℕ → List ℕ → Bool
same [] [] = true
same [] (y ∷ ys) = false
same (x ∷ xs) [] = false
same (x ∷ xs) (y ∷ ys) = both (eqb x y) (same xs ys)

-- the address 1,2 is asked by 3,1 at 2000-01-01 00:00:00
unfoldable pub asked : ℕ → ℕ → List ℕ → Answer
asked level op d =
    answer gateway (record { frame = frame_of (address 1 2) (address 3 1) op d; us = address 1 2; level = level })
    (record { store = fresh gateway; clock = 0 ∷ 0 ∷ 0 ∷ 1 ∷ 1 ∷ 208 ∷ 7 ∷ [] }) (replicate longest 170)

-- opcode and data of the frame that the reply space holds
abbrev pub spoken_of : Answer → List ℕ
spoken_of a = part a.reply 4 1 ++ part a.reply 6 (a.count - 8)

unfoldable pub seen : Case → Seen
seen (asks level op d t l k w) =
    let a : Answer = asked level op d in
    record {
      outcome = a.outcome;
      says = spoken_of a;
      holds = value gateway a.store (index_of t) l k;
      kept = same a.store (fresh gateway);
    }
seen (ticks c w) =
    let t : Passed = ticking c in
    record { outcome = t.outcome; says = []; holds = t.clock ++ (weekday_at (clock_of t.clock) ∷ []); kept = true }
seen (dates c w) = record { outcome = 0; says = []; holds = c ++ (weekday_at (clock_of c) ∷ []); kept = true }

abbrev pub wanted : Case → Seen
wanted (asks level op d t l k w) = w
wanted (ticks c w) = w
wanted (dates c w) = w

-- A name for all that an example computes through. The definitions themselves have no such line: a proof about a check is to find
-- `◌>>=◌` shut.
unfoldable pub computed : ℕ
unfolding seen asked placing part put over le value values storing stored fresh there ◌>>=◌ test from turn turns4 crc_byte crc_from crc_of leap month_days valid_date years_days months_days weekday_of valid_clock day_later later tick weekday_at clock_of clock_bytes printed signed_of finite32 finite64 valid_tlp number_tlp of_kind status_ok rate_ok size_ok in_range judged pair_of paired together same_address stationary for_us data_of crc_right whole directed sealed frame_of received shown told found next ends fitting reading accepts writing plan7 plan8 spans plan167 plan166 counted plan180 plan181 locates plan10 plan11 opcode_of plan sent carried admitted answer ticking
computed = 0

-- A sequence of calls: what is seen of each, and what the firmware holds after it.
-- Assumes nothing.
use Rattle.std.specs.Prelude.{ℕ, ◌≤◌, ◌≡◌, List, [], ◌∷◌, length}
use Rattle.points.specs.Types.{Build}
use Rattle.points.specs.Place.{store_size}
use Rattle.rules.specs.Asked.{Asked, Held}
use Rattle.rules.specs.Answer.{Answer, answer}
use Rattle.rules.specs.System.{Left, system_write, fill, Passed, ticking}
use Rattle.rules.specs.Agree.{Agree}

-- A number read is the firmware's own: it has no level, reads everything and answers no request. So it is no part of a sequence.
pub data Call : Type 0 where
  -- a frame, our own address and a level; the reply space as it is handed in
  asks : Asked → List ℕ → Call
  -- a system write
  sets : (t l k : ℕ) → List ℕ → Call
  fills : Call
  -- one second passes
  ticks : Call

-- the outcome, the reply's length, the clock afterwards, the reply space; a call that no frame reaches has no reply
pub record Seen : Type 0 where
  pub outcome : ℕ
  pub count : ℕ
  pub clock : List ℕ
  pub reply : List ℕ

pub record Done : Type 0 where
  pub seen : Seen
  pub held : Held

abbrev pub unframed : (outcome : ℕ) (store clock : List ℕ) → Done
unframed n s c =
    record {
      seen = record { outcome = n; count = 0; clock = c; reply = [] };
      held = record { store = s; clock = c };
    }

abbrev pub framed : Answer → Done
framed x =
    record {
      seen = record { outcome = x.outcome; count = x.count; clock = x.clock; reply = x.reply };
      held = record { store = x.store; clock = x.clock };
    }

unfoldable pub call : Build → Held → Call → Done
call b h (asks a r) = framed (answer b a h r)
call b h (sets t l k v) = let x : Left = system_write b h.store t l k v in unframed x.outcome x.store h.clock
call b h fills = let x : Left = fill b h.store in unframed x.outcome x.store h.clock
call b h ticks = let x : Passed = ticking h.clock in unframed x.outcome h.store x.clock

-- all that is seen of a sequence, and what is held at its end
pub record Ran : Type 0 where
  pub seen : List Seen
  pub held : Held

unfoldable pub run : Build → Held → List Call → Ran
run b h [] = record { seen = []; held = h }
run b h (c ∷ cs) =
    let x : Done = call b h c in
    let y : Ran = run b x.held cs in
    record { seen = x.seen ∷ y.seen; held = y.held }

-- ---- what level K does not tell apart

-- a call whose level is at most K; a system write, a fill and a tick have none
abbrev pub Within : ℕ → Call → Type 0
Within K (asks a r) = a.level ≤ K
Within K (sets t l k v) = Unit {0}
Within K fills = Unit {0}
Within K ticks = Unit {0}

-- two whole stores that agree in all that level K may read, and one clock
pub record Alike (b : Build) (K : ℕ) (h g : Held) : Type 0 where
  pub whole : length h.store ≡ store_size b
  pub whole_too : length g.store ≡ store_size b
  pub store : Agree b K h.store g.store
  pub clock : h.clock ≡ g.clock

-- nothing that is seen of a call differs, and what is held stays alike
pub record Untold (b : Build) (K : ℕ) (x y : Done) : Type 0 where
  pub seen : x.seen ≡ y.seen
  pub held : Alike b K x.held y.held

-- nor of a sequence
pub record Secret (b : Build) (K : ℕ) (h g : Held) (cs : List Call) : Type 0 where
  pub seen : (run b h cs).seen ≡ (run b g cs).seen
  pub held : Alike b K (run b h cs).held (run b g cs).held

-- What a request that is received leaves: its opcode carried out, and the frame that goes out.
-- Assumes nothing.
use Rattle.std.specs.Prelude.{ℕ, cond, List, []}
use Rattle.base.specs.Check.{Check}
use Rattle.points.specs.Types.{gateway}
use Rattle.faults.specs.Faults.{outcome_of}
use Rattle.frame.specs.Address.{source}
use Rattle.frame.specs.Frame.{is_broadcast, opcode, data_of, frame_of}
use Rattle.frame.specs.declared.Address.{Address}
use Rattle.rules.specs.Asked.{Asked, Held}
use Rattle.rules.specs.Deeds.{Deeds}
use Rattle.rules.specs.Opcodes.{opcode_of, plan}
use Rattle.rules.specs.Answer.{Answer, carried, planned}
use Rattle.opcodes.specs.Done.{held}
use Rattle.request.specs.declared.Ended.{Ended}

-- what is asked
abbrev pub asked : List ℕ → Address → ℕ → Asked
asked f us level = record { frame = f; us = us; level = level }

-- what is planned for the frame f
abbrev pub plan_for : List ℕ → ℕ → List ℕ → List ℕ → Check Deeds
plan_for f level s c = plan gateway (opcode_of (opcode f)) level (held s c) (data_of f)

-- the frame that goes out from us with an opcode and data: to whoever sent the frame f; none where f is a broadcast
unfoldable pub sent_back : List ℕ → Address → ℕ → List ℕ → List ℕ
sent_back f us op d = cond (is_broadcast f) [] (frame_of (source f) us op d)

-- what the call gives back, with the buffers that it leaves
abbrev pub ended_as : Ended → List ℕ → List ℕ → List ℕ → Answer
ended_as e s c r = record { outcome = outcome_of e.outcome; count = e.count; store = s; clock = c; reply = r }

-- what a request that is received comes to
unfoldable pub performed : Asked → Held → List ℕ → Answer
performed a h r = carried gateway a h r (planned gateway a h)

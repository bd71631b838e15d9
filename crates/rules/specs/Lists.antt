-- The two walks over a list of parameters: one to read, one to write. d is what is left of the data, which begins at place at.
-- Assumes nothing.
use Rattle.std.specs.Prelude.{ℕ, zero, suc, ◌+◌, List, ◌∷◌, length, take, drop, leb, eqb}
use Rattle.base.specs.Check.{Check, pass, ◌>>=◌, test, from}
use Rattle.points.specs.Types.{Build, Point, row}
use Rattle.points.specs.Place.{len_at}
use Rattle.store.specs.Store.{Write, stored}
use Rattle.values.specs.Judged.{judged}
use Rattle.values.specs.Pairs.{together}
use Rattle.rules.specs.Deeds.{Piece, plain, held, sizes}
use Rattle.rules.specs.Entries.{Caller, may_write, Named, Source, spoken, after, next, locked_place}

abbrev pub read_level : Point → ℕ
read_level p = p.reads

abbrev pub write_level : Point → ℕ
write_level p = p.writes

-- spare bytes at the end
unfoldable pub ends : (d : List ℕ) (at : ℕ) → Check Unit
ends d at = test (eqb (length d) 0) 21 at

-- over 255 data bytes
unfoldable pub fitting : (ps : List Piece) → Check Unit
fitting ps = test (leb (sizes ps) 255) 28 0

-- n entries are left to read; ps is the reply so far
unfoldable pub reading : Build → Caller → Source → ℕ → List ℕ → ℕ → List Piece → Check (List Piece)
reading b who src zero d at ps = do
  _ ← ends d at
  _ ← fitting ps
  pass ps
reading b who src (suc n) d at ps = do
  p ← next b read_level who src d at
  reading b who (after src) n (drop (spoken src) d) (at + spoken src)
      (held p.type p.logical p.parameter 1 ∷ plain (take (spoken src) d) ∷ ps)

-- the value for a parameter that stands first in d
abbrev pub entry : Named → List ℕ → Write
entry p d = record { type = p.type; logical = p.logical; parameter = p.parameter; bytes = take (len_at p.type p.parameter) d }

-- Whether a value may be stored: s is the store as it arrived, ws what the earlier entries store, d the data from the value on.
-- The pairs are judged in the store that the value makes.
unfoldable pub accepts : Build → Caller → List ℕ → List Write → Named → List ℕ → (ofLocked ofValue : ℕ) → Check Unit
accepts b who s ws p d locked at = do
  _ ← test (may_write who (row p.type p.parameter).access p.logical) 26 locked
  _ ← test (leb (len_at p.type p.parameter) (length d)) 21 (at + length d)
  _ ← from at (judged b (row p.type p.parameter) p.logical (entry p d).bytes)
  _ ← test (together b (stored b s (entry p d ∷ ws)) p.type p.logical p.parameter) 27 at
  pass tt

-- n entries are left to write; ws is what the earlier ones store
unfoldable pub writing : Build → Caller → List ℕ → Source → ℕ → List ℕ → ℕ → List Write → Check (List Write)
writing b who s src zero d at ws = do
  _ ← ends d at
  pass ws
writing b who s src (suc n) d at ws = do
  p ← next b write_level who src d at
  _ ← accepts b who s ws p (drop (spoken src) d) (locked_place src at) (at + spoken src)
  writing b who s (after src) n (drop (len_at p.type p.parameter) (drop (spoken src) d))
      (at + spoken src + len_at p.type p.parameter) (entry p (drop (spoken src) d) ∷ ws)

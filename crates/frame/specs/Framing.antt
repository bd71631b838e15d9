-- Outcomes 4 to 8: a frame by itself, and whom it is for and from. One line for each test that the rules' rows make, in their order.
-- Assumes nothing.
use Rattle.std.specs.Prelude.{ℕ, ◌+◌, not, List, eqb, leb, length}
use Rattle.base.specs.Check.{Check, pass, ◌>>=◌, test}
use Rattle.frame.specs.Address.{same_address, stationary, destination, source, for_us}
use Rattle.frame.specs.Frame.{longest, data_length, crc_right}
use Rattle.frame.specs.declared.Address.{Address}

unfoldable pub whole : List ℕ → Check Unit
whole f = do
  _ ← test (leb 8 (length f)) 4 0
  _ ← test (leb (length f) longest) 4 0
  _ ← test (eqb (length f) (data_length f + 8)) 5 0
  _ ← test (crc_right f) 6 0
  pass tt

unfoldable pub directed : Address → List ℕ → Check Unit
directed us f = do
  _ ← test (for_us us (destination f)) 7 0
  _ ← test (stationary (source f)) 8 0
  _ ← test (not (same_address (source f) us)) 8 0
  pass tt

-- a frame that a request may be: the one, then the other
abbrev pub framed : Address → List ℕ → Check Unit
framed us f = do
  _ ← whole f
  _ ← directed us f
  pass tt

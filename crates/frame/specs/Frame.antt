-- The frame: destination, source, opcode, data length n, n data bytes, CRC low byte and high byte.
-- Assumes nothing.
use Rattle.std.specs.Prelude.{ℕ, ◌+◌, ◌*◌, ◌/◌, ◌%◌, Bool, List, [], ◌∷◌, ◌++◌, eqb, length, take, get_or}
use Rattle.base.specs.Lists.{part}
use Rattle.crc.specs.Crc.{crc_of}
use Rattle.frame.specs.declared.Address.{Address}

-- the most bytes that a frame has: 8 and 255 data bytes
abbrev pub longest : ℕ
longest = 263

-- a request's opcode, its n, its data
abbrev pub opcode : List ℕ → ℕ
opcode f = get_or f 4 0

abbrev pub data_length : List ℕ → ℕ
data_length f = get_or f 5 0

-- whether it is for all stations of a group
abbrev pub is_broadcast : List ℕ → Bool
is_broadcast f = eqb (get_or f 0 0) 0

unfoldable pub data_of : List ℕ → List ℕ
data_of f = part f 6 (data_length f)

-- the CRC covers all before it
unfoldable pub crc_right : List ℕ → Bool
crc_right f = eqb (crc_of (take (data_length f + 6) f)) (get_or f (data_length f + 6) 0 + 256 * get_or f (data_length f + 7) 0)

-- ---- a reply

abbrev pub heading : Address → Address → ℕ → ℕ → List ℕ
heading to us op n = to.unit ∷ to.group ∷ us.unit ∷ us.group ∷ op ∷ n ∷ []

-- the CRC of some bytes, low byte first
abbrev pub crc_bytes : List ℕ → List ℕ
crc_bytes p = crc_of p % 256 ∷ crc_of p / 256 ∷ []

-- the bytes with their CRC behind them
unfoldable pub sealed : List ℕ → List ℕ
sealed p = p ++ crc_bytes p

unfoldable pub frame_of : Address → Address → ℕ → List ℕ → List ℕ
frame_of to us op d = sealed (heading to us op (length d) ++ d)

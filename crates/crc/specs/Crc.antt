-- CRC-16 of manual chapter 4, bit by bit: polynomial x^16 + x^15 + x^2 + 1, low bit first, start 0.
-- Assumes nothing.
use Rattle.std.specs.Prelude.{List, [], ◌∷◌, ℕ, ◌/◌, ◌%◌, ◌*◌}
use Rattle.std.specs.Int.Bits.{bit_xor}
use Rattle.base.specs.Lists.{upward}

-- One turn of the register: it moves right by one place, and where the bit that falls out is 1 the polynomial is added.
-- The polynomial's bits in that order, x^16 left out, are 0xa001.
unfoldable pub turn : ℕ → ℕ
turn c = bit_xor (c / 2) (c % 2 * 0xa001)

unfoldable pub turns4 : ℕ → ℕ
turns4 c = turn (turn (turn (turn c)))

-- what four turns make of each register below 16
unfoldable pub turned : List ℕ
unfolding turns4 turn
turned = upward turns4 0 16

-- a byte is added to the low bits, and eight turns follow
unfoldable pub crc_byte : ℕ → ℕ → ℕ
crc_byte c b = turns4 (turns4 (bit_xor c b))

unfoldable pub crc_from : ℕ → List ℕ → ℕ
crc_from c [] = c
crc_from c (b ∷ bs) = crc_from (crc_byte c b) bs

unfoldable pub crc_of : List ℕ → ℕ
crc_of bs = crc_from 0 bs

-- Published values, computed.
-- Assumes nothing.
use Rattle.std.specs.Prelude.{◌≡◌, refl, [], ◌∷◌, ◌+◌, ◌*◌}
use Rattle.base.specs.Bytes.{ascii}
use Rattle.crc.specs.Crc.{turn, turns4, crc_byte, crc_from, crc_of}

-- the frame of manual chapter 4: its CRC is 133, 24
pub manual_frame : crc_of (1 ∷ 2 ∷ 1 ∷ 0 ∷ 17 ∷ 3 ∷ ascii "MOC") ≡ 133 + 256 * 24
unfolding crc_of crc_from crc_byte turns4 turn
manual_frame = refl

-- the two frames of manual chapter 6
pub report_frame : crc_of (1 ∷ 0 ∷ 1 ∷ 2 ∷ 224 ∷ 0 ∷ []) ≡ 232 + 256 * 45
unfolding crc_of crc_from crc_byte turns4 turn
report_frame = refl

pub acknowledge_frame : crc_of (1 ∷ 2 ∷ 1 ∷ 0 ∷ 225 ∷ 2 ∷ 7 ∷ 0 ∷ []) ≡ 118 + 256 * 17
unfolding crc_of crc_from crc_byte turns4 turn
acknowledge_frame = refl

-- the check value under which this CRC is catalogued, of the digits 1 to 9
pub check-value : crc_of (ascii "123456789") ≡ 0xbb3d
unfolding crc_of crc_from crc_byte turns4 turn
check-value = refl

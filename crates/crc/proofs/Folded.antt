-- The CRC as a fold over the bytes.
-- Assumes nothing.
use Rattle.std.proofs.Common.{◌≡◌, ℕ, List, [], ◌∷◌, refl}
use Rattle.std.specs.List.{fold}
use Rattle.crc.specs.Crc.{crc_byte, crc_from, crc_of}

from_any : (c : ℕ) (bs : List ℕ) → crc_from c bs ≡ fold crc_byte c bs
unfolding crc_from
from_any c [] = refl
from_any c (b ∷ bs) = from_any (crc_byte c b) bs

pub by_fold : (bs : List ℕ) → crc_of bs ≡ fold crc_byte 0 bs
unfolding crc_of
by_fold bs = from_any 0 bs

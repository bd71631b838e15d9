-- The number read: a parameter as an unsigned, a signed, a single or a double.
-- Assumes nothing.
use Rattle.std.specs.Prelude.{ℕ, cond, List, length, eqb}
use Rattle.std.specs.Float.{binary32, binary64}
use Rattle.std.specs.Float.Ieee.{of_bits}
use Rattle.base.specs.Check.{Check, fault, pass, ◌>>=◌, test}
use Rattle.base.specs.Bytes.{le}
use Rattle.points.specs.Row.{Kind, text, unsigned, signed, single, double, tlp}
use Rattle.points.specs.Types.{Build, index_of, row}
use Rattle.points.specs.Place.{place_of, store_size}
use Rattle.points.specs.There.{there}
use Rattle.store.specs.Store.{value}
use Rattle.values.specs.Kinds.{signed_of}
use Rattle.values.specs.declared.readings.Number.{Number}
use Rattle.values.specs.declared.readings.Number.TheVariants.{Unsigned, Signed, Single, Double}

-- what the bytes of a kind say; 27 for text and TLP
unfoldable pub said : Kind → List ℕ → Check Number
said text v = fault 27 0
said unsigned v = pass (Unsigned (le v))
said signed v = pass (Signed (signed_of (le v)))
said single v = pass (Single (of_bits binary32 (le v)))
said double v = pass (Double (of_bits binary64 (le v)))
said tlp v = fault 27 0

-- 2, 22, 23, 24, 27, in that order
unfoldable pub number_read : Build → List ℕ → ℕ → ℕ → ℕ → Check Number
number_read b s t l k = do
  _ ← test (eqb (length s) (store_size b)) 2 0
  _ ← there (place_of b t l k) 0 0 0
  said (row (index_of t) k).kind (value b s (index_of t) l k)

-- what the call answers: the number, or the outcome that refuses it
pub data Reading : Type 0 where
  Got : Number → Reading
  Refused : ℕ → Reading

unfoldable pub reading_of : Check Number → Reading
reading_of (fault n p) = Refused n
reading_of (pass x) = Got x

-- ---- the same for C: 0 unsigned, 1 signed, 2 single, 3 double, and the value's bits as they are stored

pub record Raw : Type 0 where
  pub kind : ℕ
  pub bits : ℕ

unfoldable pub raw : Kind → List ℕ → Check Raw
raw text v = fault 27 0
raw unsigned v = pass (record { kind = 0; bits = le v })
raw signed v = pass (record { kind = 1; bits = le v })
raw single v = pass (record { kind = 2; bits = le v })
raw double v = pass (record { kind = 3; bits = le v })
raw tlp v = fault 27 0

-- the number that kind and bits say
unfoldable pub number_of : (kind bits : ℕ) → Number
number_of k n =
    cond (eqb k 0) (Unsigned n) (cond (eqb k 1) (Signed (signed_of n)) (cond (eqb k 2) (Single (of_bits binary32 n)) (Double (of_bits binary64 n))))

-- which of the four a number is, as C has it
unfoldable pub kind_of : Number → ℕ
kind_of (Unsigned n) = 0
kind_of (Signed z) = 1
kind_of (Single x) = 2
kind_of (Double x) = 3

unfoldable pub raw_read : Build → List ℕ → ℕ → ℕ → ℕ → Check Raw
raw_read b s t l k = do
  _ ← test (eqb (length s) (store_size b)) 2 0
  _ ← there (place_of b t l k) 0 0 0
  raw (row (index_of t) k).kind (value b s (index_of t) l k)

-- what the call leaves: the outcome, and kind and bits, which a refusal leaves as they were
pub record Told : Type 0 where
  pub outcome : ℕ
  pub kind : ℕ
  pub bits : ℕ

unfoldable pub telling : ℕ → ℕ → Check Raw → Told
telling k n (fault o p) = record { outcome = o; kind = k; bits = n }
telling k n (pass x) = record { outcome = 0; kind = x.kind; bits = x.bits }

-- what C is told, as the answer of the other call
unfoldable pub reading_in : Told → Reading
reading_in x = cond (eqb x.outcome 0) (Got (number_of x.kind x.bits)) (Refused x.outcome)

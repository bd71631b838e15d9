-- What the code answers of a number's bits, in the rules' words.
-- Assumes nothing.
use Rattle.std.specs.Prelude.{ℕ, ◌≡◌, Result, Ok, Err}
use Rattle.base.specs.Check.{Check, fault, pass}
use Rattle.faults.specs.Faults.{number_of}
use Rattle.faults.specs.declared.Refusal.{Refusal}
use Rattle.values.specs.Number.{Raw}
use Rattle.values.specs.declared.readings.NumberKind.{NumberKind}
use Rattle.values.specs.declared.readings.NumberKind.TheVariants.{Unsigned, Signed, Single, Double}
use Rattle.values.specs.declared.readings.Raw as answer

-- which of the four, as C has it
abbrev pub code_of : NumberKind → ℕ
code_of Unsigned = 0
code_of Signed = 1
code_of Single = 2
code_of Double = 3

abbrev pub raw_check : Result answer.Raw Refusal → Check Raw
raw_check (Ok x) = pass (record { kind = code_of x.kind; bits = x.bits })
raw_check (Err r) = fault (number_of r) 0

-- no two kinds have one code
abbrev pub KindsAreToldApart : Type 0
KindsAreToldApart = (k l : NumberKind) → code_of k ≡ code_of l → k ≡ l

-- no two results say the same check
abbrev pub RawsAreToldApart : Type 0
RawsAreToldApart = (x y : Result answer.Raw Refusal) → raw_check x ≡ raw_check y → x ≡ y

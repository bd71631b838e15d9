-- The outcome of each refusal, and what a result of the code says as a check of the rules.
-- Assumes nothing.
use Rattle.std.specs.Prelude.{ℕ, Bool, Result, Ok, Err, if◌then◌else◌}
use Rattle.base.specs.Check.{Check, fault, pass}
use Rattle.faults.specs.declared.Fault.{Fault}
use Rattle.faults.specs.declared.Refusal.{Refusal}
use Rattle.faults.specs.declared.Refusal.TheVariants.{NoReplySpace, StoreLength, NotReady, FrameLength, DataLength, CrcDiffers, NotForUs, BadSource, Unserved, Length, NoPointType, NoLogical, NoParameter, LevelTooLow, ReadOnly, OutOfRange, ReplyTooLong, OutsideTable, CountZero, InvalidDate}

-- the outcome that stands for a refusal
abbrev pub number_of : Refusal → ℕ
number_of NoReplySpace = 1
number_of StoreLength = 2
number_of NotReady = 3
number_of FrameLength = 4
number_of DataLength = 5
number_of CrcDiffers = 6
number_of NotForUs = 7
number_of BadSource = 8
number_of Unserved = 20
number_of Length = 21
number_of NoPointType = 22
number_of NoLogical = 23
number_of NoParameter = 24
number_of LevelTooLow = 25
number_of ReadOnly = 26
number_of OutOfRange = 27
number_of ReplyTooLong = 28
number_of OutsideTable = 29
number_of CountZero = 30
number_of InvalidDate = 31

-- what a result says in the rules' words: a value that passes, or a fault with its number and its place
abbrev pub check_of : {A : Type 0} → Result A Fault → Check A
check_of (Ok a) = pass a
check_of (Err f) = fault (number_of f.refusal) f.place

-- the same where a refusal has no place
abbrev pub refusal_check : {A : Type 0} → Result A Refusal → Check A
refusal_check (Ok a) = pass a
refusal_check (Err r) = fault (number_of r) 0

-- the outcome of a call that is refused or not
abbrev pub outcome_of : {A : Type 0} → Result A Refusal → ℕ
outcome_of (Ok a) = 0
outcome_of (Err r) = number_of r

-- passes where the condition holds
abbrev pub required : Bool → Refusal → ℕ → Result Unit Fault
required b r p = if b then Ok tt else Err (record { refusal = r; place = p })

-- the same for a refusal with no place
abbrev pub refused_unless : Bool → Refusal → Result Unit Refusal
refused_unless b r = if b then Ok tt else Err r

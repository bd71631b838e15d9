-- A refusal by its outcome, and that no two results say the same check or have the same outcome.
-- Assumes nothing.
use Prim.Native.Nat.{ℕ}
use native.Mathlib.Omega.{arith}
use mathlib.Core.Path.{◌≡◌, refl, sym, ap, ◌∙◌}
use Rattle.std.specs.Prelude.{Ok, Err, eqb, if◌then◌else◌}
use Rattle.base.specs.Check.{Check, fault, pass}
use Rattle.faults.specs.Faults.{number_of}
use Rattle.faults.specs.Apart.{RefusalsAreToldApart, FaultsAreToldApart, ResultsAreToldApart, OutcomesAreToldApart}
use Rattle.faults.specs.declared.Fault.{Fault}
use Rattle.faults.specs.declared.Refusal.{Refusal}
use Rattle.faults.specs.declared.Refusal.TheVariants.{NoReplySpace, StoreLength, NotReady, FrameLength, DataLength, CrcDiffers, NotForUs, BadSource, Unserved, Length, NoPointType, NoLogical, NoParameter, LevelTooLow, ReadOnly, OutOfRange, ReplyTooLong, OutsideTable, CountZero, InvalidDate}

-- the refusal that has an outcome
refusal_by : ℕ → Refusal
refusal_by n =
    if eqb n 1 then NoReplySpace else
    if eqb n 2 then StoreLength else
    if eqb n 3 then NotReady else
    if eqb n 4 then FrameLength else
    if eqb n 5 then DataLength else
    if eqb n 6 then CrcDiffers else
    if eqb n 7 then NotForUs else
    if eqb n 8 then BadSource else
    if eqb n 20 then Unserved else
    if eqb n 21 then Length else
    if eqb n 22 then NoPointType else
    if eqb n 23 then NoLogical else
    if eqb n 24 then NoParameter else
    if eqb n 25 then LevelTooLow else
    if eqb n 26 then ReadOnly else
    if eqb n 27 then OutOfRange else
    if eqb n 28 then ReplyTooLong else
    if eqb n 29 then OutsideTable else
    if eqb n 30 then CountZero else
    InvalidDate

by_number : (r : Refusal) → refusal_by (number_of r) ≡ r
unfolding refusal_by
by_number NoReplySpace = refl
by_number StoreLength = refl
by_number NotReady = refl
by_number FrameLength = refl
by_number DataLength = refl
by_number CrcDiffers = refl
by_number NotForUs = refl
by_number BadSource = refl
by_number Unserved = refl
by_number Length = refl
by_number NoPointType = refl
by_number NoLogical = refl
by_number NoParameter = refl
by_number LevelTooLow = refl
by_number ReadOnly = refl
by_number OutOfRange = refl
by_number ReplyTooLong = refl
by_number OutsideTable = refl
by_number CountZero = refl
by_number InvalidDate = refl

pub refusals_apart : RefusalsAreToldApart
refusals_apart r q e = sym (by_number r) ∙ ap refusal_by e ∙ by_number q

fault-number : {A : Type 0} (n p m q : ℕ) → ◌≡◌ {A = Check A} (fault n p) (fault m q) → n ≡ m
fault-number n p m q e = cc

fault-place : {A : Type 0} (n p m q : ℕ) → ◌≡◌ {A = Check A} (fault n p) (fault m q) → p ≡ q
fault-place n p m q e = cc

pass-same : {A : Type 0} (a b : A) → ◌≡◌ {A = Check A} (pass a) (pass b) → a ≡ b
pass-same a b e = cc

-- a fault is its refusal and its place
abbrev made : Refusal → ℕ → Fault
made r p = record { refusal = r; place = p }

fault_same : (f g : Fault) → f.refusal ≡ g.refusal → f.place ≡ g.place → f ≡ g
fault_same f g e h = ap (λ (r : Refusal). made r f.place) e ∙ ap (made g.refusal) h

pub faults_apart : (A : Type 0) → FaultsAreToldApart A
faults_apart A (Ok a) (Ok b) e = ap Ok (pass-same a b e)
faults_apart A (Ok a) (Err g) e = cc
faults_apart A (Err f) (Ok b) e = cc
faults_apart A (Err f) (Err g) e = ap Err (fault_same f g (refusals_apart _ _ (fault-number _ _ _ _ e)) (fault-place _ _ _ _ e))

pub results_apart : (A : Type 0) → ResultsAreToldApart A
results_apart A (Ok a) (Ok b) e = ap Ok (pass-same a b e)
results_apart A (Ok a) (Err q) e = cc
results_apart A (Err r) (Ok b) e = cc
results_apart A (Err r) (Err q) e = ap Err (refusals_apart r q (fault-number _ _ _ _ e))

-- were there a refusal with outcome 0, the one that stands for 0 would have it
with_none : (r : Refusal) → number_of r ≡ 0 → number_of (refusal_by 0) ≡ 0
with_none r e = ap number_of (sym (ap refusal_by e) ∙ by_number r) ∙ e

pub outcomes_apart : OutcomesAreToldApart
unfolding refusal_by
outcomes_apart (Ok a) (Ok b) e = refl
outcomes_apart (Ok a) (Err q) e = let f : number_of InvalidDate ≡ 0 = with_none q (sym e) in absurd (omega arith)
outcomes_apart (Err r) (Ok b) e = let f : number_of InvalidDate ≡ 0 = with_none r e in absurd (omega arith)
outcomes_apart (Err r) (Err q) e = ap Err (refusals_apart r q e)

-- What a result says as a check of the rules leaves no choice of the result.
-- Assumes nothing.
use Rattle.std.specs.Prelude.{◌≡◌, Result}
use Rattle.faults.specs.Faults.{number_of, check_of, refusal_check, outcome_of}
use Rattle.faults.specs.declared.Fault.{Fault}
use Rattle.faults.specs.declared.Refusal.{Refusal}

-- no two refusals have one outcome
abbrev pub RefusalsAreToldApart : Type 0
RefusalsAreToldApart = (r q : Refusal) → number_of r ≡ number_of q → r ≡ q

-- no two results say the same check
abbrev pub FaultsAreToldApart : Type 0 → Type 0
FaultsAreToldApart A = (x y : Result A Fault) → check_of x ≡ check_of y → x ≡ y

-- the same where a refusal has no place
abbrev pub ResultsAreToldApart : Type 0 → Type 0
ResultsAreToldApart A = (x y : Result A Refusal) → refusal_check x ≡ refusal_check y → x ≡ y

-- nor do two ends of a call have one outcome: 0 is no refusal's
abbrev pub OutcomesAreToldApart : Type 0
OutcomesAreToldApart = (x y : Result Unit Refusal) → outcome_of x ≡ outcome_of y → x ≡ y

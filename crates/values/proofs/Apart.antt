-- A kind by its code, and that no two results of the number read for C say the same check.
-- Assumes nothing.
use Prim.Native.Nat.{ℕ}
use mathlib.Core.Path.{◌≡◌, refl, sym, ap, ◌∙◌}
use Rattle.std.specs.Prelude.{Ok, Err, eqb, if◌then◌else◌}
use Rattle.base.specs.Check.{Check, fault, pass}
use Rattle.faults.proofs.Apart.{refusals_apart}
use Rattle.values.specs.Number.{Raw}
use Rattle.values.specs.Raws.{code_of, KindsAreToldApart, RawsAreToldApart}
use Rattle.values.specs.declared.readings.NumberKind.{NumberKind}
use Rattle.values.specs.declared.readings.NumberKind.TheVariants.{Unsigned, Signed, Single, Double}
use Rattle.values.specs.declared.readings.Raw as answer

-- the kind that has a code
kind_by : ℕ → NumberKind
kind_by n =
    if eqb n 0 then Unsigned else
    if eqb n 1 then Signed else
    if eqb n 2 then Single else
    Double

by_code : (k : NumberKind) → kind_by (code_of k) ≡ k
unfolding kind_by
by_code Unsigned = refl
by_code Signed = refl
by_code Single = refl
by_code Double = refl

pub kinds_apart : KindsAreToldApart
kinds_apart k l e = sym (by_code k) ∙ ap kind_by e ∙ by_code l

-- an answer is its kind and its bits
abbrev made : NumberKind → ℕ → answer.Raw
made k n = record { kind = k; bits = n }

raw_same : (x y : answer.Raw) → x.kind ≡ y.kind → x.bits ≡ y.bits → x ≡ y
raw_same x y e h = ap (λ (k : NumberKind). made k x.bits) e ∙ ap (made y.kind) h

pass_same : (r q : Raw) → ◌≡◌ {A = Check Raw} (pass r) (pass q) → r ≡ q
pass_same r q e = cc

fault_same : (n p m q : ℕ) → ◌≡◌ {A = Check Raw} (fault n p) (fault m q) → n ≡ m
fault_same n p m q e = cc

pub raws_apart : RawsAreToldApart
raws_apart (Ok x) (Ok y) e =
    let f : ◌≡◌ {A = Raw} (record { kind = code_of x.kind; bits = x.bits }) (record { kind = code_of y.kind; bits = y.bits }) = pass_same _ _ e in
    ap Ok (raw_same x y (kinds_apart _ _ (ap (λ (r : Raw). r.kind) f)) (ap (λ (r : Raw). r.bits) f))
raws_apart (Ok x) (Err q) e = cc
raws_apart (Err r) (Ok y) e = cc
raws_apart (Err r) (Err q) e = ap Err (refusals_apart r q (fault_same _ _ _ _ e))

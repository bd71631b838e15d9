-- The number read for Rust and the one for C are one reading: the number of the first is what kind and bits of the second say.
-- Assumes nothing.
use Prim.Native.Nat.{ℕ}
use mathlib.Core.Path.{◌≡◌, refl, sym, ◌∙◌}
use mathlib.Core.List.{List}
use Rattle.base.specs.Check.{Check, pass, ◌>>=◌}
use Rattle.base.specs.Bytes.{le}
use Rattle.base.proofs.Checks.{Holds, faulty, passing, step, step_same, then_then}
use Rattle.points.specs.Row.{Kind, text, unsigned, signed, single, double, tlp}
use Rattle.points.specs.Types.{Build}
use Rattle.values.specs.declared.readings.Number.{Number}
use Rattle.values.specs.Number.{said, number_read, Raw, raw, number_of, kind_of, raw_read}

-- what a raw answer says
abbrev pub saying : Raw → Check Number
saying r = pass (number_of r.kind r.bits)

raw-said : (kind : Kind) (v : List ℕ) → said kind v ≡ (raw kind v >>= saying)
unfolding said raw number_of ◌>>=◌
raw-said text v = refl
raw-said unsigned v = refl
raw-said signed v = refl
raw-said single v = refl
raw-said double v = refl
raw-said tlp v = refl

-- the same refusals, and past them the number that kind and bits say
pub number_raw : (b : Build) (s : List ℕ) (t l k : ℕ) → number_read b s t l k ≡ (raw_read b s t l k >>= saying)
unfolding number_read raw_read
number_raw b s t l k =
    step_same _ (λ _. step_same _ (λ _. raw-said _ _) ∙ sym (then_then _ _ saying)) ∙ sym (then_then _ _ saying)

-- a number read "keeps which" of the four it is
pub record Keeps (r : Raw) : Type 0 where
  pub which : kind_of (number_of r.kind r.bits) ≡ r.kind

kept : (r : Raw) → kind_of (number_of r.kind r.bits) ≡ r.kind → Holds Keeps (pass r)
kept r e = passing (record { which = e })

raw-kind : (kind : Kind) (v : List ℕ) → Holds Keeps (raw kind v)
unfolding raw number_of kind_of
raw-kind text v = faulty
raw-kind unsigned v = kept (record { kind = 0; bits = le v }) refl
raw-kind signed v = kept (record { kind = 1; bits = le v }) refl
raw-kind single v = kept (record { kind = 2; bits = le v }) refl
raw-kind double v = kept (record { kind = 3; bits = le v }) refl
raw-kind tlp v = faulty

pub keeps_which : (b : Build) (s : List ℕ) (t l k : ℕ) → Holds Keeps (raw_read b s t l k)
unfolding raw_read
keeps_which b s t l k = step _ λ _. step _ λ _. raw-kind _ _

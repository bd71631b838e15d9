-- The bits of a parameter by its place, and what each reading makes of them.
-- Assumes nothing.
use mathlib.Core.Path.{◌≡◌, refl, sym, ◌∙◌}
use mathlib.Core.List.{List}
use Prim.Native.Nat.{ℕ}
use borrow.Author.Tests.{eq-eqb, ne_eqb}
use lib.ListN.{length}
use Rattle.std.specs.Prelude.{Ok, Err}
use lib.Ieee.{binary32, binary64, of_bits}
use Rattle.base.specs.Check.{Check, fault, pass, ◌>>=◌, test}
use Rattle.base.specs.Lists.{part}
use Rattle.base.proofs.Checks.{step_same, then_then}
use Rattle.points.specs.Row.{Kind, text, unsigned, signed, single, double, tlp}
use Rattle.points.specs.Types.{Build, gateway, index_of, row}
use Rattle.points.specs.Place.{place_of}
use Rattle.points.specs.There.{there}
use Rattle.points.specs.Sums.{store_bytes}
use Rattle.points.specs.declared.Spot.{Spot}
use Rattle.points.specs.declared.Missing.{Missing}
use Rattle.points.specs.declared.Missing.TheVariants.{NoPointType, NoLogical, NoParameter}
use Rattle.store.specs.Store.{value}
use Rattle.store.proofs.Spots.{value_found}
use Rattle.values.proofs.Named.{row_same}
use Rattle.points.specs.Columns.{row_at, kind_of}
use Rattle.values.specs.Kinds.{signed_of}
use Rattle.values.specs.Number.{said, number_read, Raw, raw, raw_read}
use Rattle.values.specs.Bits.{number_missing, bits_of, bits_read}
use Rattle.values.specs.declared.readings.Bits.{Bits}
use Rattle.values.specs.declared.readings.Bits.TheVariants as bits
use Rattle.values.specs.declared.readings.Number.{Number}
use Rattle.values.specs.declared.readings.Number.TheVariants.{Unsigned, Signed, Single, Double}

-- the bits of a parameter by its place, in a store s
module _ (s : List ℕ) (t l k : ℕ) where
  pub bits_uneven : (length s ≡ 12427 → ⊥) → bits_read gateway s t l k ≡ fault 2 0
  unfolding bits_read test ◌>>=◌
  bits_uneven h = rw (store_bytes, ne_eqb (length s) 12427 h) refl

  module _ (h : length s ≡ 12427) where
    pub bits_missing : (m : Missing) → place_of gateway t l k ≡ Err m → bits_read gateway s t l k ≡ fault (number_missing m) 0
    unfolding bits_read test there ◌>>=◌
    bits_missing m e = rw (store_bytes, eq-eqb (length s) 12427 h, e) (by_number m)
      where
        by_number : (m : Missing) → (there (Err m) 0 0 0 >>= λ _. bits_of (kind_of (row (index_of t) k).kind) (value gateway s (index_of t) l k)) ≡ fault (number_missing m) 0
        by_number NoPointType = refl
        by_number NoLogical = refl
        by_number NoParameter = refl

    pub bits_there : (spot : Spot) → place_of gateway t l k ≡ Ok spot → bits_read gateway s t l k ≡ bits_of (kind_of (row_at spot.row).kind) (part s spot.begin spot.len)
    unfolding bits_read test there ◌>>=◌
    bits_there spot e = rw (store_bytes, eq-eqb (length s) 12427 h, row_same t l k spot e, value_found gateway s t l k e, e) refl

pub ruleset bits_cases = (bits_uneven, bits_missing, bits_there)

-- ---- what each reading makes of them

abbrev pub number_by : Bits → Check Number
number_by (bits.Unsigned n) = pass (Unsigned n)
number_by (bits.Signed n) = pass (Signed (signed_of n))
number_by (bits.Single n) = pass (Single (of_bits binary32 n))
number_by (bits.Double n) = pass (Double (of_bits binary64 n))

said-bits : (kind : Kind) (v : List ℕ) → said kind v ≡ (bits_of (kind_of kind) v >>= number_by)
unfolding said bits_of ◌>>=◌
said-bits text v = refl
said-bits unsigned v = refl
said-bits signed v = refl
said-bits single v = refl
said-bits double v = refl
said-bits tlp v = refl

pub number_bits : (b : Build) (s : List ℕ) (t l k : ℕ) → number_read b s t l k ≡ (bits_read b s t l k >>= number_by)
unfolding number_read bits_read
number_bits b s t l k =
    step_same _ (λ _. step_same _ (λ _. said-bits _ _) ∙ sym (then_then _ _ number_by)) ∙ sym (then_then _ _ number_by)

abbrev pub raw_by : Bits → Check Raw
raw_by (bits.Unsigned n) = pass (record { kind = 0; bits = n })
raw_by (bits.Signed n) = pass (record { kind = 1; bits = n })
raw_by (bits.Single n) = pass (record { kind = 2; bits = n })
raw_by (bits.Double n) = pass (record { kind = 3; bits = n })

raw-made : (kind : Kind) (v : List ℕ) → raw kind v ≡ (bits_of (kind_of kind) v >>= raw_by)
unfolding raw bits_of ◌>>=◌
raw-made text v = refl
raw-made unsigned v = refl
raw-made signed v = refl
raw-made single v = refl
raw-made double v = refl
raw-made tlp v = refl

pub raw_bits : (b : Build) (s : List ℕ) (t l k : ℕ) → raw_read b s t l k ≡ (bits_read b s t l k >>= raw_by)
unfolding raw_read bits_read
raw_bits b s t l k =
    step_same _ (λ _. step_same _ (λ _. raw-made _ _) ∙ sym (then_then _ _ raw_by)) ∙ sym (then_then _ _ raw_by)

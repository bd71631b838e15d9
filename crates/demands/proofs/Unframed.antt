-- The checks of the calls that no frame reaches are their tables: system write, and the number read in both its forms.
-- Assumes nothing.
use Prim.Native.Nat.{ℕ}
use native.Mathlib.Omega.{arith}
use mathlib.Core.Path.{◌≡◌, refl}
use mathlib.Core.Bool.{true}
use mathlib.Core.List.{List, [], ◌∷◌}
use borrow.Author.Tests.{le-leb, eqb-true, eq-eqb}
use lib.ListN.{length, take, drop, length-drop}
use lib.Seq.{take_all}
use lib.Dec.{leb, eqb}
use Rattle.points.specs.Row.{Kind, text, unsigned, signed, single, double, tlp}
use Rattle.points.specs.Types.{Build, index_of}
use Rattle.points.specs.Place.{len_at}
use Rattle.values.specs.Kinds.{is_number}
use Rattle.values.specs.Number.{number_read, raw, raw_read}
use Rattle.values.proofs.SameReading.{number_raw}
use Rattle.rules.specs.Entries.{system, block}
use Rattle.rules.specs.Lists.{writing}
use Rattle.rules.specs.System.{setting}
use Rattle.demands.specs.Table.{unless, first_of}
use Rattle.demands.specs.Rows.{range_holds, write_table}
use Rattle.demands.specs.Tables.{system_table, number_table}
use Rattle.demands.proofs.Says.{Says, blank, say, ask, follow, end, sure, sure_next}
use Rattle.demands.proofs.Tabled.{there-says, writing-says}

-- a list of one value of the right length: it may be read-only, is never short and leaves nothing spare
one-says : (b : Build) (s : List ℕ) (i l k : ℕ) (v : List ℕ) → length v ≡ len_at i k
    → Says (writing b system s (block i l k) 1 v 0 []) (unless (range_holds b s [] (record { type = i; logical = l; parameter = k; bytes = v })) 27 0 ∷ [])
unfolding write_table
one-says b s i l k v e =
    let long : leb (len_at i k) (length v) ≡ true = le-leb (len_at i k) (length v) (omega arith) in
    let spare : eqb (length (drop (len_at i k) v)) 0 ≡ true = eq-eqb (length (drop (len_at i k) v)) 0 (simp length-drop (omega arith)) in
    let all : take (len_at i k) v ≡ v = take_all (len_at i k) v (omega arith) in
    rw all at (sure_next spare (sure long (sure refl (writing-says b system s (block i l k) 1 v 0 []))))

pub setting-says : (b : Build) (s : List ℕ) (t l k : ℕ) (v : List ℕ) → Says (setting b s t l k v) (system_table b s t l k v)
unfolding setting
setting-says b s t l k v =
    ask λ _. follow (there-says b t l k 0 0 0) λ _. ask λ e. one-says b s (index_of t) l k v (eqb-true _ _ e)

-- the number read for C
raw-said : (kind : Kind) (v : List ℕ) → Says (raw kind v) (unless (is_number kind) 27 0 ∷ [])
unfolding raw blank first_of
raw-said text v = record { says = refl }
raw-said unsigned v = record { says = refl }
raw-said signed v = record { says = refl }
raw-said single v = record { says = refl }
raw-said double v = record { says = refl }
raw-said tlp v = record { says = refl }

pub raw-says : (b : Build) (s : List ℕ) (t l k : ℕ) → Says (raw_read b s t l k) (number_table b s t l k)
unfolding raw_read
raw-says b s t l k = ask λ _. follow (there-says b t l k 0 0 0) λ _. raw-said _ _

-- for Rust it is refused alike
pub number-says : (b : Build) (s : List ℕ) (t l k : ℕ) → Says (number_read b s t l k) (number_table b s t l k)
number-says b s t l k = rw (number_raw b s t l k) (end (raw-says b s t l k) λ _. say)

-- What a reply tells: its length is what its pieces say, and two stores that agree tell the same.
-- Assumes nothing.
use Prim.Native.Nat.{ℕ, ◌+◌, ◌≤◌, ◌<◌}
use mathlib.Core.Path.{◌≡◌, refl, ap, ap₂}
use mathlib.Core.List.{List, [], ◌∷◌, ◌++◌}
use lib.ListN.{length, length-append}
use Rattle.base.specs.Lists.{All}
use Rattle.points.specs.Types.{Build, logicals, point, height}
use Rattle.points.specs.Place.{store_size}
use Rattle.store.proofs.Laws.{values_length}
use Rattle.rules.specs.Deeds.{Piece, plain, held, shown, told, sizes}
use Rattle.rules.specs.Agree.{Agree}
use Rattle.rules.proofs.Agree.{values_same}

-- a piece that level L may see: the parameters are of the build, and the level reads their type
abbrev pub Readable : Build → ℕ → Piece → Type 0
Readable b L (plain v) = Unit {0}
Readable b L (held i l k n) = (l < logicals b i) × (k + n ≤ height (point i)) × ((point i).reads ≤ L)

pub told-length : (b : Build) (L : ℕ) (s : List ℕ) → length s ≡ store_size b → (ps : List Piece) → All (Readable b L) ps
    → length (told b s ps) ≡ sizes ps
unfolding told shown
told-length b L s whole [] r = refl
told-length b L s whole (plain v ∷ ps) r = simp (length-append, told-length b L s whole ps r.1)
told-length b L s whole (held i l k n ∷ ps) r =
    simp (length-append, told-length b L s whole ps r.1, values_length b s whole i l k n r.0.0 r.0.1)

pub told_same : (b : Build) (L : ℕ) (s t : List ℕ) → Agree b L s t → (ps : List Piece) → All (Readable b L) ps → told b s ps ≡ told b t ps
unfolding told shown
told_same b L s t same [] r = refl
told_same b L s t same (plain v ∷ ps) r = ap (λ (x : List ℕ). x ++ v) (told_same b L s t same ps r.1)
told_same b L s t same (held i l k n ∷ ps) r =
    ap₂ (λ (x y : List ℕ). x ++ y) (told_same b L s t same ps r.1) (values_same b L s t same i l k n r.0.0 r.0.2)

-- What the reply to a table's parameters begins with.
-- Assumes nothing.
use Prim.Native.Nat.{ℕ, ◌+◌, ◌≤◌, ◌<◌}
use native.Mathlib.Omega.{arith}
use mathlib.Core.Path.{◌≡◌, refl, sym, ap, ◌∙◌}
use mathlib.Core.List.{List, [], ◌∷◌}
use lib.ListN.{length, get_or, take, length-append}
use lib.Seq.{length-take-le}
use Rattle.base.specs.Lists.{part, put}
use Rattle.base.proofs.Parts.{put_join}
use Rattle.points.specs.Types.{gateway, logicals, points, point, tables}
use Rattle.points.specs.Place.{len_at, Here, spot_of}
use Rattle.points.specs.declared.Spot.{Spot}
use Rattle.points.specs.Sums.{store_bytes}
use Rattle.store.proofs.Laws.{value-length, values_one}
use Rattle.store.proofs.Spots.{value_at}
use Rattle.rules.specs.Deeds.{plain, held, told, shown, sizes}
use Rattle.reads.proofs.Spans.{span_one}

revision_long : len_at tables 0 ≡ 4
unfolding len_at point points
revision_long = refl

pub revision_here : (d : List ℕ) → get_or d 0 0 < logicals gateway tables → Here gateway tables (get_or d 0 0) 0
unfolding point points
revision_here d h = record { type = omega arith; logical = h; parameter = omega arith }

pub table_opening : (d : List ℕ) → 3 ≤ length d → 7 ≡ sizes (held tables (get_or d 0 0) 0 1 ∷ plain (take 3 d) ∷ [])
table_opening d h = omega (arith, length-take-le 3 d h, span_one tables 0, revision_long)

pub table_opened : (d s r : List ℕ) (spot : Spot) → 3 ≤ length d → 263 ≤ length r → spot ≡ spot_of gateway tables (get_or d 0 0) 0 → length (part s spot.begin spot.len) ≡ spot.len
    → put (put r 6 (take 3 d)) 9 (part s spot.begin spot.len) ≡ put r 6 (told gateway s (held tables (get_or d 0 0) 0 1 ∷ plain (take 3 d) ∷ []))
unfolding told shown
table_opened d s r spot h room e long =
    let three : length (take 3 d) ≡ 3 = length-take-le 3 d h in
    let nine : 6 + length (take 3 d) ≡ 9 = omega (arith, three) in
    let four : spot.len ≡ 4 = ap (λ (z : Spot). z.len) e ∙ revision_long in
    rw (values_one gateway s tables (get_or d 0 0) 0, ← value_at gateway s tables (get_or d 0 0) 0 e, ← nine)
    (put_join r (take 3 d) (part s spot.begin spot.len) 6 (omega (arith, three, long, four)))

pub table_long : (d s : List ℕ) → 3 ≤ length d → get_or d 0 0 < logicals gateway tables → length s ≡ 12427
    → length (told gateway s (held tables (get_or d 0 0) 0 1 ∷ plain (take 3 d) ∷ [])) ≡ sizes (held tables (get_or d 0 0) 0 1 ∷ plain (take 3 d) ∷ [])
unfolding told shown
table_long d s h known w =
    let v = ap length (values_one gateway s tables (get_or d 0 0) 0) ∙ value-length gateway s (w ∙ sym store_bytes) tables (get_or d 0 0) 0 known in
    simp length-append (omega (arith, v, span_one tables 0))

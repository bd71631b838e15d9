-- What each parameter of the fresh store holds: its default, whichever the type, the logical and the parameter; and where a fill goes on.
-- Assumes nothing.
use mathlib.Core.Path.{◌≡◌, refl, sym, ap, ◌∙◌}
use mathlib.Core.List.{List, [], ◌∷◌, map}
use Prim.Native.Nat.{ℕ, zero, suc, ◌+◌, ◌*◌, ◌/◌, ◌≤◌, ◌<◌}
use native.Mathlib.Nat.{zero-mul, suc-mul, zero-add, add_assoc}
use native.Mathlib.Omega.{arith}
use lib.ListN.{length, get_or, take, length-map, get_or-map}
use lib.Seq.{take-length}
use Rattle.base.specs.Lists.{part, sum, joined, upward, zipped}
use Rattle.base.specs.Bytes.{bytes, padded}
use Rattle.base.proofs.Sums.{inside, step}
use Rattle.base.proofs.Joined.{joined-part, length-joined, part-part, upward-part, length-upward, zipped-at}
use Rattle.points.specs.Row.{Row, Default, figure, words, soft_point, segment, full_first, no_row}
use Rattle.points.specs.Types.{Point, points, no_point, point, height, row, Build, counts, logicals}
use Rattle.points.specs.Place.{row_len, lens, each, area, areas, base, within, len_at, offset, store_size}
use Rattle.points.proofs.Laws.{area_of, grown}
use Rattle.store.specs.Store.{value}
use Rattle.store.specs.Fresh.{start_of, row_start, default_of, logical_start, type_start, fresh}

-- ---- lengths

length-bytes : (n x : ℕ) → length (bytes n x) ≡ n
length-bytes zero x = refl
length-bytes (suc n) x = ap suc (length-bytes n (x / 256))

length-padded : (n : ℕ) (w : List ℕ) → length (padded n w) ≡ n
length-padded zero w = refl
length-padded (suc n) [] = ap suc (length-padded n [])
length-padded (suc n) (x ∷ w) = ap suc (length-padded n w)

pub length-start : (l n : ℕ) (d : Default) → length (start_of l n d) ≡ n
length-start l n (figure x) = length-bytes n x
length-start l n (words w) = length-padded n w
length-start l n soft_point = length-padded n _
length-start l n segment = length-padded n _
length-start l n full_first = length-bytes n _

row-lengths : (l : ℕ) (rs : List Row) → map length (map (row_start l) rs) ≡ map row_len rs
row-lengths l [] = refl
row-lengths l (r ∷ rs) = λ i. length-start l r.len r.default i ∷ row-lengths l rs i

length_logical : (rs : List Row) (l : ℕ) → length (logical_start rs l) ≡ sum (map row_len rs)
length_logical rs l = length-joined (map (row_start l) rs) ∙ ap sum (row-lengths l rs)

length_type : (n : ℕ) (p : Point) → length (type_start n p) ≡ area n p
length_type n p = length-upward (logical_start p.rows) (each p) (length_logical p.rows) n 0

type_lengths : (ns : List ℕ) (ps : List Point) → map length (zipped type_start ns ps) ≡ zipped area ns ps
type_lengths [] ps = refl
type_lengths (n ∷ ns) [] = refl
type_lengths (n ∷ ns) (p ∷ ps) = λ i. length_type n p i ∷ type_lengths ns ps i

pub length-fresh : (b : Build) → length (fresh b) ≡ store_size b
unfolding fresh store_size areas
length-fresh b = length-joined (zipped type_start (counts b) points) ∙ ap sum (type_lengths (counts b) points)

-- ---- a row of a logical, a logical of a type, a type of the store

row-part : (rs : List Row) (l k : ℕ)
    → part (logical_start rs l) (sum (take k (map row_len rs))) (get_or (map row_len rs) k 0) ≡ row_start l (get_or rs k no_row)
row-part rs l k =
    let e : get_or (map (row_start l) rs) k [] ≡ row_start l (get_or rs k no_row) = get_or-map (row_start l) rs k no_row in
    let n : length (get_or (map (row_start l) rs) k []) ≡ get_or (map row_len rs) k 0 =
    ap length e ∙ length-start l (get_or rs k no_row).len (get_or rs k no_row).default ∙ sym (get_or-map row_len rs k no_row) in
    rw (← n, ← row-lengths l rs) (joined-part (map (row_start l) rs) k) ∙ e

logical_part : (n : ℕ) (p : Point) (l : ℕ) → l < n → part (type_start n p) (l * each p) (each p) ≡ logical_start p.rows l
logical_part n p l h =
    upward-part (logical_start p.rows) (each p) (length_logical p.rows) n 0 l h ∙ ap (logical_start p.rows) (zero-add l)

none : (p : Point) → type_start 0 p ≡ []
none p = refl

nothing : (n : ℕ) → type_start n no_point ≡ []
nothing n = go n 0
  where
    go : (n i : ℕ) → joined (upward (logical_start []) i n) ≡ []
    go zero i = refl
    go (suc n) i = go n (suc i)

type_part : (b : Build) (i : ℕ) → part (fresh b) (base b i) (area (logicals b i) (point i)) ≡ type_start (logicals b i) (point i)
unfolding fresh base areas logicals point
type_part b i =
    let ts : List (List ℕ) = zipped type_start (counts b) points in
    let e : get_or ts i [] ≡ type_start (get_or (counts b) i 0) (get_or points i no_point) = zipped-at type_start 0 no_point [] none nothing (counts b) points i in
    let n : length (get_or ts i []) ≡ area (get_or (counts b) i 0) (get_or points i no_point) = ap length e ∙ length_type (get_or (counts b) i 0) (get_or points i no_point) in
    rw (← n, ← type_lengths (counts b) points) (joined-part ts i) ∙ e

within_type : (n : ℕ) (p : Point) (l k : ℕ) → l < n
    → part (type_start n p) (l * each p + sum (take k (lens p))) (get_or (lens p) k 0) ≡ row_start l (get_or p.rows k no_row)
within_type n p l k h =
    sym (part-part (type_start n p) (l * each p) (each p) (sum (take k (lens p))) (get_or (lens p) k 0) (inside (lens p) k))
    ∙ ap (λ (s : List ℕ). part s (sum (take k (lens p))) (get_or (lens p) k 0)) (logical_part n p l h)
    ∙ row-part p.rows l k

-- every parameter of the fresh store
pub value-fresh : (b : Build) (i l k : ℕ) → l < logicals b i → value b (fresh b) i l k ≡ default_of i l k
unfolding value offset within len_at default_of row
value-fresh b i l k h =
    let p = point i in
    let room : l * each p + sum (take k (lens p)) + get_or (lens p) k 0 ≤ area (logicals b i) p =
    omega (arith, grown i l (logicals b i) h, inside (lens p) k) in
    ap (λ (a : ℕ). part (fresh b) a (get_or (lens p) k 0)) (add_assoc (base b i) (l * each p) (sum (take k (lens p))))
    ∙ sym (part-part (fresh b) (base b i) (area (logicals b i) p) (l * each p + sum (take k (lens p))) (get_or (lens p) k 0) room)
    ∙ ap (λ (s : List ℕ). part s (l * each p + sum (take k (lens p))) (get_or (lens p) k 0)) (type_part b i)
    ∙ within_type (logicals b i) p l k h

-- ---- a fill: where the next logical and the next type begin

pub next_logical : (b : Build) (i l : ℕ) → offset b i (suc l) 0 ≡ offset b i l (height (point i))
unfolding offset within
next_logical b i l =
    let n : height (point i) ≡ length (lens (point i)) = sym (length-map (point i).rows row_len) in
    let e : sum (take (height (point i)) (lens (point i))) ≡ each (point i) = rw (n, take-length) in
    omega (arith, suc-mul l (each (point i)), e)

pub next_type : (b : Build) (i : ℕ) → offset b (suc i) 0 0 ≡ offset b i (logicals b i) 0
unfolding offset within base
next_type b i = omega (arith, step (areas b) i, area_of b i, zero-mul (each (point (suc i))))

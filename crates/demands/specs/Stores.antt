-- What a call that is acted on leaves in the store: the values that it brings, and no other.
-- Assumes nothing.
use Rattle.std.specs.Prelude.{ℕ, ◌<◌, ◌≡◌, true, List, [], ◌∷◌, ◌++◌, length}
use Rattle.points.specs.Row.{locked_at}
use Rattle.points.specs.Types.{Build, logicals, point, index_of, row}
use Rattle.points.specs.Place.{store_size}
use Rattle.store.specs.Store.{value, Write, Names, stored}
use Rattle.store.specs.Fresh.{fresh}
use Rattle.frame.specs.Frame.{data_of}
use Rattle.rules.specs.Asked.{Asked, Held}
use Rattle.rules.specs.Answer.{answer}
use Rattle.rules.specs.System.{system_write, fill}
use Rattle.demands.specs.Tables.{set_to}
use Rattle.demands.specs.Brought.{brought, Unnamed, operation, ActedOn}

-- ---- a request

abbrev pub RequestLeavesWhatItBrings : Type 0
RequestLeavesWhatItBrings = (b : Build) (a : Asked) (h : Held) (r : List ℕ) → (answer b a h r).outcome ≡ 0 → ActedOn b a h r (answer b a h r)

-- a parameter that it does not name
abbrev pub UnnamedIsKept : Type 0
UnnamedIsKept = (b : Build) (a : Asked) (h : Held) (r : List ℕ) (i l k : ℕ) → l < logicals b i
    → Unnamed (brought b (operation a) h (data_of a.frame)) i l k → value b (answer b a h r).store i l k ≡ value b h.store i l k

-- one that it names holds the last of the values for it
abbrev pub NamedHoldsLast : Type 0
NamedHoldsLast = (b : Build) (a : Asked) (h : Held) (r : List ℕ) (i l k : ℕ) → l < logicals b i
    → (answer b a h r).outcome ≡ 0 → (later : List Write) (w : Write) (ws : List Write)
    → brought b (operation a) h (data_of a.frame) ≡ later ++ w ∷ ws → Names w i l k → Unnamed later i l k
    → value b (answer b a h r).store i l k ≡ w.bytes

-- one that is read-only, the size of logical 0 of type 124 among them
abbrev pub ReadOnlyIsKept : Type 0
ReadOnlyIsKept = (b : Build) (a : Asked) (h : Held) (r : List ℕ) (i l k : ℕ) → l < logicals b i
    → locked_at (row i k).access l ≡ true → value b (answer b a h r).store i l k ≡ value b h.store i l k

-- one whose write level is above the request's
abbrev pub OutOfReachIsKept : Type 0
OutOfReachIsKept = (b : Build) (a : Asked) (h : Held) (r : List ℕ) (i l k : ℕ) → l < logicals b i
    → a.level < (point i).writes → value b (answer b a h r).store i l k ≡ value b h.store i l k

-- ---- a system write

abbrev pub SystemWriteStoresValue : Type 0
SystemWriteStoresValue = (b : Build) (s : List ℕ) (t l k : ℕ) (v : List ℕ) → (system_write b s t l k v).outcome ≡ 0
    → (system_write b s t l k v).store ≡ stored b s (set_to t l k v ∷ [])

abbrev pub SystemWriteHoldsValue : Type 0
SystemWriteHoldsValue = (b : Build) (s : List ℕ) (t l k : ℕ) (v : List ℕ) → (system_write b s t l k v).outcome ≡ 0
    → value b (system_write b s t l k v).store (index_of t) l k ≡ v

abbrev pub SystemWriteKeepsRest : Type 0
SystemWriteKeepsRest = (b : Build) (s : List ℕ) (t l k : ℕ) (v : List ℕ) (i m n : ℕ) → m < logicals b i → (Names (set_to t l k v) i m n → ⊥)
    → value b (system_write b s t l k v).store i m n ≡ value b s i m n

-- ---- a fill

abbrev pub FillLeavesDefaults : Type 0
FillLeavesDefaults = (b : Build) (s : List ℕ) → length s ≡ store_size b → fill b s ≡ record { outcome = 0; store = fresh b }

-- No level learns what it may not read, and that this says something: two pairs of stores that a level does not tell apart and the next does.
-- Assumes nothing.
use Rattle.std.specs.Prelude.{ℕ, ◌≤◌, ◌<◌, ◌≡◌, List, [], ◌∷◌, length, replicate}
use Rattle.base.specs.Lists.{All}
use Rattle.points.specs.Types.{Build, point, index_of, gateway}
use Rattle.points.specs.Place.{place_of, store_size}
use Rattle.store.specs.Store.{value, Write, storing}
use Rattle.store.specs.Fresh.{fresh}
use Rattle.store.proofs.Laws.{Sound}
use Rattle.frame.specs.Address.{address}
use Rattle.frame.specs.Frame.{longest, frame_of}
use Rattle.rules.specs.Asked.{Held}
use Rattle.rules.specs.Agree.{Agree}
use Rattle.demands.specs.Calls.{Call, asks, call, run, Within, Alike, Untold, Secret}
use Rattle.demands.specs.Found.{There}

-- ---- what is not told

abbrev pub CallTellsNothing : Type 0
CallTellsNothing = (b : Build) (K : ℕ) (h g : Held) → Alike b K h g → (x : Call) → Within K x → Untold b K (call b h x) (call b g x)

abbrev pub RunTellsNothing : Type 0
RunTellsNothing = (b : Build) (K : ℕ) (h g : Held) → Alike b K h g → (cs : List Call) → All (Within K) cs → Secret b K h g cs

-- it is enough that the stores agree wherever a request finds a parameter
abbrev pub AgreementByNumber : Type 0
AgreementByNumber = (b : Build) (K : ℕ) (s t : List ℕ)
    → ((y l k : ℕ) → There (place_of b y l k) → (point (index_of y)).reads ≤ K → value b s (index_of y) l k ≡ value b t (index_of y) l k)
    → Agree b K s t

-- ---- a value stored where level K may not read

abbrev pub HiddenValueIsUnseen : Type 0
HiddenValueIsUnseen = (b : Build) (K : ℕ) (s : List ℕ) (w : Write) → length s ≡ store_size b → Sound b w → K < (point w.type).reads
    → Agree b K s (storing b s w)

-- at 2000-01-01 00:00:00
abbrev pub start : List ℕ → Held
start s = record { store = s; clock = 0 ∷ 0 ∷ 0 ∷ 1 ∷ 1 ∷ 208 ∷ 7 ∷ [] }

-- a fresh store, but for one value
abbrev pub fresh_but : Write → List ℕ
fresh_but w = storing gateway (fresh gateway) w

abbrev pub HiddenValueIsUntold : Type 0
HiddenValueIsUntold = (K : ℕ) (w : Write) → Sound gateway w → K < (point w.type).reads → (cs : List Call) → All (Within K) cs
    → (run gateway (start (fresh gateway)) cs).seen ≡ (run gateway (start (fresh_but w)) cs).seen

-- ---- one level more tells the two stores apart

-- the address 1,2 is asked by 3,1 for one parameter
abbrev pub asking : (level t l k : ℕ) → Call
asking level t l k =
    asks (record { frame = frame_of (address 1 2) (address 3 1) 180 (1 ∷ t ∷ l ∷ k ∷ []); us = address 1 2; level = level }) (replicate longest 170)

abbrev pub Tells : Write → Call → Type 0
Tells w x = (run gateway (start (fresh gateway)) (x ∷ [])).seen ≡ (run gateway (start (fresh_but w)) (x ∷ [])).seen → ⊥

-- twenty letters S in the first text of type 123, which level 2 reads
abbrev pub lettered : Write
lettered = record { type = 4; logical = 0; parameter = 0; bytes = replicate 20 83 }

abbrev pub TextHiddenAtLevel1 : Type 0
TextHiddenAtLevel1 = Alike gateway 1 (start (fresh gateway)) (start (fresh_but lettered))

abbrev pub TextToldAtLevel2 : Type 0
TextToldAtLevel2 = Tells lettered (asking 2 123 0 0)

-- the power switch of type 122 off, which level 1 reads
abbrev pub switched : Write
switched = record { type = 3; logical = 0; parameter = 0; bytes = 0 ∷ [] }

abbrev pub SwitchHiddenAtLevel0 : Type 0
SwitchHiddenAtLevel0 = Alike gateway 0 (start (fresh gateway)) (start (fresh_but switched))

abbrev pub SwitchToldAtLevel1 : Type 0
SwitchToldAtLevel1 = Tells switched (asking 1 122 0 0)

-- so the stores of each pair differ
abbrev pub StoresDiffer : Type 0
StoresDiffer = (w : Write) (cs : List Call) → ((run gateway (start (fresh gateway)) cs).seen ≡ (run gateway (start (fresh_but w)) cs).seen → ⊥)
    → fresh gateway ≡ fresh_but w → ⊥

-- The examples of docs/RULES.md, "Examples on both sides": one list, and what is proved of it.
-- Assumes nothing.
use Rattle.std.specs.Prelude.{ℕ, ◌<◌, ◌≡◌, true, false, List, [], ◌∷◌, map, length, get_or}
use Rattle.examples.specs.Cases.{Seen, Case, asks, ticks, dates, seen, wanted}

-- an acknowledgment, after which the parameter holds v
abbrev acted : ℕ → List ℕ → Seen
acted op v = record { outcome = 0; says = op ∷ []; holds = v; kept = false }

-- a reply with data d
abbrev replied : ℕ → List ℕ → List ℕ → Seen
replied op d v = record { outcome = 0; says = op ∷ d; holds = v; kept = true }

-- an error frame, and nothing stored
abbrev refused : ℕ → ℕ → List ℕ → Seen
refused number place v = record { outcome = number; says = 255 ∷ number ∷ place ∷ []; holds = v; kept = true }

-- a clock with its weekday
abbrev shows : List ℕ → Seen
shows c = record { outcome = 0; says = []; holds = c; kept = true }

unfoldable pub examples : List Case
examples =
    -- 2023-02-28 23:59:59 becomes 2023-03-01, weekday 4
    ticks (59 ∷ 59 ∷ 23 ∷ 28 ∷ 2 ∷ 231 ∷ 7 ∷ []) (shows (0 ∷ 0 ∷ 0 ∷ 1 ∷ 3 ∷ 231 ∷ 7 ∷ 4 ∷ []))
    -- 2024-02-28 23:59:59 becomes the 29th, weekday 5
    ∷ ticks (59 ∷ 59 ∷ 23 ∷ 28 ∷ 2 ∷ 232 ∷ 7 ∷ []) (shows (0 ∷ 0 ∷ 0 ∷ 29 ∷ 2 ∷ 232 ∷ 7 ∷ 5 ∷ []))
    -- 2000-01-01 is weekday 7
    ∷ dates (0 ∷ 0 ∷ 0 ∷ 1 ∷ 1 ∷ 208 ∷ 7 ∷ []) (shows (0 ∷ 0 ∷ 0 ∷ 1 ∷ 1 ∷ 208 ∷ 7 ∷ 7 ∷ []))
    -- 167, 98 0 1 23 gives 98 0 1 23 0 0
    ∷ asks 0 167 (98 ∷ 0 ∷ 1 ∷ 23 ∷ []) 98 0 23 (replied 167 (98 ∷ 0 ∷ 1 ∷ 23 ∷ 0 ∷ 0 ∷ []) (0 ∷ 0 ∷ []))
    -- 180, 1 124 0 7 gives 1 124 0 7 60
    ∷ asks 0 180 (1 ∷ 124 ∷ 0 ∷ 7 ∷ []) 124 0 7 (replied 180 (1 ∷ 124 ∷ 0 ∷ 7 ∷ 60 ∷ []) (60 ∷ []))
    -- 166, level 2, 124 0 1 1 240 0: 26, place 4
    ∷ asks 2 166 (124 ∷ 0 ∷ 1 ∷ 1 ∷ 240 ∷ 0 ∷ []) 124 0 1 (refused 26 4 (240 ∷ 0 ∷ []))
    -- 124 1 1 1 240 0: acted on
    ∷ asks 2 166 (124 ∷ 1 ∷ 1 ∷ 1 ∷ 240 ∷ 0 ∷ []) 124 1 1 (acted 166 (240 ∷ 0 ∷ []))
    -- .. 241 0: 27, place 4
    ∷ asks 2 166 (124 ∷ 1 ∷ 1 ∷ 1 ∷ 241 ∷ 0 ∷ []) 124 1 1 (refused 27 4 (0 ∷ 0 ∷ []))
    -- level 1: 25, place 0
    ∷ asks 1 166 (124 ∷ 1 ∷ 1 ∷ 1 ∷ 240 ∷ 0 ∷ []) 124 1 1 (refused 25 0 (0 ∷ 0 ∷ []))
    -- 166, level 2, 124 1 1 7 6: acted on
    ∷ asks 2 166 (124 ∷ 1 ∷ 1 ∷ 7 ∷ 6 ∷ []) 124 1 7 (acted 166 (6 ∷ []))
    -- .. 7: 27, place 4
    ∷ asks 2 166 (124 ∷ 1 ∷ 1 ∷ 7 ∷ 7 ∷ []) 124 1 7 (refused 27 4 (60 ∷ []))
    -- 181, level 1, 2 98 0 33 5 98 0 33 9: the byte is 9
    ∷ asks 1 181 (2 ∷ 98 ∷ 0 ∷ 33 ∷ 5 ∷ 98 ∷ 0 ∷ 33 ∷ 9 ∷ []) 98 0 33 (acted 181 (9 ∷ []))
    -- 2 98 0 33 5 98 0 62 9: 24, place 7, nothing stored
    ∷ asks 1 181 (2 ∷ 98 ∷ 0 ∷ 33 ∷ 5 ∷ 98 ∷ 0 ∷ 62 ∷ 9 ∷ []) 98 0 33 (refused 24 7 (0 ∷ []))
    -- 166, level 1, 98 0 1 1 0 0 128 127 (infinity): 27
    ∷ asks 1 166 (98 ∷ 0 ∷ 1 ∷ 1 ∷ 0 ∷ 0 ∷ 128 ∷ 127 ∷ []) 98 0 1 (refused 27 4 (0 ∷ 0 ∷ 0 ∷ 0 ∷ []))
    -- .. 0 0 0 128 (minus zero): acted on
    ∷ asks 1 166 (98 ∷ 0 ∷ 1 ∷ 1 ∷ 0 ∷ 0 ∷ 0 ∷ 128 ∷ []) 98 0 1 (acted 166 (0 ∷ 0 ∷ 0 ∷ 128 ∷ []))
    -- 10, 0 1 1: 22, place 1
    ∷ asks 0 10 (0 ∷ 1 ∷ 1 ∷ []) 99 0 1 (refused 22 1 (0 ∷ 0 ∷ 0 ∷ []))
    ∷ []

-- what stands where the list has no place
abbrev pub no_case : Case
no_case = dates [] (shows [])

-- ---- what the definitions give for each is what it shows

abbrev pub AllAreSeen : Type 0
AllAreSeen = map seen examples ≡ map wanted examples

-- each by itself: a place in the list names it
abbrev pub EachIsSeen : Type 0
EachIsSeen = (i : ℕ) → i < length examples → seen (get_or examples i no_case) ≡ wanted (get_or examples i no_case)

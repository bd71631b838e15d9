-- How every call ends: with an outcome that is listed for it, and with each exactly where its table gives it.
-- Assumes nothing.
use Rattle.std.specs.Prelude.{ℕ, ◌≡◌, ◌↔◌, List, [], ◌∷◌, length}
use Rattle.points.specs.Types.{Build}
use Rattle.values.specs.Number.{number_read, reading_of, raw_read, telling}
use Rattle.rules.specs.Asked.{Asked, Held}
use Rattle.rules.specs.Answer.{answer}
use Rattle.rules.specs.System.{system_write, fill, ticking}
use Rattle.demands.specs.Table.{Gives}
use Rattle.demands.specs.Tables.{request_table, system_table, number_table, fill_table, tick_table}
use Rattle.demands.specs.Outcomes.{Listed, Among, reading_outcome}

-- ---- an outcome that is listed

abbrev pub RequestEndsAsListed : Type 0
RequestEndsAsListed = (b : Build) (a : Asked) (h : Held) (r : List ℕ) → Listed (answer b a h r).outcome

abbrev pub SystemWriteEndsAsListed : Type 0
SystemWriteEndsAsListed = (b : Build) (s : List ℕ) (t l k : ℕ) (v : List ℕ)
    → Among (0 ∷ 2 ∷ 22 ∷ 23 ∷ 24 ∷ 21 ∷ 27 ∷ []) (system_write b s t l k v).outcome

abbrev pub NumberReadEndsAsListed : Type 0
NumberReadEndsAsListed = (b : Build) (s : List ℕ) (t l k : ℕ)
    → Among (0 ∷ 2 ∷ 22 ∷ 23 ∷ 24 ∷ 27 ∷ []) (reading_outcome (reading_of (number_read b s t l k)))

abbrev pub RawReadEndsAsListed : Type 0
RawReadEndsAsListed = (b : Build) (s : List ℕ) (t l k kind bits : ℕ)
    → Among (0 ∷ 2 ∷ 22 ∷ 23 ∷ 24 ∷ 27 ∷ []) (telling kind bits (raw_read b s t l k)).outcome

abbrev pub FillEndsAsListed : Type 0
FillEndsAsListed = (b : Build) (s : List ℕ) → Among (0 ∷ 2 ∷ []) (fill b s).outcome

abbrev pub TickEndsAsListed : Type 0
TickEndsAsListed = (c : List ℕ) → Among (0 ∷ 3 ∷ []) (ticking c).outcome

-- ---- exactly where the table gives it

abbrev pub RequestEndsByItsTable : Type 0
RequestEndsByItsTable = (b : Build) (a : Asked) (h : Held) (r : List ℕ) (n : ℕ)
    → ((answer b a h r).outcome ≡ n) ↔ Gives (request_table b a h (length r)) n

abbrev pub SystemWriteEndsByItsTable : Type 0
SystemWriteEndsByItsTable = (b : Build) (s : List ℕ) (t l k : ℕ) (v : List ℕ) (n : ℕ)
    → ((system_write b s t l k v).outcome ≡ n) ↔ Gives (system_table b s t l k v) n

abbrev pub NumberReadEndsByItsTable : Type 0
NumberReadEndsByItsTable = (b : Build) (s : List ℕ) (t l k n : ℕ)
    → (reading_outcome (reading_of (number_read b s t l k)) ≡ n) ↔ Gives (number_table b s t l k) n

abbrev pub RawReadEndsByItsTable : Type 0
RawReadEndsByItsTable = (b : Build) (s : List ℕ) (t l k kind bits n : ℕ)
    → ((telling kind bits (raw_read b s t l k)).outcome ≡ n) ↔ Gives (number_table b s t l k) n

abbrev pub FillEndsByItsTable : Type 0
FillEndsByItsTable = (b : Build) (s : List ℕ) (n : ℕ) → ((fill b s).outcome ≡ n) ↔ Gives (fill_table b s) n

abbrev pub TickEndsByItsTable : Type 0
TickEndsByItsTable = (c : List ℕ) (n : ℕ) → ((ticking c).outcome ≡ n) ↔ Gives (tick_table c) n

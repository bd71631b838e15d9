-- Outcomes: every call ends with one that the rules list for it.
-- Assumes nothing.
use Prim.Native.Nat.{ℕ, zero, suc, ◌+◌}
use native.Mathlib.Omega.{arith}
use mathlib.Core.Path.{◌≡◌, refl, sym, ◌∙◌}
use mathlib.Core.Logic.{inl, inr}
use mathlib.Core.List.{List, [], ◌∷◌, ◌++◌, map}
use lib.ListN.{length, get_or, drop}
use Rattle.base.specs.Check.{fault}
use Rattle.base.specs.Lists.{All}
use Rattle.points.specs.Types.{Build, Point, point, index_of}
use Rattle.store.specs.Store.{Write}
use Rattle.frame.specs.Frame.{opcode, data_of}
use Rattle.rules.specs.Asked.{Asked, Held}
use Rattle.rules.specs.Received.{received}
use Rattle.rules.specs.Deeds.{Piece}
use Rattle.rules.specs.Entries.{Caller, request, Source, block, named, located, spoken, after, locked_place}
use Rattle.rules.specs.Lists.{read_level, write_level}
use Rattle.rules.specs.Opcodes.{Opcode, read7, set8, read10, write11, write166, read167, read180, write181, unserved, opcode_of}
use Rattle.rules.specs.Answer.{Answer, planned}
use Rattle.rules.proofs.Answered.{Answered, unheard, refused, acted, answered}
use Rattle.demands.specs.Table.{Refusal, First, Gives}
use Rattle.demands.specs.Rows.{entry_table, name_of, value_table, read_table, write_table}
use Rattle.demands.specs.Tables.{received_table, span_table, locate_table, count_table, plan_table, system_table, number_table, fill_table, tick_table}
use Rattle.demands.specs.Outcomes.{Silent, Faulted, Listed, Among}
use Rattle.demands.specs.Endings.{RequestEndsAsListed, SystemWriteEndsAsListed, NumberReadEndsAsListed, RawReadEndsAsListed, FillEndsAsListed, TickEndsAsListed}
use Rattle.demands.proofs.Says.{given_first, first_has, blank}
use Rattle.demands.proofs.Tabled.{received-says}
use Rattle.demands.proofs.Planned.{plan-says}
use Rattle.demands.proofs.Exactly.{system_exactly, number_exactly, raw_exactly, fill_exactly, tick_exactly}

-- each row of a table has a number with P
record Numbers (P : ℕ → Type 0) (rs : List Refusal) : Type 0 where
  each : All (λ r. P r.number) rs

-- ---- requests

faulted_join : (rs : List Refusal) {qs : List Refusal} → Numbers Faulted rs → Numbers Faulted qs → Numbers Faulted (rs ++ qs)
faulted_join rs {qs} x y = record { each = go rs x.each }
  where
    go : (rs : List Refusal) → All (λ r. Faulted r.number) rs → All (λ r. Faulted r.number) (rs ++ qs)
    go [] x = y.each
    go (r ∷ rs) x = (x.0, go rs x.1)

received-numbers : (b : Build) (a : Asked) (h : Held) (r : ℕ) → Numbers Silent (received_table b a h r)
received-numbers b a h r = omega arith

entry-numbers : (b : Build) (level : Point → ℕ) (who : Caller) (src : Source) (d : List ℕ) (at : ℕ) → Numbers Faulted (entry_table b level who src d at)
entry-numbers b level who (block i l k) d at = omega arith
entry-numbers b level who named d at = omega arith
entry-numbers b level who (located bs) d at = omega arith

read_numbers : (b : Build) (who : Caller) (src : Source) (n : ℕ) (d : List ℕ) (at : ℕ) (ps : List Piece) → Numbers Faulted (read_table b who src n d at ps)
unfolding read_table
read_numbers b who src zero d at ps = omega arith
read_numbers b who src (suc n) d at ps =
    faulted_join (entry_table b read_level who src d at) (entry-numbers b read_level who src d at) (read_numbers b who (after src) n _ _ _)

write-numbers : (b : Build) (who : Caller) (s : List ℕ) (src : Source) (n : ℕ) (d : List ℕ) (at : ℕ) (ws : List Write) → Numbers Faulted (write_table b who s src n d at ws)
unfolding write_table
write-numbers b who s src zero d at ws = omega arith
write-numbers b who s src (suc n) d at ws =
    faulted_join (entry_table b write_level who src d at) (entry-numbers b write_level who src d at)
    (faulted_join (value_table b who s ws (name_of src d) (drop (spoken src) d) (locked_place src at) (at + spoken src)) (omega arith)
    (write-numbers b who s (after src) n _ _ _))

plan-numbers : (b : Build) (L : ℕ) (h : Held) (d : List ℕ) (o : Opcode) → Numbers Faulted (plan_table b o L h d)
unfolding plan_table
plan-numbers b L h d read7 = omega arith
plan-numbers b L h d set8 = omega arith
plan-numbers b L h d read10 = faulted_join (locate_table b d) (omega arith) (read_numbers b (request L) _ (get_or d 2 0) _ _ _)
plan-numbers b L h d write11 = faulted_join (locate_table b d) (omega arith) (write-numbers b (request L) h.store _ (get_or d 2 0) _ _ _)
plan-numbers b L h d write166 =
    faulted_join (span_table b (request L) (point (index_of (get_or d 0 0))).writes d) (omega arith) (write-numbers b (request L) h.store _ (get_or d 2 0) _ _ _)
plan-numbers b L h d read167 = omega arith
plan-numbers b L h d read180 = faulted_join (count_table d) (omega arith) (read_numbers b (request L) named (get_or d 0 0) _ _ _)
plan-numbers b L h d write181 = faulted_join (count_table d) (omega arith) (write-numbers b (request L) h.store named (get_or d 0 0) _ _ _)
plan-numbers b L h d unserved = omega arith

pub silent-number : (b : Build) (a : Asked) (h : Held) (r n p : ℕ) → received b a h r ≡ fault n p → Silent n
unfolding blank
silent-number b a h r n p e =
    first_has Silent n p (received_table b a h r) (received-numbers b a h r).each (given_first _ (sym (received-says b a h r).says ∙ rw e))

pub faulted-number : (b : Build) (a : Asked) (h : Held) (n p : ℕ) → planned b a h ≡ fault n p → Faulted n
unfolding blank
faulted-number b a h n p e =
    let o = opcode_of (opcode a.frame) in
    let d = data_of a.frame in
    first_has Faulted n p (plan_table b o a.level h d) (plan-numbers b a.level h d o).each (given_first _ (sym (plan-says b a.level h d o).says ∙ rw e))

pub listed : RequestEndsAsListed
listed b a h r = go (answered b a h r)
  where
    go : {x : Answer} → Answered b a h r x → Listed x.outcome
    go (unheard e) = inr (inl (silent-number b a h (length r) _ _ e))
    go (refused k e) = inr (inr (faulted-number b a h _ _ e))
    go (acted k e l) = inl refl

-- ---- the calls that no frame reaches

-- the numbers of a table, with 0 in front, are all that it gives
among-table : (rs : List Refusal) (n : ℕ) → Gives rs n → Among (0 ∷ map (λ r. r.number) rs) n
among-table rs n (inl x) = inl x.1
among-table rs n (inr x) = inr (go rs x.1)
  where
    go : (qs : List Refusal) → First qs n x.0 → Among (map (λ r. r.number) qs) n
    go [] x3 = elim x3 [ ]
    go (q ∷ qs) (inl e) = inl (sym e.1)
    go (q ∷ qs) (inr e) = inr (go qs e.1)

pub system_listed : SystemWriteEndsAsListed
system_listed b s t l k v = among-table (system_table b s t l k v) _ ((system_exactly b s t l k v _).0 refl)

pub number-listed : NumberReadEndsAsListed
number-listed b s t l k = among-table (number_table b s t l k) _ ((number_exactly b s t l k _).0 refl)

pub raw-listed : RawReadEndsAsListed
raw-listed b s t l k kind bits = among-table (number_table b s t l k) _ ((raw_exactly b s t l k kind bits _).0 refl)

pub fill-listed : FillEndsAsListed
fill-listed b s = among-table (fill_table b s) _ ((fill_exactly b s _).0 refl)

pub tick-listed : TickEndsAsListed
tick-listed c = among-table (tick_table c) _ ((tick_exactly c _).0 refl)

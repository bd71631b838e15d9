-- Refusals: an outcome comes exactly where its row is the first of the call's table that applies.
-- Assumes nothing.
use native.Mathlib.Omega.{arith}
use Rattle.std.proofs.lemmas.Grind.{common_steps}
use Prim.Native.Nat.{ℕ}
use mathlib.Core.Path.{◌≡◌, refl, sym, ◌∙◌}
use mathlib.Core.Logic.{inl, inr, ◌↔◌}
use mathlib.Core.List.{List}
use lib.ListN.{length}
use Rattle.base.specs.Check.{Check, fault, pass, ◌>>=◌}
use Rattle.points.specs.Types.{Build}
use Rattle.frame.specs.Frame.{opcode, data_of}
use Rattle.values.specs.Number.{number_read, reading_of, raw_read, telling}
use Rattle.rules.specs.Asked.{Asked, Held}
use Rattle.rules.specs.Received.{received}
use Rattle.rules.specs.Opcodes.{opcode_of}
use Rattle.rules.specs.Answer.{Answer, planned, answer}
use Rattle.rules.specs.System.{setting, Left, leaving, system_write, fill, Passed, ticking}
use Rattle.rules.proofs.Answered.{Answered, unheard, refused, acted, answered, Filled, filled_up, unfilled, filled, Moved, moved_on, stopped, moved}
use Rattle.demands.specs.Table.{Refusal, first_of, First, Gives}
use Rattle.demands.specs.Tables.{received_table, plan_table, request_table, system_table, fill_table, tick_table, number_table}
use Rattle.demands.specs.Outcomes.{reading_outcome}
use Rattle.demands.specs.Endings.{SystemWriteEndsByItsTable, NumberReadEndsByItsTable, RawReadEndsByItsTable, FillEndsByItsTable, TickEndsByItsTable}
use Rattle.demands.proofs.Says.{first_given, given_first, none_given, given_none, join_first, Says, blank}
use Rattle.demands.proofs.Tabled.{received-says}
use Rattle.demands.proofs.Planned.{plan-says}
use Rattle.demands.proofs.Unframed.{setting-says, number-says, raw-says}

-- ---- a table gives one number

gives_one : (rs : List Refusal) (m n : ℕ) → Gives rs m → Gives rs n → m ≡ n
gives_one = grind (arith, common_steps, first_given, none_given)

-- so an outcome that a table gives is n exactly where the table gives n
by_table : (rs : List Refusal) (m n : ℕ) → Gives rs m → (m ≡ n) ↔ Gives rs n
by_table rs m n g = ((λ e. rw e at g), gives_one rs m n g)

-- ---- requests

module _ (b : Build) (a : Asked) (h : Held) (r : List ℕ) where
  abbrev table : List Refusal
  table = request_table b a h (length r)

  plan_table_lem : blank (planned b a h) ≡ first_of (plan_table b (opcode_of (opcode a.frame)) a.level h (data_of a.frame))
  plan_table_lem = (plan-says b a.level h (data_of a.frame) (opcode_of (opcode a.frame))).says

  -- the table's two parts, one after the other
  parts : first_of table ≡ (blank (received b a h (length r)) >>= λ _. blank (planned b a h))
  parts = join_first (received_table b a h (length r)) _ ∙ rw (← plan_table_lem, ← (received-says b a h (length r)).says)

  -- the place of the row that refuses
  unheard_row : {n p : ℕ} → received b a h (length r) ≡ fault n p → First table n p
  unfolding blank ◌>>=◌
  unheard_row e = given_first table (parts ∙ rw e)

  pub refused-row : {n p : ℕ} → received b a h (length r) ≡ pass tt → planned b a h ≡ fault n p → First table n p
  unfolding blank ◌>>=◌
  refused-row k e = given_first table (parts ∙ rw (k, e))

  answered-gives : {x : Answer} → Answered b a h r x → Gives table x.outcome
  unfolding blank ◌>>=◌
  answered-gives (unheard e) = inr (_, unheard_row e)
  answered-gives (refused k e) = inr (_, refused-row k.passed e)
  answered-gives (acted k e l) = let x = k.passed in inl (given_none table (parts ∙ rw (x, e)), refl)

  request_gives : Gives table (answer b a h r).outcome
  request_gives = answered-gives (answered b a h r)

  pub exactly : (n : ℕ) → ((answer b a h r).outcome ≡ n) ↔ Gives (request_table b a h (length r)) n
  exactly n = by_table table _ n request_gives

-- ---- the calls that no frame reaches

check-gives : {A : Type 0} (c : Check A) (rs : List Refusal) → Says c rs → (outcome : Check A → ℕ) → ((n p : ℕ) → outcome (fault n p) ≡ n)
    → ((a : A) → outcome (pass a) ≡ 0) → Gives rs (outcome c)
unfolding blank
check-gives (fault n p) rs s f x y = inr (p, rw (x n p) (given_first rs (sym s.says)))
check-gives (pass a) rs s f x y = inl (given_none rs (sym s.says), y a)

system_gives : (b : Build) (s : List ℕ) (t l k : ℕ) (v : List ℕ) → Gives (system_table b s t l k v) (system_write b s t l k v).outcome
unfolding system_write leaving
system_gives b s t l k v =
    check-gives (setting b s t l k v) _ (setting-says b s t l k v) (λ c. (leaving b s c).outcome) (λ n p. refl) (λ ws. refl)

number-gives : (b : Build) (s : List ℕ) (t l k : ℕ) → Gives (number_table b s t l k) (reading_outcome (reading_of (number_read b s t l k)))
unfolding reading_of
number-gives b s t l k =
    check-gives (number_read b s t l k) _ (number-says b s t l k) (λ c. reading_outcome (reading_of c)) (λ n p. refl) (λ x. refl)

raw-gives : (b : Build) (s : List ℕ) (t l k kind bits : ℕ) → Gives (number_table b s t l k) (telling kind bits (raw_read b s t l k)).outcome
unfolding telling
raw-gives b s t l k kind bits =
    check-gives (raw_read b s t l k) _ (raw-says b s t l k) (λ c. (telling kind bits c).outcome) (λ n p. refl) (λ x. refl)

fill_gives : (b : Build) (s : List ℕ) → Gives (fill_table b s) (fill b s).outcome
fill_gives b s = go (filled b s)
  where
    go : {x : Left} → Filled b s x → Gives (fill_table b s) x.outcome
    go (filled_up e) = inl ((e, tt), refl)
    go (unfilled e) = inr (0, inl (e, refl, refl))

tick_gives : (c : List ℕ) → Gives (tick_table c) (ticking c).outcome
tick_gives c = go (moved c)
  where
    go : {x : Passed} → Moved c x → Gives (tick_table c) x.outcome
    go (moved_on e) = inl ((e, tt), refl)
    go (stopped e) = inr (0, inl (e, refl, refl))

pub system_exactly : SystemWriteEndsByItsTable
system_exactly b s t l k v n = by_table (system_table b s t l k v) _ n (system_gives b s t l k v)

pub number_exactly : NumberReadEndsByItsTable
number_exactly b s t l k n = by_table (number_table b s t l k) _ n (number-gives b s t l k)

pub raw_exactly : RawReadEndsByItsTable
raw_exactly b s t l k kind bits n = by_table (number_table b s t l k) _ n (raw-gives b s t l k kind bits)

pub fill_exactly : FillEndsByItsTable
fill_exactly b s n = by_table (fill_table b s) _ n (fill_gives b s)

pub tick_exactly : TickEndsByItsTable
tick_exactly c n = by_table (tick_table c) _ n (tick_gives c)

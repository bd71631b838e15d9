-- What a plan that passed its checks keeps to, for each opcode: it tells what its level may read, and stores what has its place, is in
-- range and may be written. The same of a system write.
-- Assumes nothing.
use Prim.Native.Nat.{ℕ, ◌+◌, ◌≤◌}
use native.Mathlib.Omega.{arith}
use mathlib.Core.Path.{◌≡◌, refl}
use mathlib.Core.List.{List, [], ◌∷◌}
use borrow.Author.Tests.{leb-true}
use lib.ListN.{length, get_or, take, length-append}
use lib.Seq.{length-take-le}
use Rattle.base.specs.Check.{pass, ◌>>=◌}
use Rattle.base.specs.Lists.{All}
use Rattle.base.proofs.Checks.{Holds, faulty, passing, step, step_with, step-test}
use Rattle.points.specs.Types.{Build, points, point, height, index_of, tables}
use Rattle.rules.specs.Asked.{Held}
use Rattle.rules.specs.Deeds.{Piece, Deeds, plain, held, sizes}
use Rattle.rules.specs.Entries.{Source, request, system}
use Rattle.rules.specs.Opcodes.{telling, keeping, plan7, plan8, plan167, plan166, plan180, plan181, plan10, plan11, Opcode, read7, set8, read10, write11, write166, read167, read180, write181, unserved, plan}
use Rattle.rules.specs.System.{setting}
use Rattle.rules.proofs.Agree.{tables_open}
use Rattle.rules.proofs.Told.{Readable}
use Rattle.rules.specs.Lists.{read_level, write_level, fitting, reading, writing}
use Rattle.rules.proofs.Found.{finds, Ready, spans-finds, locates-known}
use Rattle.rules.proofs.Walks.{reading-tells, Puts, nothing, writing-puts}

pub record Lawful (b : Build) (L : ℕ) (h : Held) (d : Deeds) : Type 0 where
  pub says : All (Readable b L) d.says
  pub puts : Puts b (request L) h.store d.puts
  -- a clock is seven bytes
  pub short : length h.clock ≡ 7 → sizes d.says ≤ 255
  pub clock : length h.clock ≡ 7 → length d.clock ≡ 7

-- the table's revision is told too
tables_tall : 1 ≤ height (point tables)
unfolding point points
tables_tall = omega arith

module _ (b : Build) (L : ℕ) (h : Held) (d : List ℕ) where
  -- what is planned once a list is read, or written
  lawful-reading : (src : Source) (n : ℕ) (e : List ℕ) (at : ℕ) (ps : List Piece) → Ready b read_level (request L) src n → All (Readable b L) ps
      → Holds (Lawful b L h) (reading b (request L) src n e at ps >>= λ qs. pass (telling h qs))
  lawful-reading src n e at ps ready o =
      step_with (reading-tells b L src n e at ps ready o) λ qs r.
      passing (record { says = r.readable; puts = nothing b (request L) h.store; short = λ _. r.short; clock = λ c. c })

  lawful-writing : (src : Source) (n : ℕ) (e : List ℕ) (at : ℕ) → Ready b write_level (request L) src n
      → Holds (Lawful b L h) (writing b (request L) h.store src n e at [] >>= λ ws. pass (keeping h ws))
  lawful-writing src n e at ready =
      step_with (writing-puts b (request L) h.store src n e at [] ready (nothing b (request L) h.store)) λ ws c.
      passing (record { says = tt; puts = c; short = λ _. omega arith; clock = λ c. c })

  lawful7 : Holds (Lawful b L h) (plan7 h d)
  unfolding plan7
  lawful7 =
      step _ λ _.
      passing (record { says = (tt, tt); puts = nothing b (request L) h.store; short = λ e. simp length-append (omega arith); clock = λ e. e })

  lawful8 : Holds (Lawful b L h) (plan8 L d)
  unfolding plan8
  lawful8 =
      step-test _ _ λ long. step _ λ _. step _ λ _. step _ λ _. step _ λ _. step _ λ _. step _ λ _. step _ λ _. step _ λ _.
      passing (record { says = tt; puts = nothing b (request L) h.store; short = λ e. omega arith; clock = λ e. length-take-le 7 d (leb-true _ _ long) })

  lawful167 : Holds (Lawful b L h) (plan167 b L h d)
  unfolding plan167 fitting
  lawful167 =
      step_with (spans-finds b d) λ _ e. step-test _ _ λ lv. step _ λ _. step-test _ _ λ fit.
      let room : get_or d 3 0 + get_or d 2 0 ≤ height (point (index_of (get_or d 0 0))) = omega (arith, e.parameter) in
      passing (record { says = ((e.logical, room, leb-true _ _ lv), (tt, tt)); puts = nothing b (request L) h.store; short = λ _. leb-true _ _ fit; clock = λ c. c })

  lawful166 : Holds (Lawful b L h) (plan166 b L h d)
  unfolding plan166
  lawful166 = step_with (spans-finds b d) λ _ e. step-test _ _ λ lv. lawful-writing _ _ _ _ (e.logical, omega (arith, e.parameter), lv)

  lawful180 : Holds (Lawful b L h) (plan180 b L h d)
  unfolding plan180
  lawful180 = step _ λ _. lawful-reading _ _ _ _ _ tt (tt, tt)

  lawful181 : Holds (Lawful b L h) (plan181 b L h d)
  unfolding plan181
  lawful181 = step _ λ _. lawful-writing _ _ _ _ tt

  lawful10 : Holds (Lawful b L h) (plan10 b L h d)
  unfolding plan10
  lawful10 =
      step_with (locates-known b d) λ _ known.
      let revision : All (Readable b L) (held tables (get_or d 0 0) 0 1 ∷ plain (take 3 d) ∷ []) = ((known, tables_tall, omega (arith, tables_open)), (tt, tt)) in
      lawful-reading _ _ _ _ _ tt revision

  lawful11 : Holds (Lawful b L h) (plan11 b L h d)
  unfolding plan11
  lawful11 = step _ λ _. lawful-writing _ _ _ _ tt

  pub lawful : (o : Opcode) → Holds (Lawful b L h) (plan b o L h d)
  unfolding plan
  lawful read7 = lawful7
  lawful set8 = lawful8
  lawful read10 = lawful10
  lawful write11 = lawful11
  lawful write166 = lawful166
  lawful read167 = lawful167
  lawful read180 = lawful180
  lawful write181 = lawful181
  lawful unserved = faulty

-- a system write has no level, and may write what is read-only
pub setting-puts : (b : Build) (s : List ℕ) (t l k : ℕ) (v : List ℕ) → Holds (Puts b system s) (setting b s t l k v)
unfolding setting
setting-puts b s t l k v =
    step _ λ _. step_with (finds b t l k 0 0 0) λ _ e. step _ λ _.
    writing-puts b system s _ 1 v 0 [] (e.logical, omega (arith, e.parameter), refl) (nothing b system s)

-- The store: what is not named keeps its bytes, what is named holds the last value, and what may not be written is never changed.
-- Assumes nothing.
use Rattle.std.proofs.lemmas.Grind.{common_steps}
use Prim.Native.Nat.{ℕ, ◌<◌}
use native.Mathlib.Omega.{arith}
use mathlib.Core.Path.{◌≡◌, refl, ◌∙◌}
use mathlib.Core.Bool.{true}
use mathlib.Core.List.{List, ◌∷◌, ◌++◌}
use borrow.Author.Tests.{leb-true, not-true}
use lib.ListN.{length}
use Rattle.base.proofs.Checks.{all_map}
use Rattle.points.specs.Row.{locked_at}
use Rattle.points.specs.Types.{Build, logicals, point, row}
use Rattle.store.specs.Store.{value, Write, Names}
use Rattle.store.proofs.Laws.{stored_elsewhere, stored_there}
use Rattle.frame.specs.Frame.{data_of}
use Rattle.rules.specs.Asked.{Asked, Held}
use Rattle.rules.specs.Entries.{request}
use Rattle.rules.specs.Answer.{Answer, answer}
use Rattle.rules.proofs.Walks.{Allowed}
use Rattle.rules.proofs.Answered.{Answered, unheard, refused, acted, answered}
use Rattle.demands.specs.Brought.{brought, Unnamed, operation}
use Rattle.demands.proofs.Listed.{silent-number, faulted-number}
use Rattle.demands.proofs.Acted.{brings}

module _ (b : Build) (a : Asked) (h : Held) (r : List ℕ) (i l k : ℕ) (hl : l < logicals b i) where
  -- a parameter that the request does not name keeps its bytes
  pub kept : Unnamed (brought b (operation a) h (data_of a.frame)) i l k → value b (answer b a h r).store i l k ≡ value b h.store i l k
  kept ne = go (answered b a h r)
    where
      go : {x : Answer} → Answered b a h r x → value b x.store i l k ≡ value b h.store i l k
      go (unheard e) = refl
      go (refused q e) = refl
      go (acted {d} q e o) = stored_elsewhere b h.store q.whole d.puts i l k hl o.puts.sound (rw (brings b a h e) ne)

  -- one that it names holds the last of its values
  pub named-holds : (answer b a h r).outcome ≡ 0 → (later : List Write) (w : Write) (ws : List Write)
      → brought b (operation a) h (data_of a.frame) ≡ later ++ w ∷ ws → Names w i l k → Unnamed later i l k
      → value b (answer b a h r).store i l k ≡ w.bytes
  named-holds z later w ws split n ne = go (answered b a h r) z
    where
      go : {x : Answer} → Answered b a h r x → x.outcome ≡ 0 → value b x.store i l k ≡ w.bytes
      go (unheard e) z = let s = silent-number b a h (length r) _ _ e in absurd (omega arith)
      go (refused q e) z = let t = faulted-number b a h _ _ e in absurd (omega arith)
      go (acted {d} q e o) z =
          let f : d.puts ≡ later ++ w ∷ ws = brings b a h e ∙ split in
          rw f (stored_there b h.store q.whole later w ws i l k hl (rw f at o.puts.sound) n ne)

  -- so a request changes nothing that it may not write
  barred : ((w : Write) → Allowed (request a.level) w → Names w i l k → ⊥) → value b (answer b a h r).store i l k ≡ value b h.store i l k
  barred ne = go (answered b a h r)
    where
      go : {x : Answer} → Answered b a h r x → value b x.store i l k ≡ value b h.store i l k
      go (unheard e) = refl
      go (refused q e) = refl
      go (acted {d} q e o) =
          stored_elsewhere b h.store q.whole d.puts i l k hl o.puts.sound (all_map d.puts ne o.puts.allowed)

  -- nothing that is read-only, the size of logical 0 of type 124 among it
  pub read_only : locked_at (row i k).access l ≡ true → value b (answer b a h r).store i l k ≡ value b h.store i l k
  unfolding answer row value
  read_only = grind (arith, common_steps, barred, not-true)

  -- nothing whose write level is above its own
  pub out_of_reach : a.level < (point i).writes → value b (answer b a h r).store i l k ≡ value b h.store i l k
  unfolding answer point value
  out_of_reach = grind (arith, common_steps, barred, leb-true)

-- Sequences of calls: what is in order stays in order, whatever calls come, and a filled store with a valid clock is.
-- Assumes nothing.
use native.Mathlib.Omega.{arith}
use Prim.Native.Nat.{ℕ}
use mathlib.Core.Path.{◌≡◌, ◌∙◌}
use mathlib.Core.Bool.{true}
use mathlib.Core.List.{List, [], ◌∷◌}
use lib.ListN.{length}
use Rattle.clock.specs.Moments.{valid_clock, clock_of, clock_bytes}
use Rattle.points.specs.Types.{Build}
use Rattle.store.specs.Fresh.{fresh}
use Rattle.store.proofs.Fresh.{length-fresh}
use Rattle.rules.specs.Asked.{Held}
use Rattle.rules.specs.System.{ticking}
use Rattle.demands.specs.Calls.{Call, asks, sets, fills, ticks, call, run}
use Rattle.demands.specs.Good.{Good, NoLarger}
use Rattle.demands.proofs.Replies.{store_length, clock_length, system_length}
use Rattle.demands.proofs.Refused.{fill_fills}
use Rattle.demands.proofs.Ranges.{stays_in_range, system_in_range, fresh_in_range}
use Rattle.demands.proofs.Clocks.{clock_valid, tick-valid}

tick_seven : (c : List ℕ) → length c ≡ 7 → length (ticking c).clock ≡ 7
unfolding clock_bytes ticking
tick_seven = grind arith

module _ (b : Build) (small : NoLarger b) where
  -- a fill makes a whole store so
  pub filled-good : (c : List ℕ) → length c ≡ 7 → valid_clock (clock_of c) ≡ true → Good b (record { store = fresh b; clock = c })
  filled-good c l v = record { whole = length-fresh b; all_in_range = fresh_in_range b small; seven = l; valid = v }

  pub call-good : (h : Held) → Good b h → (x : Call) → Good b (call b h x).held
  unfolding call
  call-good h g (asks a r) =
      record {
        whole = store_length b a h r ∙ g.whole;
        all_in_range = stays_in_range b a h r g.all_in_range;
        seven = clock_length b a h r g.seven;
        valid = clock_valid b a h r g.valid;
      }
  call-good h g (sets t l k v) =
      record {
        whole = system_length b h.store t l k v ∙ g.whole;
        all_in_range = system_in_range b h.store t l k v g.all_in_range;
        seven = g.seven;
        valid = g.valid;
      }
  call-good h g fills = rw (fill_fills b h.store g.whole) (filled-good h.clock g.seven g.valid)
  call-good h g ticks =
      record { whole = g.whole; all_in_range = g.all_in_range; seven = tick_seven h.clock g.seven; valid = tick-valid h.clock g.valid }

  pub run-good : (h : Held) → Good b h → (cs : List Call) → Good b (run b h cs).held
  unfolding run
  run-good h g [] = g
  run-good h g (c ∷ cs) = run-good (call b h c).held (call-good h g c) cs

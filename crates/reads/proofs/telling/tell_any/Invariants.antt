-- The loop of `reads::tell_any`: what is left to tell comes to the whole, and there is room for it.
use Rattle.std.proofs.Common.{◌≡◌, ◌≤◌, ◌-◌, length, drop}
use Rattle.base.specs.Lists.{put}
use Rattle.points.specs.Types.{gateway}
use Rattle.rules.specs.Deeds.{told}
use Rattle.rules.specs.Lists.{reading}
use Rattle.lists.specs.Walks.{caller_of, taken}
use Rattle.reads.specs.Telling.{Passes, pieces_of, sizing, telling}
use Rattle.reads.proofs.telling.tell_any.Given as goal

abbrev pub invariant-loop-e : goal.invariant-loop-e
invariant-loop-e g l =
    let source = g.E.AnyEntries.source l.entries in
    let who = caller_of l.who in
    record {
      passes : Passes (sizing who (taken l.e source) (l.e-end - l.e) l.bytes l.at (l.to - 6));
      after : 6 ≤ l.to;
      rest : telling who l.store (taken l.e source) (l.e-end - l.e) l.bytes l.at l.to l.reply
          ≡ put l.fn.reply 6 (told gateway l.store (pieces_of (reading gateway who source l.e-end (drop l.from l.bytes) l.from (g.E.AnyReadable.opening l.entries l.bytes))));
      within : l.at ≤ length l.bytes;
      space : 263 ≤ length l.reply;
    }

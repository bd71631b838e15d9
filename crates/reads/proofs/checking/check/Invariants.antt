-- The loop of `reads::check`: what is left of the check comes to the whole.
use Rattle.std.proofs.Common.{◌≡◌, ◌≤◌, ◌+◌, ◌-◌, ◌*◌, length, drop}
use Rattle.points.specs.Types.{gateway}
use Rattle.rules.specs.Lists.{reading}
use Rattle.lists.specs.Walks.{caller_of, taken}
use Rattle.reads.specs.Telling.{sized, sizing}
use Rattle.reads.proofs.checking.check.Given as goal

abbrev pub invariant-loop-e : goal.invariant-loop-e
invariant-loop-e g l =
    let source = g.E.AnyEntries.source l.entries in
    let who = caller_of l.who in
    record {
      rest : sizing who (taken l.e source) (l.e-end - l.e) l.bytes l.at l.size
          ≡ sized (reading gateway who source l.e-end (drop l.from l.bytes) l.from (g.E.AnyReadable.opening l.entries l.bytes));
      within : l.at ≤ length l.bytes;
      small : l.size ≤ 7 + 43 * l.e;
    }

-- The loop of `writes::keep`: what is left to store comes to the whole.
use Rattle.std.proofs.Common.{◌≡◌, ◌≤◌, ◌-◌, [], length, drop}
use Rattle.base.specs.Check.{pass}
use Rattle.points.specs.Types.{gateway}
use Rattle.store.specs.Store.{stored}
use Rattle.rules.specs.Lists.{writing}
use Rattle.lists.specs.Walks.{caller_of, taken}
use Rattle.writes.specs.Walked.{writes_of, checking, keeping}
use Rattle.writes.proofs.keeping.keep.Given as goal

abbrev pub invariant-loop-e : goal.invariant-loop-e
invariant-loop-e g l =
    let source = g.E.AnyEntries.source l.entries in
    let who = caller_of l.who in
    record {
      passes : checking who l.fn.store (taken l.e source) (l.e-end - l.e) l.bytes l.at ≡ pass tt;
      rest : keeping who (taken l.e source) (l.e-end - l.e) l.bytes l.at l.store
          ≡ stored gateway l.fn.store (writes_of (writing gateway who l.fn.store source l.e-end (drop l.from l.bytes) l.from []));
      within : l.at ≤ length l.bytes;
    }

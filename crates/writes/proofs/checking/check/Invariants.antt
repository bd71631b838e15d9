-- The loops of `writes::check`: what is left of the check comes to the whole.
use Rattle.std.proofs.Common.{◌≡◌, ◌≤◌, ◌-◌, [], length, drop}
use Rattle.points.specs.Types.{gateway}
use Rattle.rules.specs.Lists.{writing}
use Rattle.lists.specs.Walks.{caller_of, taken}
use Rattle.writes.specs.Walked.{passed_of, printing, checking}
use Rattle.writes.proofs.checking.check.Given as goal

abbrev pub invariant-loop-byte : goal.invariant-loop-byte
invariant-loop-byte g l = printing (drop l.byte-index l.value) l.start ≡ printing l.value l.start

abbrev pub invariant-loop-e : goal.invariant-loop-e
invariant-loop-e g l =
    let source = g.E.AnyEntries.source l.entries in
    record {
      rest : checking (caller_of l.who) l.store (taken l.e source) (l.e-end - l.e) l.bytes l.at
          ≡ passed_of (writing gateway (caller_of l.who) l.store source l.e-end (drop l.from l.bytes) l.from []);
      within : l.at ≤ length l.bytes;
    }

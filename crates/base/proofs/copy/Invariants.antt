-- The loop of `base::copy`: after i turns the first i bytes are copied.
use Rattle.std.proofs.Common.{◌≡◌}
use Rattle.base.proofs.Copies.{copied}
use Rattle.base.proofs.copy.Given as goal

abbrev pub invariant-loop-i : goal.invariant-loop-i
invariant-loop-i l = l.dst ≡ copied l.fn.dst l.at l.src l.from l.i

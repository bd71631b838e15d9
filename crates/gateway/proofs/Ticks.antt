-- A clock's seven bytes written over seven bytes leave nothing of them.
-- Assumes nothing.
use Rattle.std.proofs.Common.{◌≡◌, List, ℕ, length}
use Rattle.base.specs.Lists.{over}
use Rattle.base.proofs.Written.{over-whole}
use Rattle.clock.specs.Moments.{clock_bytes}
use Rattle.clock.specs.declared.Clock.{Clock}

pub clock_over : (k : List ℕ) (m : Clock) → length k ≡ 7 → over k (clock_bytes m) ≡ clock_bytes m
unfolding clock_bytes
clock_over k m e = over-whole k _ e

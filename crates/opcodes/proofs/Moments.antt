-- A moment set: the chain of checks with the six of its numbers as one, and seven bytes for the clock where no more came.
-- Assumes nothing.
use Prim.Native.Nat.{ℕ}
use mathlib.Core.Path.{◌≡◌, ap}
use mathlib.Core.List.{List, []}
use borrow.Author.Tests.{leb-true}
use lib.Dec.{leb}
use lib.ListN.{length}
use Rattle.std.proofs.lemmas.List.{take_all}
use Rattle.base.specs.Check.{Check, pass, ◌>>=◌, test}
use Rattle.base.proofs.Checks.{then_then, step_same, same-test}
use Rattle.clock.specs.Moments.{clock_of}
use Rattle.rules.specs.Deeds.{Deeds}
use Rattle.rules.specs.Opcodes.{plan8}
use Rattle.opcodes.specs.Moments.{moment_check}
use Rattle.opcodes.proofs.Spare.{none_spare}

abbrev setting : List ℕ → Check Deeds
setting c = pass (record { says = []; puts = []; clock = c })

pub plan8_ranged : (L : ℕ) (d : List ℕ)
    → plan8 L d ≡ (test (leb 7 (length d)) 21 (length d) >>= λ _. test (leb 2 L) 25 0 >>= λ _. moment_check (clock_of d)
    >>= λ _. test (leb (length d) 7) 21 7 >>= λ _. setting d)
unfolding plan8 moment_check
plan8_ranged L d =
    simp (then_then, none_spare)
    (step_same _ λ _. step_same _ λ _. step_same _ λ _. step_same _ λ _. step_same _ λ _. step_same _ λ _. step_same _ λ _. step_same _ λ _.
    same-test 21 7 λ e. ap setting (take_all 7 d (leb-true _ _ e)))

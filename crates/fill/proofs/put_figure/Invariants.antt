-- The loop of `fill::put_figure`: the bytes that are written, and those of what is left of the number, are the number's.
use mathlib.Core.Path.{◌≡◌}
use mathlib.Core.List.{◌++◌}
use Prim.Native.Nat.{◌-◌}
use lib.ListN.{length, take}
use Rattle.base.specs.Bytes.{bytes}
use Rattle.fill.proofs.put_figure.Given as goal

abbrev pub invariant-loop-byte : goal.invariant-loop-byte
invariant-loop-byte l = take l.byte-index l.value ++ bytes (length l.initial.value - l.byte-index) l.rest ≡ bytes (length l.initial.value) l.figure

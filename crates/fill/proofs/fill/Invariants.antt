-- The loop of `fill::fill`: the types before this one are filled.
use mathlib.Core.Path.{◌≡◌}
use Rattle.points.specs.Types.{gateway}
use Rattle.points.specs.Place.{offset}
use Rattle.fill.specs.Steps.{renewed}
use Rattle.fill.proofs.fill.Given as goal

abbrev pub invariant-loop-index : goal.invariant-loop-index
invariant-loop-index l = l.store ≡ renewed l.initial.store 0 (offset gateway l.index 0 0)

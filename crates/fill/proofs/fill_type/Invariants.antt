-- The loop of `fill::fill_type`: the logicals before this one are filled.
use mathlib.Core.Path.{◌≡◌}
use Rattle.points.specs.Types.{gateway}
use Rattle.points.specs.Place.{offset}
use Rattle.fill.specs.Steps.{renewed}
use Rattle.fill.proofs.fill_type.Given as goal

abbrev pub invariant-loop-logical : goal.invariant-loop-logical
invariant-loop-logical l = l.store ≡ renewed l.initial.store (offset gateway l.index 0 0) (offset gateway l.index l.logical 0)

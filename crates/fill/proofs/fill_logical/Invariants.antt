-- The loop of `fill::fill_logical`: after as many turns that many parameters are filled.
use mathlib.Core.Path.{◌≡◌}
use Rattle.points.specs.Types.{gateway}
use Rattle.points.specs.Place.{offset}
use Rattle.fill.specs.Steps.{renewed}
use Rattle.fill.proofs.fill_logical.Given as goal

abbrev pub invariant-loop-parameter : goal.invariant-loop-parameter
invariant-loop-parameter l = l.store ≡ renewed l.initial.store (offset gateway l.index l.logical.0 0) (offset gateway l.index l.logical.0 l.parameter)

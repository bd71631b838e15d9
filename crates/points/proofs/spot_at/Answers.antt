-- `points::spot_at` meets its contract, by the laws of places.
-- Assumes nothing.
use borrow.Author.Rules.{rules}
use Rattle.points.proofs.Cases.{in_rows, is_inside}
use Rattle.points.proofs.spot_at.Goals as goal

pub offset_at-requires : goal.offset_at-requires
offset_at-requires c = search (rules, in_rows)

pub length_at-requires : goal.length_at-requires
length_at-requires c = search (rules, in_rows)

pub returns-clause-inside : goal.returns-clause-inside
returns-clause-inside c = search (rules, is_inside)

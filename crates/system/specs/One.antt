-- The one parameter that the system writes, or which of its three numbers names nothing.
-- Assumes nothing.
use Rattle.std.specs.Prelude.{ℕ, Result, Ok, Err}
use Rattle.base.specs.Check.{Check, fault, pass, ◌>>=◌}
use Rattle.faults.specs.Faults.{number_of}
use Rattle.faults.specs.declared.Refusal.{Refusal}
use Rattle.points.specs.Types.{gateway, index_of}
use Rattle.points.specs.Place.{place_of}
use Rattle.points.specs.There.{there}
use Rattle.lists.specs.declared.any.AnyBlock.{AnyBlock}

pub record One : Type 0 where
  pub index : ℕ
  pub logical : ℕ
  pub start : ℕ

abbrev pub one_of : Result AnyBlock Refusal → Check One
one_of (Ok block) = pass (record { index = block.index; logical = block.logical.0; start = block.start.0 })
one_of (Err refusal) = fault (number_of refusal) 0

unfoldable pub named : (t l k : ℕ) → Check One
named t l k = there (place_of gateway t l k) 0 0 0 >>= λ _. pass (record { index = index_of t; logical = l; start = k })

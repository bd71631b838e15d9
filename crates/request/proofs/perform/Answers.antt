-- `request::perform` meets its contract.
-- Assumes nothing.
use native.Mathlib.Omega.{arith}
use borrow.Author.Rules.{rules}
use mathlib.Core.Path.{refl}
use Rattle.request.proofs.Answered.{performed_said, performed_fault}
use Rattle.request.proofs.perform.Goals as goal

pub overflow_cast-count : goal.overflow_cast-count
overflow_cast-count c = record { fits = omega (arith, c.in-Ok.ensures.few _ refl) }

pub returns-in-Ok-clause-is : goal.returns-in-Ok-clause-is
returns-in-Ok-clause-is c =
    performed_said (record { frame = _; us = c.args.us; level = c.args.level }) _ _ _ _ _ _ _
    (search rules) (search rules) _ c.in-Ok.ensures c.answer.ensures.outcome c.answer.ensures.count c.answer.ensures.space

pub returns-in-Err-clause-is : goal.returns-in-Err-clause-is
returns-in-Err-clause-is c =
    performed_fault (record { frame = _; us = c.args.us; level = c.args.level }) _ _ _ _ _ _ _
    _ c.in-Err.ensures c.refuse.ensures.outcome c.refuse.ensures.count c.refuse.ensures.space

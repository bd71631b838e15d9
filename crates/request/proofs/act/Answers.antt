-- `request::act` meets its contract, an opcode at a time.
-- Assumes nothing.
use borrow.Author.Rules.{rules}
use mathlib.Core.Path.{refl}
use Rattle.rules.specs.Opcodes.{plan}
use Rattle.request.proofs.Acting.{reads7, sets8, reads10, writes11, writes166, reads167, reads180, writes181, has_read, has_written, has_set, has_none}
use Rattle.request.proofs.act.Goals as goal

pub returns-in-ReadClock : goal.returns-in-ReadClock
unfolding plan
returns-in-ReadClock c = has_read c.args.level _ _ _ _ (search rules) _ _ _ _ c.opcode.ensures (rw c.in-ReadClock.is at c.in_ok-try_from.ensures) c.content.ensures.is c.is_broadcast-aloud.ensures (reads7 _ _ _) _ _ (c.read.ensures.answer _) (c.read.ensures.space _)

pub returns-in-SetClock : goal.returns-in-SetClock
unfolding plan
returns-in-SetClock c = has_set c.args.level _ _ _ _ (search rules) _ _ _ _ c.opcode.ensures (rw c.in-SetClock.is at c.in_ok-try_from.ensures) c.content.ensures.is c.is_broadcast-aloud.ensures (sets8 _ _) _ _ _ c.without_data.ensures c.set.ensures.answer c.set.ensures.clock

pub returns-in-ReadTable : goal.returns-in-ReadTable
unfolding plan
returns-in-ReadTable c = has_read c.args.level _ _ _ _ (search rules) _ _ _ _ c.opcode.ensures (rw c.in-ReadTable.is at c.in_ok-try_from.ensures) c.content.ensures.is c.is_broadcast-aloud.ensures (reads10 _ _ _ _) _ _ (c.read-in-ReadTable.ensures.answer _) (c.read-in-ReadTable.ensures.space _)

pub returns-in-WriteTable : goal.returns-in-WriteTable
unfolding plan
returns-in-WriteTable c = has_written c.args.level _ _ _ _ (search rules) _ _ _ _ c.opcode.ensures (rw c.in-WriteTable.is at c.in_ok-try_from.ensures) c.content.ensures.is c.is_broadcast-aloud.ensures (writes11 _ _ _ _) _ _ _ c.without_data-in-WriteTable.ensures (c.write.ensures.answer _) (c.write.ensures.store _)

pub returns-in-WriteBlock : goal.returns-in-WriteBlock
unfolding plan
returns-in-WriteBlock c = has_written c.args.level _ _ _ _ (search rules) _ _ _ _ c.opcode.ensures (rw c.in-WriteBlock.is at c.in_ok-try_from.ensures) c.content.ensures.is c.is_broadcast-aloud.ensures (writes166 _ _ _ _) _ _ _ c.without_data-in-WriteBlock.ensures (c.write-in-WriteBlock.ensures.answer _) (c.write-in-WriteBlock.ensures.store _)

pub returns-in-ReadBlock : goal.returns-in-ReadBlock
unfolding plan
returns-in-ReadBlock c = has_read c.args.level _ _ _ _ (search rules) _ _ _ _ c.opcode.ensures (rw c.in-ReadBlock.is at c.in_ok-try_from.ensures) c.content.ensures.is c.is_broadcast-aloud.ensures (reads167 _ _ _ _) _ _ (c.read-in-ReadBlock.ensures.answer _) (c.read-in-ReadBlock.ensures.space _)

pub returns-in-ReadNamed : goal.returns-in-ReadNamed
unfolding plan
returns-in-ReadNamed c = has_read c.args.level _ _ _ _ (search rules) _ _ _ _ c.opcode.ensures (rw c.in-ReadNamed.is at c.in_ok-try_from.ensures) c.content.ensures.is c.is_broadcast-aloud.ensures (reads180 _ _ _ _) _ _ (c.read-in-ReadNamed.ensures.answer _) (c.read-in-ReadNamed.ensures.space _)

pub returns-in-WriteNamed : goal.returns-in-WriteNamed
unfolding plan
returns-in-WriteNamed c = has_written c.args.level _ _ _ _ (search rules) _ _ _ _ c.opcode.ensures (rw c.in-WriteNamed.is at c.in_ok-try_from.ensures) c.content.ensures.is c.is_broadcast-aloud.ensures (writes181 _ _ _ _) _ _ _ c.without_data-in-WriteNamed.ensures (c.write-in-WriteNamed.ensures.answer _) (c.write-in-WriteNamed.ensures.store _)

pub returns-in_err-try_from : goal.returns-in_err-try_from
returns-in_err-try_from c =
    has_none c.args.level _ _ _ _ (search rules) _ _ _ _ c.opcode.ensures c.in_err-try_from.ensures.0 c.content.ensures.is c.is_broadcast-aloud.ensures refl _ (search rules)

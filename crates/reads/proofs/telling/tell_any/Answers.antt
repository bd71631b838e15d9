-- The entry and its value have room in the reply, since the check of them passed.
use Rattle.std.proofs.Common.{sym, arith, length-take, length-drop}
use Rattle.reads.proofs.Whole.{room_next}
use Rattle.reads.proofs.telling.tell_any.Goals as goal

pub tell_entry-to-requires : goal.tell_entry-to-requires
tell_entry-to-requires g c =
    let i = c.loop-e.invariant in
    let found = rw c.unwrap-entry.ensures at c.entry.ensures.is in
    let inside = rw c.unwrap-entry.ensures at c.entry.ensures.inside in
    let room = room_next _ _ _ _ _ _ _ _ c.loop-e-test.true (sym found) i.passes in
    rw (length-take, length-drop) (omega (arith, room, i.after, i.space, inside.1, c.step.ensures.is, c.value_in.ensures.long))

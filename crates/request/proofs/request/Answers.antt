-- `request::request` meets its contract where the request is received.
-- Assumes nothing.
use borrow.Author.Rules.{rules}
use mathlib.Core.Path.{◌≡◌}
use Rattle.request.proofs.Answered.{heard}
use Rattle.request.proofs.request.Goals as goal

pub returns-in-Ok : goal.returns-in-Ok
returns-in-Ok c =
    let first = rw c.unwrap-reply.ensures at c.first_chunk_mut.ensures.cases in
    let store = rw c.unwrap-store.ensures at c.as_mut_array.ensures.cases in
    heard _ _ _ _ _ _ _ c.in-Ok.ensures.ok.0 c.perform.ensures.long c.in-Ok.ensures.room.1
    (rw (← first.same, ← store.same, ← c.in-Ok.ensures.ok.1) c.perform.ensures.is)

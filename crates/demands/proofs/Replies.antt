-- The reply space: it holds one frame at its front or is untouched, and behind that keeps its bytes; lengths stay.
-- Assumes nothing.
use Rattle.std.proofs.lemmas.Grind.{common_steps}
use Prim.Native.Nat.{ℕ, ◌+◌, ◌≤◌}
use native.Mathlib.Omega.{arith}
use mathlib.Core.Path.{◌≡◌, refl, sym, ◌∙◌}
use mathlib.Core.Bool.{Bool, true, false}
use mathlib.Core.Logic.{◌⊎◌, inl, inr}
use mathlib.Core.List.{List, [], ◌∷◌}
use lib.ListN.{length, drop}
use lib.Seq.{drop-append_seam}
use Rattle.base.specs.Lists.{over}
use Rattle.base.proofs.Written.{length_over}
use Rattle.points.specs.Types.{Build}
use Rattle.store.proofs.Laws.{stored-length}
use Rattle.frame.specs.Address.{source}
use Rattle.frame.specs.Frame.{longest, opcode}
use Rattle.frame.proofs.Written.{length_frame}
use Rattle.rules.specs.Asked.{Asked, Held}
use Rattle.rules.specs.Deeds.{told}
use Rattle.rules.specs.Answer.{Answer, to_all, error_opcode, sent, answer}
use Rattle.rules.specs.System.{Left}
use Rattle.rules.proofs.Told.{told-length}
use Rattle.rules.proofs.Answered.{Answered, unheard, refused, acted, answered, Written, unset, was_set, written}
use Rattle.demands.specs.Outcomes.{Untouched, Sends, to_everyone, to_one}
use Rattle.demands.specs.Replies.{SystemWriteKeepsStoreLength}

-- what is sent is nothing, or a frame with the data
sent-length : (a : Asked) (op : ℕ) (d : List ℕ) → length (sent a op d) ≤ length d + 8
unfolding sent
sent-length = grind (arith, common_steps, length_frame)

over_behind : (r f : List ℕ) → drop (length f) (over r f) ≡ drop (length f) r
unfolding over
over_behind r f = drop-append_seam f (drop (length f) r)

-- a frame that is sent, to all or to one
pub sending : (a : Asked) (r : List ℕ) {x : Answer} (op : ℕ) (d : List ℕ) → x.count ≡ length (sent a op d) → x.reply ≡ over r (sent a op d) → Sends a r x op d
unfolding sent over
sending a r {x} op d ec er = go (to_all a) refl
  where
    go : (y : Bool) → to_all a ≡ y → Sends a r x op d
    go true e = to_everyone e (ec ∙ rw e, er ∙ rw e)
    go false e = to_one e (ec ∙ rw e (length_frame (source a.frame) a.us op d), er ∙ rw e)

module _ (b : Build) (a : Asked) (h : Held) (r : List ℕ) where
  -- every answer is nothing or one frame, to whoever asked
  pub one_frame : Untouched r (answer b a h r) ⊎ ((op : ℕ) × (d : List ℕ) × Sends a r (answer b a h r) op d)
  one_frame = go (answered b a h r)
    where
      go : {x : Answer} → Answered b a h r x → Untouched r x ⊎ ((op : ℕ) × (d : List ℕ) × Sends a r x op d)
      go (unheard e) = inl (refl, refl)
      go (refused {n} {p} k e) = inr (error_opcode, n ∷ p ∷ [], sending a r _ _ refl refl)
      go (acted {d} k e l) = inr (opcode a.frame, told b h.store d.says, sending a r _ _ refl refl)

  -- behind a reply of any kind the reply space keeps its bytes
  pub behind : drop (answer b a h r).count (answer b a h r).reply ≡ drop (answer b a h r).count r
  behind = go (answered b a h r)
    where
      go : {x : Answer} → Answered b a h r x → drop x.count x.reply ≡ drop x.count r
      go (unheard e) = refl
      go (refused {n} {p} k e) = over_behind r (sent a error_opcode (n ∷ p ∷ []))
      go (acted {d} k e l) = over_behind r (sent a (opcode a.frame) (told b h.store d.says))

  -- a reply is no longer than 263 bytes, and never longer than its space
  pub reply_fits : length h.clock ≡ 7 → ((answer b a h r).count ≤ longest) × ((answer b a h r).count ≤ length r) × (length (answer b a h r).reply ≡ length r)
  reply_fits = go (answered b a h r)
    where
      fits : (op : ℕ) (d : List ℕ) → length d ≤ 255 → longest ≤ length r
          → (length (sent a op d) ≤ longest) × (length (sent a op d) ≤ length r) × (length (over r (sent a op d)) ≡ length r)
      fits op d k room =
          let s = sent-length a op d in
          (omega arith, omega arith, length_over r (sent a op d) (omega arith))

      go : {x : Answer} → Answered b a h r x → length h.clock ≡ 7 → (x.count ≤ longest) × (x.count ≤ length r) × (length x.reply ≡ length r)
      go (unheard e) c = (omega arith, omega arith, refl)
      go (refused {n} {p} k e) c = fits _ (n ∷ p ∷ []) (omega arith) k.room
      go (acted {d} k e l) c =
          fits _ (told b h.store d.says) (omega (arith, told-length b a.level h.store k.whole d.says l.says, l.short c)) k.room

  -- the store keeps its length, and so does the clock
  pub store_length : length (answer b a h r).store ≡ length h.store
  store_length = go (answered b a h r)
    where
      go : {x : Answer} → Answered b a h r x → length x.store ≡ length h.store
      go (unheard e) = refl
      go (refused k e) = refl
      go (acted {d} k e l) = stored-length b h.store k.whole d.puts l.puts.sound ∙ sym k.whole

  pub clock_length : length h.clock ≡ 7 → length (answer b a h r).clock ≡ 7
  clock_length = go (answered b a h r)
    where
      go : {x : Answer} → Answered b a h r x → length h.clock ≡ 7 → length x.clock ≡ 7
      go (unheard e) c = c
      go (refused k e) c = c
      go (acted k e l) c = l.clock c

pub system_length : SystemWriteKeepsStoreLength
system_length b s t l k v = go (written b s t l k v)
  where
    go : {x : Left} → Written b s t l k v x → length x.store ≡ length s
    go (unset e) = refl
    go (was_set {ws} w e q) = stored-length b s w ws q.sound ∙ sym w

-- The place of every fault lies within the request's data, or just behind it: so it is one byte of the error frame.
-- Assumes nothing.
use Prim.Native.Nat.{ℕ, ◌≤◌}
use native.Mathlib.Omega.{arith}
use mathlib.Core.Path.{◌≡◌}
use mathlib.Core.List.{List, []}
use borrow.Author.Tests.{leb-true}
use lib.ListN.{length, get_or, drop, length-drop, length-take}
use Rattle.base.specs.Check.{fault}
use Rattle.base.specs.Lists.{part}
use Rattle.base.proofs.Checks.{Holds, passing, step, anyway, step-test}
use Rattle.points.specs.Types.{Build}
use Rattle.frame.specs.Frame.{opcode, data_of}
use Rattle.rules.specs.Asked.{Asked, Held}
use Rattle.rules.specs.Deeds.{Deeds}
use Rattle.rules.specs.Entries.{request, block, named, located}
use Rattle.rules.specs.Lists.{ends, fitting}
use Rattle.rules.specs.Opcodes.{plan7, plan8, spans, plan167, plan166, counted, plan180, plan181, locates, plan10, plan11, Opcode, read7, set8, read10, write11, write166, read167, read180, write181, unserved, opcode_of, plan}
use Rattle.rules.specs.Answer.{planned}
use Rattle.rules.proofs.Answered.{Received}
use Rattle.rules.proofs.Upto.{Upto, here, nowhere, last, follow_with, follow, ask, there-upto, reading-upto, writing-upto}

-- ---- the opcodes

spans-upto : (b : Build) (d : List ℕ) → Upto (length d) (spans b d)
unfolding spans
spans-upto b d =
    ask _ _ (omega arith) λ e. let four = leb-true 4 (length d) e in
    follow (there-upto _ 0 1 3 (omega arith) (omega arith) (omega arith)) λ _. ask _ _ (omega arith) λ _. there-upto _ 0 1 3 (omega arith) (omega arith) (omega arith)

-- what the fixed part of a list's request takes is there
spans-long : (b : Build) (d : List ℕ) → Holds (λ _. 4 ≤ length d) (spans b d)
unfolding spans
spans-long b d = step-test _ _ λ e. step _ λ _. step _ λ _. anyway (leb-true _ _ e) _

counted-upto : (d : List ℕ) → Upto (length d) (counted d)
unfolding counted
counted-upto d = ask _ _ (omega arith) λ _. last _ _ _ (omega arith)

counted-long : (d : List ℕ) → Holds (λ _. 1 ≤ length d) (counted d)
unfolding counted
counted-long d = step-test _ _ λ e. anyway (leb-true _ _ e) _

locates-upto : (b : Build) (d : List ℕ) → Upto (length d) (locates b d)
unfolding locates
locates-upto b d =
    ask _ _ (omega arith) λ e. let three = leb-true 3 (length d) e in
    ask _ _ (omega arith) λ _. ask _ _ (omega arith) λ _. ask _ _ (omega arith) λ _. ask _ _ (omega arith) λ _. nowhere

locates-long : (b : Build) (d : List ℕ) → Holds (λ _. 3 ≤ length d) (locates b d)
unfolding locates
locates-long b d = step-test _ _ λ e. step _ λ _. step _ λ _. step _ λ _. step _ λ _. passing (leb-true _ _ e)

module _ (b : Build) (L : ℕ) (h : Held) (d : List ℕ) where
  plan-upto : (o : Opcode) → Upto (length d) (plan b o L h d)
  unfolding plan plan7 plan8 plan167 plan166 plan180 plan181 plan10 plan11 ends fitting
  plan-upto read7 = ask _ _ (omega arith) λ _. nowhere
  plan-upto set8 =
      ask _ _ (omega arith) λ e. let seven = leb-true 7 (length d) e in
      ask _ _ (omega arith) λ _. ask _ _ (omega arith) λ _. ask _ _ (omega arith) λ _. ask _ _ (omega arith) λ _. ask _ _ (omega arith) λ _.
      ask _ _ (omega arith) λ _. ask _ _ (omega arith) λ _. ask _ _ (omega arith) λ _. nowhere
  plan-upto read10 =
      follow_with (locates-upto b d) (locates-long b d) λ _ k.
      follow (reading-upto (length d) b (request L) (located _) (get_or d 2 0) (drop 3 d) 3 _ (omega arith) (simp length-drop (omega arith))) λ _. nowhere
  plan-upto write11 =
      follow_with (locates-upto b d) (locates-long b d) λ _ k.
      follow (writing-upto (length d) b (request L) h.store (located _) (get_or d 2 0) (drop 3 d) 3 [] (omega arith) (simp length-drop (omega arith))) λ _. nowhere
  plan-upto write166 =
      follow_with (spans-upto b d) (spans-long b d) λ _ k. ask _ _ (omega arith) λ _.
      follow (writing-upto (length d) b (request L) h.store (block _ _ (get_or d 3 0)) (get_or d 2 0) (drop 4 d) 4 [] (omega arith) (simp length-drop (omega arith))) λ _. nowhere
  plan-upto read167 =
      follow_with (spans-upto b d) (spans-long b d) λ _ k.
      ask _ _ (omega arith) λ _. ask _ _ (omega arith) λ _. ask _ _ (omega arith) λ _. nowhere
  plan-upto read180 =
      follow_with (counted-upto d) (counted-long d) λ _ k.
      follow (reading-upto (length d) b (request L) named (get_or d 0 0) (drop 1 d) 1 _ (omega arith) (simp length-drop (omega arith))) λ _. nowhere
  plan-upto write181 =
      follow_with (counted-upto d) (counted-long d) λ _ k.
      follow (writing-upto (length d) b (request L) h.store named (get_or d 0 0) (drop 1 d) 1 [] (omega arith) (simp length-drop (omega arith))) λ _. nowhere
  plan-upto unserved = here {p = 0} (omega arith)

-- the data of a request that is received are at most 255 bytes
data_short : (b : Build) (a : Asked) (h : Held) (r : ℕ) → Received b a h r → length (data_of a.frame) ≤ 255
unfolding data_of part
data_short b a h r k = simp (length-take, length-drop) (omega (arith, k.long, k.exact))

pub place-fits : (b : Build) (a : Asked) (h : Held) (r n p : ℕ) → Received b a h r → planned b a h ≡ fault n p → p ≤ 255
place-fits b a h r n p k e = go (rw e at (plan-upto b a.level h (data_of a.frame) (opcode_of (opcode a.frame))))
  where
    go : Upto {A = Deeds} (length (data_of a.frame)) (fault n p) → p ≤ 255
    go (here q) = omega (arith, data_short b a h r k)

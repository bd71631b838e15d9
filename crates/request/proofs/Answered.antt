-- The whole answer: silent where the request is not received, its opcode's part and the frame that goes out where it is.
-- Assumes nothing.
use Prim.Native.Nat.{ℕ, ◌≤◌}
use native.Mathlib.Omega.{arith}
use mathlib.Core.Path.{◌≡◌, refl, sym, ◌∙◌}
use mathlib.Core.Bool.{Bool, true, false, not}
use mathlib.Core.List.{List}
use lib.ListN.{length}
use Rattle.std.proofs.Common.{Ok, Err, ap, ◌+◌, ◌++◌, take, drop, length-append, length-take, append_assoc}
use Rattle.std.proofs.lemmas.List.{take-append-drop, drop-append-le}
use Rattle.base.specs.Check.{Check, fault, pass}
use Rattle.base.specs.Lists.{part, put, over}
use Rattle.base.proofs.Checks.{Holds, passing}
use Rattle.base.proofs.Parts.{part-put}
use Rattle.points.specs.Types.{gateway}
use Rattle.points.specs.Sums.{store_bytes}
use Rattle.faults.specs.Faults.{number_of}
use Rattle.faults.specs.declared.Fault.{Fault}
use Rattle.frame.specs.Address.{source}
use Rattle.frame.specs.Frame.{opcode, data_of, is_broadcast, frame_of}
use Rattle.frame.proofs.Written.{framed_there}
use Rattle.rules.specs.Asked.{Asked, Held}
use Rattle.rules.specs.Deeds.{Deeds, told, sizes}
use Rattle.rules.specs.Opcodes.{opcode_of}
use Rattle.rules.specs.Received.{received}
use Rattle.rules.specs.Answer.{Answer, error_opcode, error_data, sent, carried, planned, admitted, answer}
use Rattle.rules.proofs.Lawful.{Lawful, lawful}
use Rattle.rules.proofs.Told.{told-length}
use Rattle.request.specs.Acted.{Acted}
use Rattle.request.specs.Sent.{sent_back, ended_as, performed}
use Rattle.request.specs.declared.Ended.{Ended}

-- a frame over the front of a space, and the rest of the space behind it, is the frame over the whole
over-front : (r w f : List ℕ) (n : ℕ) → n ≤ length r → length w ≡ n → w ≡ over (take n r) f → w ++ drop n r ≡ over r f
unfolding over
over-front r w f n room long e =
    let whole : length (take n r) ≡ n = rw length-take (omega (arith, room)) in
    let both : length f + length (drop (length f) (take n r)) ≡ n = rw (← length-append f (drop (length f) (take n r)), ← e) long in
    let short : length f ≤ length (take n r) = omega (arith, whole, both) in
    rw (e, append_assoc, ← drop-append-le (length f) (take n r) (drop n r) short, take-append-drop n r)

module _ (a : Asked) (h : Held) (r : List ℕ) where
  pub unheard : (n : ℕ) → received gateway a h (length r) ≡ fault n 0
      → record { outcome = n; count = 0; store = h.store; clock = h.clock; reply = r } ≡ answer gateway a h r
  unfolding answer admitted over
  unheard n e = rw e

  -- what a plan comes to in the front of the reply space, where its frame has room, is what it comes to in the whole
  fronted : (p : Check Deeds) (x : Ended) (s c w : List ℕ) → length w ≡ 263 → 263 ≤ length r → ended_as x s c w ≡ carried gateway a h (take 263 r) p
      → ended_as x s c (w ++ drop 263 r) ≡ carried gateway a h r p
  unfolding carried
  fronted (fault n q) x s c w long room e =
      let f : List ℕ = sent a error_opcode (error_data n q) in
      let front : w ≡ over (take 263 r) f = ap (λ (y : Answer). y.reply) e in
      simp (ap (λ (y : Answer). y.outcome) e, ap (λ (y : Answer). y.count) e, ap (λ (y : Answer). y.store) e, ap (λ (y : Answer). y.clock) e, over-front r w f 263 room long front)
  fronted (pass d) x s c w long room e =
      let f : List ℕ = sent a (opcode a.frame) (told gateway h.store d.says) in
      let front : w ≡ over (take 263 r) f = ap (λ (y : Answer). y.reply) e in
      simp (ap (λ (y : Answer). y.outcome) e, ap (λ (y : Answer). y.count) e, ap (λ (y : Answer). y.store) e, ap (λ (y : Answer). y.clock) e, over-front r w f 263 room long front)

  pub heard : (x : Ended) (s c w : List ℕ) → received gateway a h (length r) ≡ pass tt → length w ≡ 263 → 263 ≤ length r → ended_as x s c w ≡ performed a h (take 263 r)
      → ended_as x s c (w ++ drop 263 r) ≡ answer gateway a h r
  unfolding performed answer admitted
  heard x s c w e long room p = rw e (fronted (planned gateway a h) x s c w long room p)

  -- s, c and r₁ are what the plan p leaves with the answer x
  abbrev Left : Check Deeds → Check ℕ → List ℕ → List ℕ → List ℕ → Type 0
  Left p x s c r₁ = Acted p (not (is_broadcast a.frame)) h.store s h.clock c r r₁ x

  -- the call leaves what the plan p comes to: outcome o, the frame f over what the opcode left of the reply space
  abbrev Comes : Check Deeds → ℕ → List ℕ → List ℕ → List ℕ → List ℕ → Type 0
  Comes p o f s c r₁ = record { outcome = o; count = length f; store = s; clock = c; reply = over r₁ f } ≡ carried gateway a h r p

  abbrev error_sent : ℕ → ℕ → List ℕ
  error_sent n q = sent_back a.frame a.us error_opcode (error_data n q)

  abbrev reply_sent : ℕ → List ℕ → List ℕ
  reply_sent n r₁ = sent_back a.frame a.us (opcode a.frame) (part r₁ 6 n)

  module _ (s c r₁ : List ℕ) where
    fault-comes : (p : Check Deeds) (n q : ℕ) → Left p (fault n q) s c r₁ → Comes p n (error_sent n q) s c r₁
    unfolding carried sent sent_back
    fault-comes (fault m o) n q l =
        let e : ◌≡◌ {A = Check ℕ} (fault n q) (fault m o) = l.answer in
        let ns : n ≡ m = cc in
        let qs : q ≡ o = cc in
        simp (ns, qs, l.store, l.clock, l.space)
    fault-comes (pass d) n q l = let e : ◌≡◌ {A = Check ℕ} (fault n q) (pass (sizes d.says)) = l.answer in let z : ◌≡◌ {A = ℕ} 0 1 = cc in absurd (omega arith)

    -- a broadcast, and a request that is answered
    module _ (d : Deeds) (n : ℕ) (l : Left (pass d) (pass n) s c r₁) (said_so : n ≡ sizes d.says) where
      silent-comes : is_broadcast a.frame ≡ true → Comes (pass d) 0 (reply_sent n r₁) s c r₁
      unfolding carried sent sent_back over
      silent-comes t = simp (t, l.store, l.clock, l.space)

      told-comes : length (told gateway h.store d.says) ≡ n → n ≤ 255 → 263 ≤ length r → is_broadcast a.frame ≡ false → Comes (pass d) 0 (reply_sent n r₁) s c r₁
      unfolding carried sent sent_back
      told-comes e few room t =
          let v : List ℕ = told gateway h.store d.says in
          let f : List ℕ = frame_of (source a.frame) a.us (opcode a.frame) v in
          let here : r₁ ≡ put r 6 v = l.space ∙ simp t in
          let there : part (put r 6 v) 6 n ≡ v = rw (← e) (part-put r v 6 (omega arith)) in
          let all : over (put r 6 v) f ≡ over r f = rw there at (framed_there r v (source a.frame) a.us (opcode a.frame) n e (omega arith)) in
          simp (t, l.store, l.clock, here, there, all)

    said-comes : length h.store ≡ 12427 → 263 ≤ length r → (p : Check Deeds) → Holds (Lawful gateway a.level h) p → (n : ℕ) → Left p (pass n) s c r₁
        → Comes p 0 (reply_sent n r₁) s c r₁
    said-comes whole room (fault m o) w n l = let e : ◌≡◌ {A = Check ℕ} (pass n) (fault m o) = l.answer in let z : ◌≡◌ {A = ℕ} 0 1 = cc in absurd (omega arith)
    said-comes whole room (pass d) (passing w) n l = go (is_broadcast a.frame) refl
      where
        many : n ≡ sizes d.says
        many = let e : pass n ≡ pass (sizes d.says) = l.answer in cc

        long : length (told gateway h.store d.says) ≡ n
        long = told-length gateway a.level h.store (whole ∙ sym store_bytes) d.says w.says ∙ sym many

        go : (b : Bool) → is_broadcast a.frame ≡ b → Comes (pass d) 0 (reply_sent n r₁) s c r₁
        go true t = silent-comes d n l many t
        go false t = told-comes d n l many long (l.few n refl) room t

    -- as the code has it: x is what the call gives back, r₂ the reply space
    module _ (x : Ended) (r₂ : List ℕ) where
      pub performed_said : length h.store ≡ 12427 → 263 ≤ length r → (n : ℕ) → Left (planned gateway a h) (pass n) s c r₁ → x.outcome ≡ Ok tt
          → x.count ≡ length (reply_sent n r₁) → r₂ ≡ over r₁ (reply_sent n r₁) → ended_as x s c r₂ ≡ performed a h r
      unfolding performed
      performed_said whole room n l o k q =
          rw (o, k, q) (said-comes whole room (planned gateway a h) (lawful gateway a.level h (data_of a.frame) (opcode_of (opcode a.frame))) n l)

      pub performed_fault : (f : Fault) → Left (planned gateway a h) (fault (number_of f.refusal) f.place) s c r₁ → x.outcome ≡ Err f.refusal
          → x.count ≡ length (error_sent (number_of f.refusal) f.place) → r₂ ≡ over r₁ (error_sent (number_of f.refusal) f.place)
          → ended_as x s c r₂ ≡ performed a h r
      unfolding performed
      performed_fault f l o k q = rw (o, k, q) (fault-comes (planned gateway a h) (number_of f.refusal) f.place l)

-- A frame is written: heading and CRC around data that stands in its place already.
-- Assumes nothing.
use mathlib.Core.Path.{◌≡◌, refl, sym, ap, ◌∙◌}
use mathlib.Core.List.{List, ◌++◌}
use Prim.Native.Nat.{ℕ, ◌+◌, ◌≤◌}
use native.Mathlib.Omega.{arith}
use lib.ListN.{length, take, length-append}
use Rattle.base.specs.Lists.{part, put, over}
use Rattle.base.proofs.Parts.{length_part, part-put}
use Rattle.base.proofs.Written.{put_first, over-there, over-next, over-put, take-over}
use Rattle.frame.specs.Frame.{heading, crc_bytes, sealed, frame_of}
use Rattle.frame.specs.declared.Address.{Address}

-- what stands in front gets its CRC behind it
pub sealed-over : (s p : List ℕ) (m : ℕ) → length p ≡ m → put (over s p) m (crc_bytes (take m (over s p))) ≡ over s (sealed p)
unfolding sealed
sealed-over s p m e = rw (take-over s p m e) (over-next s p (crc_bytes p) m e)

-- s₁ and s₂ are the space after the heading and after the CRC
pub closed : (s s₁ s₂ : List ℕ) (to us : Address) (op n : ℕ) → n + 8 ≤ length s
    → s₁ ≡ put s 0 (heading to us op n) → s₂ ≡ put s₁ (n + 6) (crc_bytes (take (n + 6) s₁)) → s₂ ≡ over s (frame_of to us op (part s 6 n))
unfolding frame_of
closed s s₁ s₂ to us op n fits p q =
    let h : List ℕ = heading to us op n in
    let d : List ℕ = part s 6 n in
    let len : length d ≡ n = length_part s 6 n (omega arith) in
    let both : length (h ++ d) ≡ n + 6 = simp length-append (omega arith) in
    let front : s₁ ≡ over s (h ++ d) = p ∙ put_first s h ∙ over-there s h 6 n refl (omega arith) in
    q ∙ ap (λ (l : List ℕ). put l (n + 6) (crc_bytes (take (n + 6) l))) front
    ∙ sealed-over s (h ++ d) (n + 6) both
    ∙ ap (λ (k : ℕ). over s (sealed (heading to us op k ++ d))) (sym len)

pub length_frame : (to us : Address) (op : ℕ) (d : List ℕ) → length (frame_of to us op d) ≡ length d + 8
unfolding frame_of sealed
length_frame to us op d = simp length-append (omega arith)

-- the data is written first, and the frame around it from there
pub framed_there : (s d : List ℕ) (to us : Address) (op n : ℕ) → length d ≡ n → 6 + n ≤ length s
    → over (put s 6 d) (frame_of to us op (part (put s 6 d) 6 n)) ≡ over s (frame_of to us op d)
framed_there s d to us op n e fits =
    let there : part (put s 6 d) 6 n ≡ d = rw (← e) (part-put s d 6 (omega arith)) in
    rw there (over-put s d (frame_of to us op d) 6 (omega arith) (rw length_frame (omega arith)))

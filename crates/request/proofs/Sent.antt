-- The frame that goes out: how long it is, and that it stands at the reply space's front once its data was written.
-- Assumes nothing.
use Prim.Native.Nat.{ℕ, ◌+◌, ◌≤◌}
use mathlib.Core.Path.{◌≡◌, refl, ap, ◌∙◌}
use mathlib.Core.Bool.{false}
use mathlib.Core.List.{List, [], ◌∷◌}
use lib.ListN.{length}
use Rattle.base.specs.Lists.{part, put, over}
use Rattle.base.proofs.Parts.{length_part}
use Rattle.frame.specs.Address.{source}
use Rattle.frame.specs.Frame.{is_broadcast, frame_of}
use Rattle.frame.specs.declared.Address.{Address}
use Rattle.frame.proofs.Written.{length_frame, framed_there}
use Rattle.request.specs.Sent.{sent_back}

module _ (f : List ℕ) (us : Address) (op : ℕ) (r : List ℕ) (one : is_broadcast f ≡ false) where
  pub reply_length : (n : ℕ) → 6 + n ≤ length r → length (sent_back f us op (part r 6 n)) ≡ n + 8
  unfolding sent_back
  reply_length n fits = rw one (length_frame (source f) us op (part r 6 n) ∙ ap (λ (k : ℕ). k + 8) (length_part r 6 n fits))

pub error_length : (f : List ℕ) (us : Address) (n p : ℕ) → is_broadcast f ≡ false → length (sent_back f us 255 (n ∷ p ∷ [])) ≡ 10
unfolding sent_back
error_length f us n p one = rw one (length_frame (source f) us 255 (n ∷ p ∷ []))

pub error_told : (to us : Address) (n p : ℕ) (r : List ℕ) → 8 ≤ length r
    → over (put r 6 (n ∷ p ∷ [])) (frame_of to us 255 (part (put r 6 (n ∷ p ∷ [])) 6 2)) ≡ over r (frame_of to us 255 (n ∷ p ∷ []))
error_told to us n p r room = framed_there r (n ∷ p ∷ []) to us 255 2 refl room

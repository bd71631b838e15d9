-- Two pieces told, one behind the other.
-- Assumes nothing.
use Rattle.std.proofs.Common.{ℕ, ◌+◌, ◌≤◌, ◌≡◌, List, ◌++◌, length, ◌∙◌, ap, arith}
use Rattle.base.specs.Lists.{put}
use Rattle.base.proofs.Parts.{put_join}

pub two_told : (r v w : List ℕ) (n : ℕ) → n ≡ 6 + length v → 263 ≤ length r → length v + length w ≤ 255 → put (put r 6 v) n w ≡ put r 6 (v ++ w)
two_told r v w n place room short = ap (λ (m : ℕ). put (put r 6 v) m w) place ∙ put_join r v w 6 (omega arith)

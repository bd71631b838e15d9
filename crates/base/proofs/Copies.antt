-- A copy, byte by byte, puts a part of one list into another.
-- Assumes nothing.
use mathlib.Core.Path.{◌≡◌}
use mathlib.Core.List.{List}
use Prim.Native.Nat.{ℕ, ◌+◌, ◌≤◌, ◌<◌}
use native.Mathlib.Numerals.{add-one}
use native.Mathlib.Omega.{arith}
use lib.ListN.{length, take, drop, get_or, set, length-drop}
use lib.Seq.{paste, paste-zero, paste-suc, length-paste, get_or-drop}
use Rattle.base.specs.Lists.{part, put}
use Rattle.base.proofs.Parts.{length_part}

-- the first i elements of s from a place on are copied to l
pub copied : List ℕ → ℕ → List ℕ → ℕ → ℕ → List ℕ
copied l at s from i = paste l at (drop from s) i

module _ (l : List ℕ) (at : ℕ) (s : List ℕ) (from : ℕ) where
  pub none_copied : l ≡ copied l at s from 0
  unfolding copied
  none_copied = paste-zero l at (drop from s)

  pub one_more : (i : ℕ) → at + i < length l → from + i < length s
      → set (copied l at s from i) (at + i) (get_or s (from + i) 0) ≡ copied l at s from (i + 1)
  unfolding copied
  one_more i h k =
      let m : i < length (drop from s) = simp length-drop (omega arith) in
      rw (add-one, ← get_or-drop from s i 0) (paste-suc l at (drop from s) i 0 h m)

  pub length_copied : (i : ℕ) → at + i ≤ length l → from + i ≤ length s → length (copied l at s from i) ≡ length l
  unfolding copied
  length_copied i h k = length-paste l at (drop from s) i h (simp length-drop (omega arith))

  pub all_copied : (n : ℕ) → from + n ≤ length s → copied l at s from n ≡ put l at (part s from n)
  unfolding copied put part
  all_copied n k = let m : length (take n (drop from s)) ≡ n = length_part s from n k in rw m

pub ruleset copy_steps = (none_copied, one_more, length_copied, all_copied)

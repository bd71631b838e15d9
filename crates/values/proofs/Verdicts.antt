-- A value weighed has one fault, at the place that it has.
-- Assumes nothing.
use mathlib.Core.Path.{◌≡◌, refl, sym, ap}
use mathlib.Core.Bool.{Bool, true, false}
use mathlib.Core.List.{List}
use Prim.Native.Nat.{ℕ, ◌+◌}
use native.Mathlib.Omega.{arith}
use Rattle.base.specs.Check.{Check, fault, pass, ◌>>=◌, test, from}
use Rattle.base.specs.Lists.{both}
use Rattle.faults.specs.Faults.{check_of, required}
use Rattle.faults.specs.declared.Refusal.TheVariants.{OutOfRange}
use Rattle.points.specs.Types.{Build}
use Rattle.points.specs.Columns.{row_at}
use Rattle.values.specs.Kinds.{of_kind}
use Rattle.values.specs.Judged.{in_range, judged}
use Rattle.values.specs.Weighed.{mated, weighed}

at : (n p : ℕ) → ◌≡◌ {A = Check Unit} (fault n (p + 0)) (fault n p)
at n p = let z : p + 0 ≡ p = omega arith in ap (fault n) z

abbrev done : Check Unit
done = pass tt

pub weighed_if : (b : Build) (s : List ℕ) (r l : ℕ) (v : List ℕ) (p : ℕ) (x : Bool)
    → x ≡ both (of_kind b (row_at r).kind v) (both (in_range b (row_at r).range l v) (mated b s r l v))
    → check_of (required x OutOfRange p) ≡ from p (weighed b s r l v)
unfolding weighed judged from test ◌>>=◌
weighed_if b s r l v p x e = rw e (go (of_kind b (row_at r).kind v) (in_range b (row_at r).range l v) (mated b s r l v))
  where
    go : (x y z : Bool) → check_of (required (both x (both y z)) OutOfRange p) ≡ from p ((test x 27 0 >>= λ _. test y 27 0 >>= λ _. done) >>= λ _. test z 27 0 >>= λ _. done)
    go true true true = refl
    go true true false = sym (at 27 p)
    go true false z = sym (at 27 p)
    go false y z = sym (at 27 p)

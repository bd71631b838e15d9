-- The calls that no frame reaches: system write, fill, the clock's tick.
-- Assumes nothing.
use Rattle.std.specs.Prelude.{ℕ, cond, List, [], length, eqb}
use Rattle.base.specs.Check.{Check, fault, pass, ◌>>=◌, test}
use Rattle.clock.specs.Moments.{clock_of, clock_bytes, Ticked, tick}
use Rattle.points.specs.Types.{Build, index_of}
use Rattle.points.specs.Place.{place_of, len_at, store_size}
use Rattle.points.specs.There.{there}
use Rattle.store.specs.Store.{Write, stored}
use Rattle.store.specs.Fresh.{fresh}
use Rattle.rules.specs.Entries.{system, block}
use Rattle.rules.specs.Lists.{writing}

-- 2, 22, 23, 24, 21, 27, in that order; then it is a list of one value, read-only or not
unfoldable pub setting : Build → List ℕ → (t l k : ℕ) → List ℕ → Check (List Write)
setting b s t l k v = do
  _ ← test (eqb (length s) (store_size b)) 2 0
  _ ← there (place_of b t l k) 0 0 0
  _ ← test (eqb (length v) (len_at (index_of t) k)) 21 0
  writing b system s (block (index_of t) l k) 1 v 0 []

-- the outcome of a call on the store, and the store that it leaves
pub record Left : Type 0 where
  pub outcome : ℕ
  pub store : List ℕ

unfoldable pub leaving : Build → List ℕ → Check (List Write) → Left
leaving b s (fault n p) = record { outcome = n; store = s }
leaving b s (pass ws) = record { outcome = 0; store = stored b s ws }

unfoldable pub system_write : Build → List ℕ → (t l k : ℕ) → List ℕ → Left
system_write b s t l k v = leaving b s (setting b s t l k v)

-- 2, or the defaults
unfoldable pub fill : Build → List ℕ → Left
fill b s = cond (eqb (length s) (store_size b)) (record { outcome = 0; store = fresh b }) (record { outcome = 2; store = s })

-- the clock's seven bytes one second later; an invalid date stays, marked 3
pub record Passed : Type 0 where
  pub outcome : ℕ
  pub clock : List ℕ

unfoldable pub ticking : List ℕ → Passed
ticking c =
    let t : Ticked = tick (clock_of c) in
    record { outcome = t.outcome; clock = cond (eqb t.outcome 0) (clock_bytes t.clock) c }

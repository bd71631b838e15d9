-- A value weighed by its row's number, as the code goes by rows: judged by its row, then with its mate as the store has it.
-- Assumes nothing.
use Rattle.std.specs.Prelude.{ℕ, ◌-◌, Bool, cond, List, leb, eqb}
use Rattle.base.specs.Check.{Check, pass, ◌>>=◌, test}
use Rattle.base.specs.Lists.{only}
use Rattle.points.specs.Types.{Build, segments}
use Rattle.points.specs.Place.{first}
use Rattle.points.specs.Columns.{row_at}
use Rattle.store.specs.Store.{value}
use Rattle.values.specs.Judged.{judged}
use Rattle.values.specs.Pairs.{pair_of, paired}

-- what the parameters of a segment hold, with v at k
abbrev pub changed : ℕ → List ℕ → (ℕ → List ℕ) → ℕ → List ℕ
changed k v g q = cond (eqb q k) v (g q)

-- the pair of the parameter with row r on logical l, where it holds v and its mate what store s has
unfoldable pub mated : Build → List ℕ → ℕ → ℕ → List ℕ → Bool
mated b s r l v =
    only (leb (first segments) r) (paired (pair_of (r - first segments)) l (changed (r - first segments) v (value b s segments l)))

unfoldable pub weighed : Build → List ℕ → ℕ → ℕ → List ℕ → Check Unit
weighed b s r l v = do
  _ ← judged b (row_at r) l v
  _ ← test (mated b s r l v) 27 0
  pass tt

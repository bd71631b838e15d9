-- The months' lengths: February's, the others', and what they sum to.
-- Assumes nothing.
use Rattle.std.proofs.Common.{◌≡◌, ◌≢◌, ℕ, ◌+◌, ◌≤◌, Bool, true, false, get_or, set, refl, cond, add-one}
use Rattle.std.proofs.lemmas.List.{get_or-set_other}
use Rattle.base.proofs.Below.{entry-small}
use Rattle.clock.specs.Calendar.{leap, lengths, month_days, months_days}

pub february : (y : ℕ) → month_days y 2 ≡ cond (leap y) 29 28
unfolding month_days
february y = refl

-- the leap day is no matter of another month
pub other_month : (y m : ℕ) → m ≢ 2 → month_days y m ≡ get_or lengths m 0
unfolding month_days
other_month y m h = get_or-set_other lengths 2 m (cond (leap y) 29 28) 0 h

-- a month has at most 31 days
pub month_small : (y m : ℕ) → month_days y m ≤ 31
unfolding month_days
month_small y m = go (leap y)
  where
    go : (b : Bool) → get_or (set lengths 2 (cond b 29 28)) m 0 ≤ 31
    go true = entry-small 31 (set lengths 2 29) refl m
    go false = entry-small 31 (set lengths 2 28) refl m

pub months_more : (y m : ℕ) → months_days y (m + 1) ≡ months_days y m + month_days y m
unfolding months_days
months_more y m = rw add-one refl

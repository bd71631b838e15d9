-- Ranges: a store all of whose values are in range stays so under every call, and the fresh store is so.
-- Assumes nothing.
use Prim.Native.Nat.{ℕ, ◌<◌}
use native.Mathlib.Omega.{arith}
use mathlib.Core.Path.{◌≡◌, refl, ap, ◌∙◌, fun_ext}
use mathlib.Core.Bool.{Bool, true, false}
use mathlib.Core.List.{List}
use borrow.Author.Tests.{eqb-true}
use lib.Dec.{eqb}
use Rattle.base.specs.Check.{Check, fault, pass, ◌>>=◌, test}
use Rattle.base.specs.Lists.{only}
use Rattle.base.specs.Bytes.{le}
use Rattle.base.proofs.Below.{below, at-below}
use Rattle.points.specs.Types.{points, Build, logicals, point, height, row, segments, gateway}
use Rattle.store.specs.Store.{value}
use Rattle.store.specs.Fresh.{default_of, fresh}
use Rattle.store.proofs.Fresh.{value-fresh}
use Rattle.values.specs.Weighable.{passes}
use Rattle.values.specs.Kinds.{printed, signed_of, finite32, finite64, valid_tlp, number_tlp, of_kind}
use Rattle.values.specs.Judged.{status_ok, rate_ok, size_ok, in_range, judged}
use Rattle.values.specs.Pairs.{pair_of, paired, together}
use Rattle.rules.specs.Answer.{Answer}
use Rattle.rules.specs.System.{Left, fill}
use Rattle.rules.specs.InRange.{InRange}
use Rattle.rules.proofs.InRange.{stored_in_range}
use Rattle.rules.proofs.Answered.{Answered, unheard, refused, acted, answered, Written, unset, was_set, written, Filled, filled_up, unfilled, filled}
use Rattle.demands.specs.Good.{NoLarger}
use Rattle.points.proofs.Rows.{six}
use Rattle.demands.specs.InOrder.{RequestKeepsRange, SystemWriteKeepsRange}

pub stays_in_range : RequestKeepsRange
stays_in_range b a h r good = go (answered b a h r)
  where
    go : {x : Answer} → Answered b a h r x → InRange b x.store
    go (unheard e) = good
    go (refused k e) = good
    go (acted {d} k e l) = stored_in_range b h.store k.whole good d.puts l.puts.sound l.puts.judged

pub system_in_range : SystemWriteKeepsRange
system_in_range b s t l k v good = go (written b s t l k v)
  where
    go : {x : Left} → Written b s t l k v x → InRange b x.store
    go (unset e) = good
    go (was_set {ws} w e q) = stored_in_range b s w good ws q.sound q.judged

-- ---- the fresh store, of a build with no more logicals of any type than the gateway's

passed_is : (c : Check Unit) → passes c ≡ true → c ≡ pass tt
unfolding passes
passed_is (fault n p) e = cc
passed_is (pass x) e = refl

-- one test over the defaults of all 2,990 parameters
starts : Build → ℕ → ℕ → ℕ → Bool
starts b i l k = passes (judged b (row i k) l (default_of i l k))

all_start : (b : Build) → below 6 (λ i. below (logicals gateway i) (λ l. below (height (point i)) (starts b i l))) ≡ true
unfolding starts passes logicals gateway point row default_of judged ◌>>=◌ test le printed signed_of finite32 finite64 valid_tlp number_tlp of_kind status_ok rate_ok size_ok in_range
all_start b = refl

pairs_start : below 13 (λ l. below 14 (λ k. paired (pair_of k) l (default_of segments l))) ≡ true
unfolding paired pair_of default_of row point le
pairs_start = refl

module _ (b : Build) (small : NoLarger b) where
  fresh_alone : (i l k : ℕ) → l < logicals b i → k < height (point i) → judged b (row i k) l (value b (fresh b) i l k) ≡ pass tt
  unfolding starts
  fresh_alone i l k hl hk =
      let test_type = at-below 6 (λ j. below (logicals gateway j) (λ m. below (height (point j)) (starts b j m))) (all_start b) i (six b i l hl) in
      let test-logical = at-below (logicals gateway i) (λ m. below (height (point i)) (starts b i m)) test_type l (omega (arith, small i)) in
      rw (value-fresh b i l k hl) (passed_is _ (at-below (height (point i)) (starts b i l) test-logical k hk))

  fresh-pair : (l k : ℕ) → l < logicals b segments → k < height (point segments) → paired (pair_of k) l (value b (fresh b) segments l) ≡ true
  unfolding logicals gateway point points
  fresh-pair l k hl hk =
      let test-logical = at-below 13 (λ m. below 14 (λ n. paired (pair_of n) m (default_of segments m))) pairs_start l (omega (arith, small segments)) in
      ap (paired (pair_of k) l) (fun_ext λ q. value-fresh b segments l q hl)
      ∙ at-below 14 (λ n. paired (pair_of n) l (default_of segments l)) test-logical k hk

  pub fresh_in_range : InRange b (fresh b)
  unfolding together
  fresh_in_range i l k hl hk = (fresh_alone i l k hl hk, go (eqb i segments) refl)
    where
      go : (x : Bool) → eqb i segments ≡ x → only x (paired (pair_of k) l (value b (fresh b) segments l)) ≡ true
      go true e = fresh-pair l k (rw (eqb-true i segments e) at hl) (rw (eqb-true i segments e) at hk)
      go false e = refl

  pub fill_in_range : (s : List ℕ) → InRange b s → InRange b (fill b s).store
  fill_in_range s good = go (filled b s)
    where
      go : {x : Left} → Filled b s x → InRange b x.store
      go (filled_up e) = fresh_in_range
      go (unfilled e) = good

-- The laws of tables: which row a table gives, and a check that goes through a table line by line.
-- Assumes nothing.
use Prim.Native.Nat.{ℕ}
use mathlib.Core.Path.{◌≡◌, refl, ◌∙◌}
use mathlib.Core.Bool.{Bool, true, false, cond}
use mathlib.Core.Logic.{inl, inr}
use mathlib.Core.List.{List, [], ◌∷◌, ◌++◌}
use Rattle.base.specs.Check.{Check, fault, pass, ◌>>=◌, test}
use Rattle.base.specs.Lists.{All, both}
use Rattle.base.proofs.Checks.{Holds, faulty, passing, anyway}
use Rattle.demands.specs.Table.{Refusal, unless, first_of, First, NoneApplies}

-- ---- a table gives a number and a place exactly where the row with these is the first that applies

module _ {n p : ℕ} where
  pub first_given : (rs : List Refusal) → First rs n p → first_of rs ≡ fault n p
  unfolding first_of
  first_given [] x = elim x [ ]
  first_given (r ∷ rs) (inl e) = rw (e.0, e.1, e.2)
  first_given (r ∷ rs) (inr e) = rw e.0 (first_given rs e.1)

  pub given_first : (rs : List Refusal) → first_of rs ≡ fault n p → First rs n p
  unfolding first_of
  given_first [] e = cc
  given_first (r ∷ rs) e = go r.holds refl e (given_first rs)
    where
      go : (x : Bool) → r.holds ≡ x → cond x (first_of rs) (fault r.number r.place) ≡ fault n p → (first_of rs ≡ fault n p → First rs n p)
          → First (r ∷ rs) n p
      go true h e ih = inr (h, ih e)
      go false h e ih = let en : r.number ≡ n = cc in let ep : r.place ≡ p = cc in inl (h, en, ep)

pub none_given : (rs : List Refusal) → NoneApplies rs → first_of rs ≡ pass tt
unfolding first_of
none_given [] e = refl
none_given (r ∷ rs) e = rw e.0 (none_given rs e.1)

pub given_none : (rs : List Refusal) → first_of rs ≡ pass tt → NoneApplies rs
unfolding first_of
given_none [] e = tt
given_none (r ∷ rs) e = go r.holds refl e (given_none rs)
  where
    go : (x : Bool) → r.holds ≡ x → cond x (first_of rs) (fault r.number r.place) ≡ pass tt → (first_of rs ≡ pass tt → NoneApplies rs)
        → NoneApplies (r ∷ rs)
    go true h e ih = (h, ih e)
    go false h e ih = cc

-- ---- the numbers of a table

-- what each number has, the number that is given has
pub first_has : (P : ℕ → Type 0) (n p : ℕ) (rs : List Refusal) → All (λ r. P r.number) rs → First rs n p → P n
first_has P n p [] a x = elim x [ ]
first_has P n p (r ∷ rs) a (inl e) = rw e.1 at a.0
first_has P n p (r ∷ rs) a (inr e) = first_has P n p rs a.1 e.1

-- ---- a check says a table: they come out alike

-- a check without what it passes
unfoldable pub blank : {A : Type 0} → Check A → Check Unit
blank (fault n p) = fault n p
blank (pass a) = pass tt

pub record Says {A : Type 0} (c : Check A) (rs : List Refusal) : Type 0 where
  pub says : blank c ≡ first_of rs

pub say : {A : Type 0} {a : A} → Says (pass a) []
unfolding blank first_of
say = record { says = refl }

-- a test is a row
pub ask : {B : Type 0} {x : Bool} {n p : ℕ} {y : Check B} {rs : List Refusal} → (x ≡ true → Says y rs)
    → Says (test x n p >>= λ _. y) (unless x n p ∷ rs)
unfolding blank first_of ◌>>=◌ test
ask {x = true} h = record { says = (h refl).says }
ask {x = false} h = record { says = refl }

pub last : {x : Bool} {n p : ℕ} → Says (test x n p) (unless x n p ∷ [])
unfolding blank first_of test
last {x = true} = record { says = refl }
last {x = false} = record { says = refl }

-- two checks, one after the other, are two tables
pub join_first : (rs qs : List Refusal) → first_of (rs ++ qs) ≡ (first_of rs >>= λ _. first_of qs)
unfolding first_of ◌>>=◌
join_first [] qs = refl
join_first (r ∷ rs) qs = go r.holds (join_first rs qs)
  where
    go : (x : Bool) → first_of (rs ++ qs) ≡ (first_of rs >>= λ _. first_of qs)
        → cond x (first_of (rs ++ qs)) (fault r.number r.place) ≡ (cond x (first_of rs) (fault r.number r.place) >>= λ _. first_of qs)
    go true ih = ih
    go false ih = refl

pub follow_with : {A B : Type 0} {c : Check A} {f : A → Check B} {Q : A → Type 0} {rs qs : List Refusal}
    → Says c rs → Holds Q c → ((a : A) → Q a → Says (f a) qs) → Says (c >>= f) (rs ++ qs)
unfolding blank ◌>>=◌
follow_with {rs} {qs} s faulty h = record { says = rw (join_first rs qs, ← s.says) }
follow_with {rs} {qs} s (passing {a} q) h = record { says = rw (join_first rs qs, ← s.says) (h a q).says }

pub follow : {A B : Type 0} {c : Check A} {f : A → Check B} {rs qs : List Refusal} → Says c rs → ((a : A) → Says (f a) qs) → Says (c >>= f) (rs ++ qs)
follow {c} s h = follow_with s (anyway (tt {0}) c) λ a _. h a

-- what follows a table's last row is no row
pub end : {A B : Type 0} {c : Check A} {f : A → Check B} {rs : List Refusal} → Says c rs → ((a : A) → Says (f a) []) → Says (c >>= f) rs
unfolding blank first_of ◌>>=◌
end {c = fault n p} s h = record { says = s.says }
end {c = pass a} s h = record { says = (h a).says ∙ s.says }

-- two rows with one number and one place are one
pub merge : {A : Type 0} {c : Check A} {x y : Bool} {n p : ℕ} {rs : List Refusal} → Says c (unless x n p ∷ unless y n p ∷ rs)
    → Says c (unless (both x y) n p ∷ rs)
unfolding first_of
merge {x = true} s = record { says = s.says }
merge {x = false} s = record { says = s.says }

-- a row that never applies is none
pub sure : {A : Type 0} {c : Check A} {x : Bool} {n p : ℕ} {rs : List Refusal} → x ≡ true → Says c (unless x n p ∷ rs) → Says c rs
unfolding first_of
sure {x = true} e s = record { says = s.says }
sure {x = false} e s = cc

-- three rows with one number and one place
pub merge_right : {A : Type 0} {c : Check A} {x y z : Bool} {n p : ℕ} {rs : List Refusal} → Says c (unless x n p ∷ unless y n p ∷ unless z n p ∷ rs)
    → Says c (unless (both x (both y z)) n p ∷ rs)
unfolding first_of
merge_right {x = true} {y = true} s = record { says = s.says }
merge_right {x = true} {y = false} s = record { says = s.says }
merge_right {x = false} s = record { says = s.says }

pub sure_next : {A : Type 0} {c : Check A} {r : Refusal} {x : Bool} {n p : ℕ} {rs : List Refusal} → x ≡ true → Says c (r ∷ unless x n p ∷ rs) → Says c (r ∷ rs)
unfolding first_of
sure_next {x = true} e s = record { says = s.says }
sure_next {x = false} e s = cc

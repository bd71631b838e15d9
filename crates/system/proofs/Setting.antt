-- System write as the code goes through it: the store's length, the type, its logical, its parameter, the value's length, a list of one.
-- Assumes nothing.
use Prim.Native.Nat.{ℕ}
use mathlib.Core.Path.{◌≡◌, refl, sym, ◌∙◌}
use mathlib.Core.List.{List, []}
use borrow.Author.Tests.{eq-eqb, ne_eqb}
use lib.Dec.{eqb}
use lib.ListN.{length}
use Rattle.base.specs.Check.{Check, pass, ◌>>=◌, test}
use Rattle.base.proofs.Checks.{then_then, passed}
use Rattle.points.specs.Types.{gateway}
use Rattle.points.specs.Place.{len_at, store_size}
use Rattle.points.specs.Sums.{store_bytes}
use Rattle.rules.specs.Entries.{system, block}
use Rattle.rules.specs.Lists.{writing}
use Rattle.rules.specs.System.{setting, leaving}
use Rattle.system.specs.One.{named}

then_pass : {A B : Type 0} (a : A) (f : A → Check B) → (pass a >>= f) ≡ f a
unfolding ◌>>=◌
then_pass a f = refl

pub setting_rows : (s : List ℕ) (t l k : ℕ) (v : List ℕ) → length s ≡ 12427
    → setting gateway s t l k v ≡ (named t l k >>= λ one. test (eqb (length v) (len_at one.index one.start)) 21 0
    >>= λ _. writing gateway system s (block one.index one.logical one.start) 1 v 0 [])
unfolding setting named
setting_rows s t l k v whole =
    passed _ _ _ (eq-eqb _ _ (whole ∙ sym store_bytes)) ∙ sym (simp (then_then, then_pass))

pub short_store : (s : List ℕ) (t l k : ℕ) (v : List ℕ) → (length s ≡ 12427 → ⊥) → leaving gateway s (setting gateway s t l k v) ≡ record { outcome = 2; store = s }
unfolding setting leaving ◌>>=◌ test
short_store s t l k v short = rw (ne_eqb (length s) (store_size gateway) (λ e. short (e ∙ store_bytes))) refl

-- One request, or one system write, on two whole stores that agree at level K: the answers are the same, and the stores agree after.
-- Assumes nothing.
use Prim.Native.Nat.{ℕ, ◌≤◌}
use native.Mathlib.Omega.{arith}
use mathlib.Core.Path.{◌≡◌, refl, ap}
use mathlib.Core.List.{List}
use lib.ListN.{length}
use Rattle.base.specs.Check.{Check, fault, pass}
use Rattle.base.specs.Lists.{over}
use Rattle.base.proofs.Checks.{Holds, faulty, passing}
use Rattle.points.specs.Types.{Build}
use Rattle.points.specs.Place.{store_size}
use Rattle.store.specs.Store.{Write}
use Rattle.frame.specs.Frame.{opcode, data_of}
use Rattle.rules.specs.Asked.{Asked, Held}
use Rattle.rules.specs.Received.{received}
use Rattle.rules.specs.Deeds.{Deeds, told}
use Rattle.rules.specs.Entries.{system}
use Rattle.rules.specs.Opcodes.{opcode_of}
use Rattle.rules.specs.Answer.{Answer, sent, carried, planned, admitted, answer}
use Rattle.rules.specs.System.{Left, leaving, system_write}
use Rattle.rules.specs.Agree.{Agree}
use Rattle.rules.proofs.Agree.{lower, stored_same}
use Rattle.rules.proofs.Told.{told_same}
use Rattle.rules.proofs.Walks.{Puts}
use Rattle.rules.proofs.Lawful.{Lawful, lawful, setting-puts}
use Rattle.rules.proofs.Alike.{plan-same, setting_same, received-same}

-- two answers that level K does not tell apart
pub record SameAnswer (b : Build) (K : ℕ) (x y : Answer) : Type 0 where
  pub outcome : x.outcome ≡ y.outcome
  pub count : x.count ≡ y.count
  pub clock : x.clock ≡ y.clock
  pub reply : x.reply ≡ y.reply
  pub store : Agree b K x.store y.store

pub record SameLeft (b : Build) (K : ℕ) (x y : Left) : Type 0 where
  pub outcome : x.outcome ≡ y.outcome
  pub store : Agree b K x.store y.store

module _ (b : Build) (K : ℕ) (s t : List ℕ) (ls : length s ≡ store_size b) (lt : length t ≡ store_size b) (same : Agree b K s t) where
  module _ (c : List ℕ) (a : Asked) (r : List ℕ) (h : a.level ≤ K) where
    abbrev one : Held
    one = record { store = s; clock = c }

    abbrev other : Held
    other = record { store = t; clock = c }

    carried_same : {p : Check Deeds} → Holds (Lawful b a.level one) p → SameAnswer b K (carried b a one r p) (carried b a other r p)
    unfolding carried
    carried_same faulty = record { outcome = refl; count = refl; clock = refl; reply = refl; store = same }
    carried_same (passing {a = d} o) =
        let e : told b s d.says ≡ told b t d.says = told_same b a.level s t (lower b K a.level s t h same) d.says o.says in
        record {
          outcome = refl;
          count = ap (λ (v : List ℕ). length (sent a (opcode a.frame) v)) e;
          clock = refl;
          reply = ap (λ (v : List ℕ). over r (sent a (opcode a.frame) v)) e;
          store = stored_same b K s t ls lt same d.puts o.puts.sound;
        }

    planned-same : planned b a one ≡ planned b a other
    planned-same = plan-same b s t ls lt (lower b K 0 s t (omega arith) same) c a.level (data_of a.frame) (opcode_of (opcode a.frame))

    admitted-same : (x : Check Unit) → SameAnswer b K (admitted b a one r x) (admitted b a other r x)
    unfolding admitted
    admitted-same (fault n p) = record { outcome = refl; count = refl; clock = refl; reply = refl; store = same }
    admitted-same (pass x) =
        rw (← planned-same) (carried_same (lawful b a.level one (data_of a.frame) (opcode_of (opcode a.frame))))

    pub answer-same : SameAnswer b K (answer b a one r) (answer b a other r)
    unfolding answer
    answer-same =
        rw (← received-same b s t ls lt (lower b K 0 s t (omega arith) same) a c (length r)) (admitted-same (received b a one (length r)))

  leaving-same : {p : Check (List Write)} → Holds (Puts b system s) p → SameLeft b K (leaving b s p) (leaving b t p)
  unfolding leaving
  leaving-same faulty = record { outcome = refl; store = same }
  leaving-same (passing {a = ws} o) = record { outcome = refl; store = stored_same b K s t ls lt same ws o.sound }

  pub system_same : (y l k : ℕ) (v : List ℕ) → SameLeft b K (system_write b s y l k v) (system_write b t y l k v)
  unfolding system_write
  system_same y l k v =
      rw (← setting_same b s t ls lt (lower b K 0 s t (omega arith) same) y l k v) (leaving-same (setting-puts b s y l k v))

-- Secrecy: two stores that agree on all that level K may read are not told apart by any sequence of calls at levels up to K, and still
-- agree afterwards.
-- Assumes nothing.
use Prim.Native.Nat.{ℕ}
use mathlib.Core.Path.{◌≡◌, refl, ap, ap₂, ◌∙◌}
use mathlib.Core.List.{List, [], ◌∷◌}
use lib.ListN.{length}
use Rattle.points.specs.Types.{Build}
use Rattle.points.specs.Place.{store_size}
use Rattle.store.proofs.Fresh.{length-fresh}
use Rattle.rules.specs.Asked.{Held}
use Rattle.rules.specs.Answer.{Answer}
use Rattle.rules.specs.Agree.{Agree}
use Rattle.rules.proofs.Same.{SameAnswer, answer-same, system_same}
use Rattle.demands.specs.Calls.{Call, asks, sets, fills, ticks, Seen, framed, unframed, call, run, Within, Untold}
use Rattle.demands.specs.Secrecy.{CallTellsNothing, RunTellsNothing}
use Rattle.demands.proofs.Replies.{store_length, system_length}
use Rattle.demands.proofs.Refused.{fill_fills}

-- ---- one call

seen_same : {b : Build} {K : ℕ} {x y : Answer} → SameAnswer b K x y → (framed x).seen ≡ (framed y).seen
seen_same e = λ i. record { outcome = e.outcome i; count = e.count i; clock = e.clock i; reply = e.reply i }

module _ (b : Build) (K : ℕ) (s t : List ℕ) (ls : length s ≡ store_size b) (lt : length t ≡ store_size b) (same : Agree b K s t) (c : List ℕ) where
  abbrev one : Held
  one = record { store = s; clock = c }

  abbrev other : Held
  other = record { store = t; clock = c }

  call_same : (x : Call) → Within K x → Untold b K (call b one x) (call b other x)
  unfolding call
  call_same (asks a r) h =
      let e = answer-same b K s t ls lt same c a r h in
      record {
        seen = seen_same e;
        held = record { whole = store_length b a one r ∙ ls; whole_too = store_length b a other r ∙ lt; store = e.store; clock = e.clock };
      }
  call_same (sets y l k v) h =
      let e = system_same b K s t ls lt same y l k v in
      record {
        seen = ap (λ (n : ℕ). (unframed n [] c).seen) e.outcome;
        held = record { whole = system_length b s y l k v ∙ ls; whole_too = system_length b t y l k v ∙ lt; store = e.store; clock = refl };
      }
  call_same fills h =
      rw (fill_fills b s ls, fill_fills b t lt)
      (record { seen = refl; held = record { whole = length-fresh b; whole_too = length-fresh b; store = λ i l k hl hr. refl; clock = refl } })
  call_same ticks h = record { seen = refl; held = record { whole = ls; whole_too = lt; store = same; clock = refl } }

pub untold : CallTellsNothing
untold b K h g e x w = go g.clock e.clock
  where
    go : (c : List ℕ) → h.clock ≡ c → Untold b K (call b h x) (call b (record { store = g.store; clock = c }) x)
    go c f = rw (← f) (call_same b K h.store g.store e.whole e.whole_too e.store h.clock x w)

-- ---- any sequence

pub secret : RunTellsNothing
unfolding run
secret b K h g e [] w = record { seen = refl; held = e }
secret b K h g e (c ∷ cs) w =
    let first = untold b K h g e c w.0 in
    let rest = secret b K (call b h c).held (call b g c).held first.held cs w.1 in
    record { seen = ap₂ (λ (x : Seen) (xs : List Seen). x ∷ xs) first.seen rest.seen; held = rest.held }

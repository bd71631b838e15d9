-- No statement of a public call leaves a choice: two results that meet it are equal.
-- Assumes nothing.
use Prim.Native.Nat.{ℕ}
use mathlib.Core.Path.{◌≡◌, sym, ap, ◌∙◌}
use mathlib.Core.List.{List}
use Rattle.std.specs.Prelude.{Result}
use Rattle.faults.specs.Faults.{outcome_of}
use Rattle.faults.specs.declared.Refusal.{Refusal}
use Rattle.faults.proofs.Apart.{results_apart, outcomes_apart}
use Rattle.values.proofs.Apart.{raws_apart}
use Rattle.rules.specs.Answer.{Answer}
use Rattle.rules.specs.System.{Left}
use Rattle.demands.specs.Uniqueness.{RequestIsUnique, SystemWriteIsUnique, FillIsUnique, TickIsUnique, NumberReadIsUnique, RawReadIsUnique, MomentIsUnique}
use Rattle.demands.specs.Uniqueness.{RequestResultIsUnique, SystemWriteResultIsUnique, FillResultIsUnique, MomentResultIsUnique, NumberResultIsUnique, RawResultIsUnique}

unique : {A : Type 0} {x y z : A} → x ≡ z → y ≡ z → x ≡ y
unique e f = e ∙ sym f

pub request_unique : RequestIsUnique
request_unique b a h r x y = unique

pub system_unique : SystemWriteIsUnique
system_unique b s t l k v x y = unique

pub fill_unique : FillIsUnique
fill_unique b s x y = unique

pub tick_unique : TickIsUnique
tick_unique c x y = unique

pub number_unique : NumberReadIsUnique
number_unique b s t l k x y = unique

pub raw_unique : RawReadIsUnique
raw_unique b s t l k kind bits x y = unique

pub moment_unique : MomentIsUnique
moment_unique c x y = unique

-- ---- what the functions of the code give back

-- the end of a call, by the outcome, with the store that it leaves
left_apart : (z : Left) (x y : Result Unit Refusal) (p q : List ℕ)
    → record { outcome = outcome_of x; store = p } ≡ z → record { outcome = outcome_of y; store = q } ≡ z → (x ≡ y) × (p ≡ q)
left_apart z x y p q e f =
    let g : ◌≡◌ {A = Left} (record { outcome = outcome_of x; store = p }) (record { outcome = outcome_of y; store = q }) = unique e f in
    (outcomes_apart x y (ap (λ (w : Left). w.outcome) g), ap (λ (w : Left). w.store) g)

pub request_result_unique : RequestResultIsUnique
request_result_unique b a h r x y m n s t c d p q e f =
    let g : ◌≡◌ {A = Answer} (record { outcome = outcome_of x; count = m; store = s; clock = c; reply = p }) (record { outcome = outcome_of y; count = n; store = t; clock = d; reply = q }) = unique e f in
    (outcomes_apart x y (ap (λ (w : Answer). w.outcome) g), ap (λ (w : Answer). w.count) g, ap (λ (w : Answer). w.store) g, ap (λ (w : Answer). w.clock) g, ap (λ (w : Answer). w.reply) g)

pub system_result_unique : SystemWriteResultIsUnique
system_result_unique b s t l k v x y p q = left_apart _ x y p q

pub fill_result_unique : FillResultIsUnique
fill_result_unique b s x y p q = left_apart _ x y p q

pub moment_result_unique : MomentResultIsUnique
moment_result_unique c x y = unique

pub number_result_unique : NumberResultIsUnique
number_result_unique b s t l k x y e f = results_apart _ x y (unique e f)

pub raw_result_unique : RawResultIsUnique
raw_result_unique b s t l k x y e f = raws_apart x y (unique e f)

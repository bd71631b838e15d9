use Rattle.demands.proofs.Runs.{filled-good, call-good, run-good}
use Rattle.demands.proofs.order.order_stays.Goals as goal

pub returns : goal.returns
returns c = record { filled = filled-good; call = call-good; run = run-good }

use Rattle.demands.proofs.Ranges.{stays_in_range, system_in_range, fill_in_range, fresh_in_range}
use Rattle.demands.proofs.order.values_stay_in_range.Goals as goal

pub returns : goal.returns
returns c = record { request = stays_in_range; system_write = system_in_range; fill = fill_in_range; fresh = fresh_in_range }

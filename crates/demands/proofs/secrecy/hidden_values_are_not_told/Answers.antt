use Rattle.demands.proofs.Apart.{unseen, not-told}
use Rattle.demands.proofs.secrecy.hidden_values_are_not_told.Goals as goal

pub returns : goal.returns
returns c = record { unseen = unseen; untold = not-told }

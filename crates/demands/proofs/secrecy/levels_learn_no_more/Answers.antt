use Rattle.demands.proofs.Secret.{untold, secret}
use Rattle.demands.proofs.secrecy.levels_learn_no_more.Goals as goal

pub returns : goal.returns
returns c = record { call = untold; run = secret }

-- `fill::fill_logical` meets its contract, by the invariant beside this.
-- Assumes nothing.
use Rattle.fill.proofs.Steps.{logical_small}
use Rattle.fill.proofs.fill_logical.Goals as goal

pub put_default-requires-clause-two_digits : goal.put_default-requires-clause-two_digits
put_default-requires-clause-two_digits c = logical_small c.args.index c.args.logical.0 c.requires.built

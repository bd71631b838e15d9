-- A list that is read or written, by what its walk comes to.
-- Assumes nothing.
use Rattle.std.specs.Prelude.{ℕ, List, get_or}
use Rattle.base.specs.Check.{Check, pass, ◌>>=◌}
use Rattle.store.specs.Store.{Write}
use Rattle.rules.specs.Asked.{Held}
use Rattle.rules.specs.Deeds.{Piece, Deeds}
use Rattle.lists.specs.declared.any.AnyNamed.{AnyNamed}
use Rattle.rules.specs.Opcodes.{telling, keeping, counted}

unfoldable pub telling_all : Held → Check (List Piece) → Check Deeds
telling_all h c = c >>= λ ps. pass (telling h ps)

unfoldable pub keeping_all : Held → Check (List Write) → Check Deeds
keeping_all h c = c >>= λ ws. pass (keeping h ws)

-- 180 and 181: as many parameters as the first byte says
unfoldable pub named_list : List ℕ → Check AnyNamed
named_list d = counted d >>= λ _. pass (record { count = get_or d 0 0 })

-- Addresses: our own, who a request is for, who it is from.
-- Assumes nothing.
use Rattle.std.specs.Prelude.{ℕ, Bool, true, false, cond, not, List, eqb, get_or}
use Rattle.frame.specs.declared.Address.{Address}

abbrev pub address : ℕ → ℕ → Address
address u g = record { unit = u; group = g }

unfoldable pub same_address : Address → Address → Bool
same_address a b = cond (eqb a.unit b.unit) (eqb a.group b.group) false

-- direct connect
abbrev pub direct : Address
direct = address 240 240

-- the broadcast of our group
abbrev pub broadcast : Address → Address
broadcast us = address 0 us.group

-- an address that stands for one station: not unit 0, not direct connect
unfoldable pub stationary : Address → Bool
stationary a = cond (eqb a.unit 0) false (not (same_address a direct))

-- a request's destination and its source
abbrev pub destination : List ℕ → Address
destination f = address (get_or f 0 0) (get_or f 1 0)

abbrev pub source : List ℕ → Address
source f = address (get_or f 2 0) (get_or f 3 0)

-- our address, or unit 0 with our group, or direct connect
unfoldable pub for_us : Address → Address → Bool
for_us us to = cond (same_address to us) true (cond (same_address to (broadcast us)) true (same_address to direct))

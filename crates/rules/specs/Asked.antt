-- What a request brings, and what the firmware holds.
-- Assumes nothing.
use Rattle.std.specs.Prelude.{ℕ, List}
use Rattle.frame.specs.declared.Address.{Address}

-- the frame, our own address, the level of whoever asks
pub record Asked : Type 0 where
  pub frame : List ℕ
  pub us : Address
  pub level : ℕ

-- the store's bytes and the clock's, which are seven
pub record Held : Type 0 where
  pub store : List ℕ
  pub clock : List ℕ

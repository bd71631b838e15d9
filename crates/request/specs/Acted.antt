-- What an opcode that was carried out leaves.
-- Assumes nothing.
use Rattle.std.specs.Prelude.{ℕ, ◌≤◌, ◌≡◌, Bool, List}
use Rattle.base.specs.Check.{Check, fault, pass}
use Rattle.rules.specs.Deeds.{Deeds}
use Rattle.opcodes.specs.Done.{said, space_by, store_by, clock_by}

-- a write tells nothing
unfoldable pub without_data : Check Unit → Check ℕ
without_data (fault n p) = fault n p
without_data (pass x) = pass 0

-- What is left where the plan p was to be carried out, with the answer x: how many bytes of data stand in the reply, or the fault. What is
-- primed is left of store, clock and reply space.
pub record Acted (p : Check Deeds) (aloud : Bool) (s s' c c' r r' : List ℕ) (x : Check ℕ) : Type 0 where
  pub answer : x ≡ said p
  pub few : (n : ℕ) → x ≡ pass n → n ≤ 255
  pub store : s' ≡ store_by s p
  pub clock : c' ≡ clock_by c p
  pub space : r' ≡ space_by aloud s r p

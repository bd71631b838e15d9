-- The blocks that requests name: of parameters, and of a table's locations, which are parameters of it.
-- Assumes nothing.
use Rattle.std.specs.Prelude.{ℕ, ◌+◌, ◌≤◌, ◌<◌, ◌≡◌, List, length, [], ◌∷◌, get_or, take, Result, Ok, Err}
use Rattle.base.specs.Check.{Check, fault, pass, ◌>>=◌}
use Rattle.faults.specs.Faults.{number_of}
use Rattle.faults.specs.declared.Fault.{Fault}
use Rattle.points.specs.Types.{gateway, tables, logicals, index_of}
use Rattle.lists.specs.declared.any.AnyBlock.{AnyBlock}
use Rattle.rules.specs.Deeds.{Piece, plain, held}
use Rattle.rules.specs.Opcodes.{spans, locates}

-- a block, by its four numbers
pub record Run : Type 0 where
  pub index : ℕ
  pub logical : ℕ
  pub start : ℕ
  pub count : ℕ

abbrev pub run_of : AnyBlock → Run
run_of block = record { index = block.index; logical = block.logical.0; start = block.start.0; count = block.count.0 }

abbrev pub block_check : Result AnyBlock Fault → Check Run
block_check (Ok block) = pass (run_of block)
block_check (Err f) = fault (number_of f.refusal) f.place

-- 166 and 167: type, logical, count, start
unfoldable pub spanned : List ℕ → Check Run
spanned d =
    spans gateway d >>= λ _. pass (record { index = index_of (get_or d 0 0); logical = get_or d 1 0; start = get_or d 3 0; count = get_or d 2 0 })

-- 10 and 11: table, start location, count
unfoldable pub table_block : List ℕ → Check Run
table_block d =
    locates gateway d >>= λ _. pass (record { index = tables; logical = get_or d 0 0; start = get_or d 1 0; count = get_or d 2 0 })

-- what 167 tells: the four bytes that name the block, and what it holds
unfoldable pub block_pieces : Run → List ℕ → List Piece
block_pieces run d = held run.index run.logical run.start run.count ∷ plain (take 4 d) ∷ []

-- what is known of the locations that a request names
pub record IsTable (d : List ℕ) (block : AnyBlock) : Type 0 where
  pub long : 3 ≤ length d
  pub table : get_or d 0 0 < logicals gateway tables
  pub type : block.index ≡ tables
  pub first : 1 ≤ block.start.0
  pub some : 1 ≤ block.count.0
  pub last : block.start.0 + block.count.0 ≤ 45

-- Each plan that begins with a block, by that block.
-- Assumes nothing.
use Prim.Native.Nat.{ℕ, ◌+◌, ◌≤◌}
use native.Mathlib.Omega.{arith}
use mathlib.Core.Path.{◌≡◌, refl, sym, ap, ◌∙◌}
use mathlib.Core.List.{List, [], ◌∷◌, ◌++◌}
use lib.Dec.{leb}
use lib.ListN.{length, get_or, take, drop}
use lib.Seq.{take-length, length-take-le}
use Rattle.base.specs.Check.{Check, pass, ◌>>=◌, test}
use Rattle.base.proofs.Checks.{then_then}
use Rattle.points.specs.Types.{gateway, tables, point}
use Rattle.points.proofs.Rows.{row_reads, row-writes}
use Rattle.store.specs.Store.{values, span_of}
use Rattle.rules.specs.Asked.{Held}
use Rattle.rules.specs.Deeds.{plain, held, told, shown, sizes}
use Rattle.rules.specs.Entries.{request, block, located}
use Rattle.opcodes.specs.Walks.{telling_all, keeping_all}
use Rattle.rules.specs.Lists.{fitting, reading, writing}
use Rattle.rules.specs.Opcodes.{telling, plan166, plan167, plan10, plan11}
use Rattle.opcodes.proofs.Spare.{none_spare}
use Rattle.opcodes.specs.Blocks.{Run, spanned, table_block, block_pieces}

then_pass : {A B : Type 0} (a : A) (f : A → Check B) → (pass a >>= f) ≡ f a
unfolding ◌>>=◌
then_pass a f = refl

-- ---- 167

pub plan167_block : (L : ℕ) (h : Held) (d : List ℕ)
    → plan167 gateway L h d ≡ (spanned d >>= λ run. test (leb (point run.index).reads L) 25 0 >>= λ _. test (leb (length d) 4) 21 4 >>= λ _. fitting (block_pieces run d)
    >>= λ _. pass (telling h (block_pieces run d)))
unfolding plan167 spanned block_pieces
plan167_block L h d = simp (then_then, then_pass, none_spare)

module _ (run : Run) (d : List ℕ) (four : 4 ≤ length d) where
  pub block_sizes : sizes (block_pieces run d) ≡ 4 + span_of run.index run.start run.count
  unfolding block_pieces
  block_sizes = omega (arith, length-take-le 4 d four)

  pub block_fitting : fitting (block_pieces run d) ≡ test (leb (4 + span_of run.index run.start run.count) 255) 28 0
  unfolding fitting
  block_fitting = rw block_sizes refl

pub block_told : (s : List ℕ) (run : Run) (d : List ℕ) → length d ≡ 4
    → told gateway s (block_pieces run d) ≡ d ++ values gateway s run.index run.logical run.start run.count
unfolding told shown block_pieces
block_told s run d four = ap (λ (v : List ℕ). v ++ values gateway s run.index run.logical run.start run.count) (ap (λ (n : ℕ). take n d) (sym four) ∙ take-length d)

-- ---- 166

pub plan166_block : (L : ℕ) (h : Held) (d : List ℕ)
    → plan166 gateway L h d ≡ (spanned d >>= λ run. test (leb (point run.index).writes L) 25 0
    >>= λ _. keeping_all h (writing gateway (request L) h.store (block run.index run.logical run.start) run.count (drop 4 d) 4 []))
unfolding plan166 spanned keeping_all
plan166_block L h d = simp (then_then, then_pass)

-- ---- 10 and 11

-- what 10 tells before the first value: the three bytes that name the locations, and the table's revision
pub plan10_table : (L : ℕ) (h : Held) (d : List ℕ)
    → plan10 gateway L h d ≡ (table_block d >>= λ run. telling_all h (reading gateway (request L) (located (values gateway h.store run.index run.logical run.start run.count))
    run.count (drop 3 d) 3 (held tables (get_or d 0 0) 0 1 ∷ plain (take 3 d) ∷ [])))
unfolding plan10 table_block telling_all
plan10_table L h d = simp (then_then, then_pass)

pub plan11_table : (L : ℕ) (h : Held) (d : List ℕ)
    → plan11 gateway L h d ≡ (table_block d >>= λ run. keeping_all h (writing gateway (request L) h.store (located (values gateway h.store run.index run.logical run.start run.count))
    run.count (drop 3 d) 3 []))
unfolding plan11 table_block keeping_all
plan11_table L h d = simp (then_then, then_pass)

-- the levels of a row are its type's
pub ruleset row_levels = (row_reads, row-writes)

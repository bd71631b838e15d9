-- What a request that passes its checks does: pieces to tell, values to store, the clock that it leaves.
-- Both lists have the newest first, so that a list that is one longer is one turn of a loop.
-- Assumes nothing.
use Rattle.std.specs.Prelude.{ℕ, ◌+◌, List, [], ◌∷◌, ◌++◌, length}
use Rattle.points.specs.Types.{Build}
use Rattle.store.specs.Store.{Write, values, span_of}

-- a piece of a reply: bytes as they are, or what n parameters from k up hold
pub data Piece : Type 0 where
  plain : List ℕ → Piece
  held : (type logical parameter count : ℕ) → Piece

pub record Deeds : Type 0 where
  pub says : List Piece
  pub puts : List Write
  pub clock : List ℕ

-- the bytes of a piece, and of pieces
unfoldable pub shown : Build → List ℕ → Piece → List ℕ
shown b s (plain v) = v
shown b s (held i l k n) = values b s i l k n

unfoldable pub told : Build → List ℕ → List Piece → List ℕ
told b s [] = []
told b s (p ∷ ps) = told b s ps ++ shown b s p

-- how many they are
abbrev pub size_of : Piece → ℕ
size_of (plain v) = length v
size_of (held i l k n) = span_of i k n

abbrev pub sizes : List Piece → ℕ
sizes [] = 0
sizes (p ∷ ps) = sizes ps + size_of p

-- Bytes and numbers: least significant byte first.
-- Assumes nothing.
use Rattle.std.specs.Prelude.{ℕ, zero, suc, ◌+◌, ◌*◌, ◌/◌, ◌%◌, List, [], ◌∷◌}
use Prim.Native.Char.{code}
use Prim.Native.String.{String, [] as []ˢ, ◌∷◌ as ◌∷ˢ◌}

-- the number that bytes say
unfoldable pub le : List ℕ → ℕ
le [] = 0
le (b ∷ bs) = b + 256 * le bs

-- the n bytes of a number
abbrev pub bytes : ℕ → ℕ → List ℕ
bytes zero x = []
bytes (suc n) x = x % 256 ∷ bytes n (x / 256)

-- a text's bytes, so that a definition reads as its document does: `ascii "Soft Pt "`
abbrev pub ascii : String → List ℕ
ascii []ˢ = []
ascii (c ∷ˢ s) = code c ∷ ascii s

-- n bytes of a text, spaces behind it
abbrev pub padded : ℕ → List ℕ → List ℕ
padded zero w = []
padded (suc n) [] = 32 ∷ padded n []
padded (suc n) (x ∷ w) = x ∷ padded n w

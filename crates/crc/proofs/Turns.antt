-- Four turns of the CRC's register at once: the turn is linear, and a register whose low four bits are 0 moves by four places.
-- Assumes nothing.
use mathlib.Core.Path.{◌≡◌, refl, sym, ap, ap₂, ◌∙◌}
use native.Mathlib.Omega.{arith}
use Prim.Native.Nat.{ℕ, zero, suc, ◌*◌, ◌/◌, ◌%◌, ◌^◌, ◌<◌}
use native.Mathlib.Nat.{mul-one, mod-lt, zero-lt-suc, div-add-mod'}
use mathlib.Core.Bool.{Bool}
use mathlib.Core.List.{List, [], ◌∷◌}
use lib.Dec.{eqb}
use lib.ListN.{get_or}
use borrow.Author.Tests.{eqb-true}
use Rattle.base.proofs.Below.{at-below}
use lib.Bits.{bit_xor, xor_shr, xor_mod, xor_assoc, xor_comm, xor_zero_r, xor_shifted, shifted_half, shifted_even}
use Rattle.crc.specs.Crc.{turn, turns4, turned}

-- a fact of the two binary digits holds of a number below 2
pub two : (P : ℕ → Type 0) → P 0 → P 1 → (x : ℕ) → x < 2 → P x
two P p q zero h = p
two P p q (suc zero) h = q
two P p q (suc (suc n)) h = absurd (omega arith)

pub odd_lt : (n : ℕ) → n % 2 < 2
odd_lt n = mod-lt n (zero-lt-suc 1)

-- of two binary digits
scaled : (x y : ℕ) → x < 2 → y < 2 → bit_xor x y * 0xa001 ≡ bit_xor (x * 0xa001) (y * 0xa001)
scaled zero zero h k = refl
scaled zero (suc zero) h k = refl
scaled zero (suc (suc y)) h k = absurd (omega arith)
scaled (suc zero) zero h k = refl
scaled (suc zero) (suc zero) h k = refl
scaled (suc zero) (suc (suc y)) h k = absurd (omega arith)
scaled (suc (suc x)) y h k = absurd (omega arith)

pub xor_swap : (a b c d : ℕ) → bit_xor (bit_xor a b) (bit_xor c d) ≡ bit_xor (bit_xor a c) (bit_xor b d)
xor_swap a b c d =
    xor_assoc a b (bit_xor c d)
    ∙ ap (λ (x : ℕ). bit_xor a x) (sym (xor_assoc b c d) ∙ ap (λ (x : ℕ). bit_xor x d) (xor_comm b c) ∙ xor_assoc c b d)
    ∙ sym (xor_assoc a c (bit_xor b d))

pub turn_xor : (a b : ℕ) → turn (bit_xor a b) ≡ bit_xor (turn a) (turn b)
unfolding turn
turn_xor a b =
    ap₂ (λ (x y : ℕ). bit_xor x (y * 0xa001)) (xor_shr a b 1) (xor_mod a b 1)
    ∙ ap (λ (x : ℕ). bit_xor (bit_xor (a / 2) (b / 2)) x) (scaled (a % 2) (b % 2) (odd_lt a) (odd_lt b))
    ∙ xor_swap (a / 2) (b / 2) (a % 2 * 0xa001) (b % 2 * 0xa001)

pub turns4_xor : (a b : ℕ) → turns4 (bit_xor a b) ≡ bit_xor (turns4 a) (turns4 b)
unfolding turns4
turns4_xor a b = simp turn_xor

turn_even : (a k : ℕ) → turn (a * 2 ^ suc k) ≡ a * 2 ^ k
unfolding turn
turn_even a k =
    ap₂ (λ (x y : ℕ). bit_xor x (y * 0xa001)) (shifted_half a k) (shifted_even a k) ∙ xor_zero_r (a * 2 ^ k)

pub turns4_even : (a : ℕ) → turns4 (a * 16) ≡ a
unfolding turns4
turns4_even a =
    ap (λ (x : ℕ). turn (turn (turn x))) (turn_even a 3)
    ∙ ap (λ (x : ℕ). turn (turn x)) (turn_even a 2)
    ∙ ap turn (turn_even a 1)
    ∙ turn_even a 0
    ∙ mul-one a

-- what falls out decides by itself what is added
pub turns4-split : (c : ℕ) → turns4 c ≡ bit_xor (c / 16) (turns4 (c % 16))
turns4-split c =
    ap turns4 (sym (xor_shifted (c / 16) 4 (c % 16) (mod-lt c (zero-lt-suc 15)) ∙ div-add-mod' c 16))
    ∙ turns4_xor (c / 16 * 16) (c % 16)
    ∙ ap (λ (x : ℕ). bit_xor x (turns4 (c % 16))) (turns4_even (c / 16))

right : ℕ → Bool
right k = eqb (get_or turned k 0) (turns4 k)

-- the table's rule is a test at each of its sixteen entries, which is computed
entry : (c : ℕ) → get_or turned (c % 16) 0 ≡ turns4 (c % 16)
unfolding turned right turns4 turn
entry c = eqb-true _ _ (at-below 16 right refl (c % 16) (mod-lt c (zero-lt-suc 15)))

-- the code's own table, so that a wrong entry of it is found
abbrev entries : List ℕ
entries =
    0x0000 ∷ 0xcc01 ∷ 0xd801 ∷ 0x1400 ∷ 0xf001 ∷ 0x3c00 ∷ 0x2800 ∷ 0xe401
    ∷ 0xa001 ∷ 0x6c00 ∷ 0x7800 ∷ 0xb401 ∷ 0x5000 ∷ 0x9c01 ∷ 0x8801 ∷ 0x4400 ∷ []

pub by_table : (c : ℕ) → bit_xor (c / 16) (get_or entries (c % 16) 0) ≡ turns4 c
unfolding turned turns4 turn
by_table c = ap (λ (x : ℕ). bit_xor (c / 16) x) (entry c) ∙ sym (turns4-split c)

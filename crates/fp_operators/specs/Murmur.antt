-- MurmurHash3, x86, 32 bits, with the seed 0, of a list of bytes. It computes with numbers below
-- 2 ^ 32.
use Rattle.std.specs.Prelude.{ℕ, ◌+◌, ◌*◌, ◌/◌, ◌%◌, ◌^◌, List, [], ◌∷◌, length, bit_xor}
use Rattle.std.specs.Int.{w32, rotate_left, from_le_bytes}

abbrev pub plus : ℕ → ℕ → ℕ
plus a b = (a + b) % 2 ^ 32

abbrev pub times : ℕ → ℕ → ℕ
times a b = (a * b) % 2 ^ 32

-- four bytes, the lowest first
abbrev pub word : ℕ → ℕ → ℕ → ℕ → ℕ
word a b c d = from_le_bytes w32 (a ∷ b ∷ c ∷ d ∷ [])

abbrev pub scrambled : ℕ → ℕ
scrambled k = times (rotate_left w32 (times k 0xcc9e2d51) 15) 0x1b873593

-- the state with a block taken into it
abbrev pub mixed : ℕ → ℕ → ℕ
mixed h k = plus (times (rotate_left w32 (bit_xor h (scrambled k)) 13) 5) 0xe6546b64

-- the state after the bytes: blocks of four, and a tail of one to three
abbrev pub absorbed : ℕ → List ℕ → ℕ
absorbed h [] = h
absorbed h (a ∷ []) = bit_xor h (scrambled (word a 0 0 0))
absorbed h (a ∷ b ∷ []) = bit_xor h (scrambled (word a b 0 0))
absorbed h (a ∷ b ∷ c ∷ []) = bit_xor h (scrambled (word a b c 0))
absorbed h (a ∷ b ∷ c ∷ d ∷ bs) = absorbed (mixed h (word a b c d)) bs

abbrev pub folded : ℕ → ℕ → ℕ
folded h shift = bit_xor h (h / 2 ^ shift)

abbrev pub finished : ℕ → ℕ
finished h = folded (times (folded (times (folded h 16) 0x85ebca6b) 13) 0xc2b2ae35) 16

abbrev pub murmur : List ℕ → ℕ
murmur bs = finished (bit_xor (absorbed 0 bs) (length bs % 2 ^ 32))

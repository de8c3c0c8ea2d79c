-- Mark bytes as a set of places. Assumes nothing.
use Rattle.std.specs.Prelude.{ℕ, zero, suc, ◌+◌, ◌*◌, ◌/◌, ◌%◌, ◌^◌, ◌≤◌, Bool, List, map, eqb, length, get_or, set}
use Rattle.std.specs.Int.Bits.{bit_or}
use Rattle.basis.specs.Lists.{up_from, sum}
use Rattle.spec.specs.Store.{mark_at}

-- place t is one of the set: its mark is 1
unfoldable pub marked : List ℕ → ℕ → Bool
marked bytes t = eqb (mark_at bytes t) 1

-- the bytes with the mark of place t set
unfoldable pub with_mark : List ℕ → ℕ → List ℕ
with_mark bytes t = set bytes (t / 8) (bit_or (get_or bytes (t / 8) 0) (2 ^ (t % 8)))

-- how many places the set has
unfoldable pub ones : List ℕ → ℕ
ones bytes = sum (map (mark_at bytes) (up_from 0 (8 * length bytes)))

-- few enough for a number of 32 bits: 2^28 bytes have 2^31 places
abbrev pub Countable : List ℕ → Type 0
Countable bytes = length bytes ≤ 268435456

-- how many places of the k bytes from `at` on are marked
unfoldable pub ones_in : List ℕ → ℕ → ℕ → ℕ
ones_in bytes at k = sum (map (mark_at bytes) (up_from (8 * at) (8 * k)))

-- "bytes gathered into one .. number" (document 02, A.4): the k bytes from `at` on, the first lowest
unfoldable pub gathered : List ℕ → ℕ → ℕ → ℕ
gathered bytes at zero = 0
gathered bytes at (suc k) = gathered bytes (suc at) k * 256 + get_or bytes at 0

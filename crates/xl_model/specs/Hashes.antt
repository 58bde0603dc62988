-- Hashes of tables: the finalizer of SplitMix64 (Steele, Lea and Flood, 2014). All steps wrap at 64 bits.
use Rattle.std.specs.Prelude.{ℕ, ◌+◌, ◌*◌, ◌/◌, ◌%◌, ◌^◌, bit_xor}

-- A word, each bit of which is exclusive-ored with the bit `bits` places above it.
abbrev pub mixed_right : ℕ → ℕ → ℕ
mixed_right bits x = bit_xor x (x / 2 ^ bits)

-- A word mixed, so that each of its bits moves about half of those of the answer.
unfoldable pub mix : ℕ → ℕ
mix x = mixed_right 31
    (mixed_right 27 (mixed_right 30 x * 0xbf58476d1ce4e5b9 % 2 ^ 64) * 0x94d049bb133111eb % 2 ^ 64)

-- The hash of a key in cuckoo way w: `mix` of the key moved by w + 1 golden ratios.
unfoldable pub way_hash : ℕ → ℕ → ℕ
way_hash w key = mix ((key + (w + 1) * 0x9e3779b97f4a7c15) % 2 ^ 64)

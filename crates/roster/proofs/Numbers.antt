-- A number in two bytes, and in four.
use Rattle.std.proofs.Common.{◌≡◌, ℕ, ◌+◌, ◌*◌, ◌/◌, ◌%◌, ◌<◌, arith}

pub high_byte : (a b v : ℕ) → 256 * a + b ≡ v → b < 256 → a ≡ v / 256
high_byte a b v e l = omega arith

pub low_byte : (a b v : ℕ) → 256 * a + b ≡ v → b < 256 → b ≡ v % 256
low_byte a b v e l = omega arith

pub two_back : (a b v : ℕ) → a ≡ v / 256 → b ≡ v % 256 → 256 * a + b ≡ v
two_back a b v p q = omega arith

pub high_half : (a b v : ℕ) → 65536 * a + b ≡ v → b < 65536 → a ≡ v / 65536
high_half a b v e l = omega arith

pub low_half : (a b v : ℕ) → 65536 * a + b ≡ v → b < 65536 → b ≡ v % 65536
low_half a b v e l = omega arith

pub halves_back : (a b v : ℕ) → a ≡ v / 65536 → b ≡ v % 65536 → 65536 * a + b ≡ v
halves_back a b v p q = omega arith

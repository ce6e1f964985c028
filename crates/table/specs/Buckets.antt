-- In which bucket a key is kept: the hash of the node, scaled down from the 2^32 words to the n buckets. What `bucket` promises.
-- Assumes nothing.
use Rattle.std.specs.Prelude.{◌≡◌, refl, ◌*◌, ◌/◌, ◌<◌, ◌^◌, ◌≤◌, ℕ}
use Rattle.std.proofs.Common.{div-lt_iff_lt-mul, mul_comm, mul-le-mul, mul-lt-mul_of_pos_right, arith}
use Rattle.language.specs.Hashed.{hash}
use Rattle.language.specs.Term.{Term}

unfoldable pub bucket_of : ℕ → Term → ℕ
bucket_of n t = hash t * n / 4294967296

-- what `bucket` answers
pub record Lands (n : ℕ) (t : Term) (r : ℕ) : Type 0 where
  pub exact : r ≡ bucket_of n t
  pub inside : r < n

-- as the code finds it: h is the hash
pub product_low : (h n : ℕ) → h < 2 ^ 32 → n ≤ 65536 → h * n < 2 ^ 64
product_low h n a b = let l : h ≤ 4294967296 = omega arith in let p : h * n ≤ 4294967296 * 65536 = mul-le-mul l b in omega arith

pub lands : (h n : ℕ) (t : Term) → h ≡ hash t → h < 2 ^ 32 → 1 ≤ n → Lands n t (h * n / 4294967296)
unfolding bucket_of
lands h n t e a b =
    let l : h * n < 4294967296 * n = mul-lt-mul_of_pos_right a b in
    record { exact = rw e refl; inside = (div-lt_iff_lt-mul {k = 4294967296} {x = h * n} {y = n} (omega arith)).1 (rw (mul_comm n) l) }

-- What the definitions of Text come to: a word is written in as few digits as hold it. Assumes nothing.
use Rattle.std.specs.Prelude.{ℕ, zero, suc, ◌+◌, ◌-◌, ◌/◌, ◌^◌, ◌≤◌, ◌<◌, ◌≡◌, refl, Bool, true, false, cond, [], ◌∷◌}
use Rattle.std.specs.Prelude.{ltb}
use Rattle.std.proofs.Math.Nat.{pow-succ'}
use Rattle.std.proofs.Common.{arith, ltb-true, ltb-false}
use Rattle.io.specs.Digits.{IsDigitCount}
use Rattle.text.specs.Text.{places_in, places, decimal_bytes, refusal_line}

-- a digit more, where the rest has p
more-digits : (n p : ℕ) → 10 ≤ n → IsDigitCount 10 1 (n / 10) p → IsDigitCount 10 1 n (1 + p)
more-digits n zero h few = absurd (omega (arith, few.0))
more-digits n (suc zero) h few = (omega arith, omega (arith, few.1), λ _. h)
more-digits n (suc (suc q)) h few =
    let next : 1 + suc (suc q) ≡ suc (suc (suc q)) = omega arith in
    let here : 1 + suc (suc q) - 1 ≡ suc (suc q) = omega arith in
    let last : suc (suc q) - 1 ≡ suc q = omega arith in
    let below : 10 ^ suc q ≤ n / 10 = rw last at (few.2 (omega arith)) in (
      omega arith,
      rw (next, pow-succ' 10 (suc (suc q))) (omega (arith, few.1)),
      λ _. rw (here, pow-succ' 10 (suc q))
          (omega (arith, below)),
    )

places_in_fewest : (more n : ℕ) → n < 10 ^ suc more → IsDigitCount 10 1 n (places_in more n)
unfolding places_in
places_in_fewest zero n h = (omega arith, h, λ (l : 1 < 1). omega (arith, l))
places_in_fewest (suc more) n h = go (ltb n 10) refl
    (places_in_fewest more (n / 10) (omega (arith, h, pow-succ' 10 (suc more))))
  where
    go : (b : Bool) → ltb n 10 ≡ b → IsDigitCount 10 1 (n / 10) (places_in more (n / 10))
        → IsDigitCount 10 1 n (cond b 1 (1 + places_in more (n / 10)))
    go true is few = (omega arith, ltb-true n 10 is, λ (l : 1 < 1). omega (arith, l))
    go false is few = more-digits n (places_in more (n / 10)) (ltb-false n 10 is) few

-- of a word, and of any number of ten digits
pub places_fewest : (n : ℕ) → n < 10 ^ 10 → IsDigitCount 10 1 n (places n)
places_fewest = places_in_fewest 9

pub places-few : (more n : ℕ) → places_in more n ≤ suc more
unfolding places_in
places-few zero n = omega arith
places-few (suc more) n = go (ltb n 10) (places-few more (n / 10))
  where
    go : (b : Bool) → places_in more (n / 10) ≤ suc more → cond b 1 (1 + places_in more (n / 10)) ≤ suc (suc more)
    go true few = omega arith
    go false few = omega (arith, few)

-- a refusal of two digits
pub refused-line : refusal_line 11 ≡ 114 ∷ 101 ∷ 102 ∷ 117 ∷ 115 ∷ 101 ∷ 100 ∷ 32 ∷ 49 ∷ 49 ∷ 10 ∷ []
unfolding refusal_line decimal_bytes places_in
refused-line = refl

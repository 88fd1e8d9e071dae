-- Counts that are carried as their greatest value where they are above it.
use Rattle.std.proofs.Common.{◌≡◌, ◌≢◌, ℕ, ◌*◌, ◌^◌, ◌-◌, ◌<◌, ◌≤◌, min, ◌⊎◌, inl, inr, ap, sym, ◌∙◌, arith}
use Rattle.std.proofs.lemmas.Bool.{cases_lt}
use Rattle.std.proofs.lemmas.Int.{ints, unsigned_abs-mul}
use Rattle.std.proofs.Math.Nat.{mul-le-mul_left, mul_comm}
use Rattle.std.specs.Prelude.{ℤ, pos, ◌*ℤ◌, unsigned_abs, Err}
use Rattle.steps.proofs.StepLaws.{limit_passed}
use Rattle.steps.specs.Limits.{capped}
use Rattle.steps.specs.Steps.{limit, limited}
use Rattle.steps.specs.TermFaults.{Improper}
use Rattle.steps.specs.declared.limits.LimitName.TheVariants.{Exponent}

-- a capped count times a number of at least 1
capped_product : (a b m : ℕ) → 1 ≤ b → min (min a m * b) m ≡ min (a * b) m
capped_product a b m some = by (cases_lt m a)
  where
    grows : (x y : ℕ) → x ≤ y → b * x ≤ b * y
    grows x y h = mul-le-mul_left b h

    by : (m < a) ⊎ (a ≤ m) → min (min a m * b) m ≡ min (a * b) m
    by (inl h) =
        let least : min a m ≡ m = omega (arith, h) in
        let more : m * 1 ≤ m * b = mul-le-mul_left m some in
        let above : b * m ≤ b * a = grows m a (omega (arith, h)) in
        ap (λ c. min (c * b) m) least ∙ omega (arith, more, above)
    by (inr h) = let least : min a m ≡ a = omega (arith, h) in ap (λ c. min (c * b) m) least

-- a number that isn't 0 has a magnitude of at least 1
pub some_magnitude : (z : ℤ) → z ≢ pos 0 → 1 ≤ unsigned_abs z
some_magnitude z h = omega (arith, ints, h)

-- the count of a product, from that of one factor
pub counted_product : (w c : ℤ) → w ≢ pos 0 → min (capped (unsigned_abs c) * unsigned_abs w) (2 ^ 64 - 1) ≡ capped (unsigned_abs (w *ℤ c))
counted_product w c h =
    capped_product (unsigned_abs c) (unsigned_abs w) (2 ^ 64 - 1) (some_magnitude w h)
    ∙ ap capped (mul_comm (unsigned_abs c) (unsigned_abs w) ∙ sym (unsigned_abs-mul w c))

-- as the code counts it
pub counted_is : (w c : ℤ) (size magnitude counted : ℕ) → w ≢ pos 0 → size ≡ capped (unsigned_abs c) → magnitude ≡ unsigned_abs w
    → counted ≡ min (size * magnitude) (2 ^ 64 - 1) → counted ≡ capped (unsigned_abs (w *ℤ c))
counted_is w c size magnitude counted some p q e = e ∙ ap (λ s. min (s * magnitude) (2 ^ 64 - 1)) p
    ∙ ap (λ m. min (capped (unsigned_abs c) * m) (2 ^ 64 - 1)) q ∙ counted_product w c some

-- a factor is no greater than the product
pub factor_small : (w c : ℤ) (greatest : ℕ) → w ≢ pos 0 → unsigned_abs (w *ℤ c) ≤ greatest → unsigned_abs c ≤ greatest
factor_small w c greatest h small =
    let times : unsigned_abs c * 1 ≤ unsigned_abs c * unsigned_abs w = mul-le-mul_left (unsigned_abs c) (some_magnitude w h) in
    omega (arith, times, small, unsigned_abs-mul w c)

-- the limit of a constant exponent, from its count
pub count_passed : (w c : ℤ) (counted : ℕ) → counted ≡ capped (unsigned_abs (w *ℤ c)) → 12 < counted
    → limited {R = Improper} Exponent (unsigned_abs (w *ℤ c)) c ≡ Err (limit Exponent counted)
count_passed w c counted is above =
    limit_passed Exponent (unsigned_abs (w *ℤ c)) c (omega (arith, is, above)) ∙ ap (λ n. Err (limit Exponent n)) (sym is)

pub count_kept : (w c : ℤ) (counted : ℕ) → counted ≡ capped (unsigned_abs (w *ℤ c)) → counted ≤ 12 → unsigned_abs (w *ℤ c) ≤ 12
count_kept w c counted is small = omega (arith, is, small)

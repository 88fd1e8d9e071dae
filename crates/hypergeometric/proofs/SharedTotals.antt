-- The powers of a list add up to those that are left of it and those taken from it.
use Rattle.std.proofs.Common.{◌≡◌, ◌≢◌, ℕ, ◌+◌, ◌≤◌, refl, ap, sym, ◌∙◌, List, [], ◌∷◌, arith, subst, ◌⊎◌, inl, inr}
use Rattle.std.specs.List.{AllByRecursion}
use Rattle.hypergeometric.specs.LinearForm.{Factor}
use Rattle.hypergeometric.specs.FormOrder.{NoFormTwice}
use Rattle.hypergeometric.specs.TermFacts.{total_power}
use Rattle.hypergeometric.specs.FactorLists.{power_of, without}
use Rattle.hypergeometric.proofs.SharedForms.{IsAbsent, power_here, power_later, same_or_other, absent_power, without_by}

-- for each entry of the first list the power of its form in the second
abbrev taken : List Factor → List Factor → ℕ
taken [] ys = 0
taken (x ∷ xs) ys = power_of x.form ys + taken xs ys

split : (xs ys : List Factor) → AllByRecursion (λ x. power_of x.form ys ≤ x.power) xs → total_power xs ≡ total_power (without xs ys) + taken xs ys
split [] ys h = omega arith
split (x ∷ xs) ys h =
    let rest : total_power xs ≡ total_power (without xs ys) + taken xs ys = split xs ys h.1 in
    without_by (λ zs. total_power (x ∷ xs) ≡ total_power zs + taken (x ∷ xs) ys) x xs ys (λ e. omega (arith, e, h.0, rest))
    (λ e. omega (arith, h.0, rest))

takes_nothing : (b : Factor) (xs ys : List Factor) → IsAbsent b.form xs → taken xs (b ∷ ys) ≡ taken xs ys
takes_nothing b [] ys h = refl
takes_nothing b (x ∷ xs) ys h = λ i. power_later x.form b ys h.0 i + takes_nothing b xs ys h.1 i

takes_power : (b : Factor) (xs ys : List Factor) → NoFormTwice xs → 1 ≤ power_of b.form xs → power_of b.form ys ≡ 0 → taken xs (b ∷ ys)
    ≡ b.power + taken xs ys
takes_power b [] ys h some none = absurd (omega (arith, some))
takes_power b (x ∷ xs) ys h some none = by (same_or_other b.form x.form) (λ there. takes_power b xs ys h.1 there none)
  where
    by : (b.form ≡ x.form) ⊎ (b.form ≢ x.form) → (1 ≤ power_of b.form xs → taken xs (b ∷ ys) ≡ b.power + taken xs ys)
        → taken (x ∷ xs) (b ∷ ys) ≡ b.power + taken (x ∷ xs) ys
    by (inl e) rest =
        let nothing : power_of x.form ys ≡ 0 = ap (λ l. power_of l ys) (sym e) ∙ none in
        let others : taken xs (b ∷ ys) ≡ taken xs ys = takes_nothing b xs ys (subst (λ l. IsAbsent l xs) (sym e) h.0) in
        omega (arith, power_here x.form b ys (sym e), others, nothing)
    by (inr n) rest =
        let others : taken xs (b ∷ ys) ≡ b.power + taken xs ys = rest (subst (λ m. 1 ≤ m) (power_later b.form x xs n) some) in
        omega (arith, power_later x.form b ys (λ s. n (sym s)), others)

takes_all : (xs ys : List Factor) → NoFormTwice xs → NoFormTwice ys → AllByRecursion (λ b. 1 ≤ power_of b.form xs) ys → taken xs ys ≡ total_power ys
takes_all xs [] h distinct some = none xs
  where
    none : (xs : List Factor) → taken xs [] ≡ 0
    none [] = refl
    none (x ∷ xs) = omega (arith, none xs)
takes_all xs (b ∷ ys) h distinct some =
    let first : taken xs (b ∷ ys) ≡ b.power + taken xs ys = takes_power b xs ys h some.0 (absent_power b.form ys distinct.0) in
    omega (arith, first, takes_all xs ys h distinct.1 some.1)

-- where the forms of the second list stand in the first with powers that are no less
pub total_parts : (xs ys : List Factor) → NoFormTwice xs → NoFormTwice ys → AllByRecursion (λ b. 1 ≤ power_of b.form xs) ys
    → AllByRecursion (λ x. power_of x.form ys ≤ x.power) xs → total_power xs ≡ total_power (without xs ys) + total_power ys
total_parts xs ys h distinct some below = omega (arith, split xs ys below, takes_all xs ys h distinct some)

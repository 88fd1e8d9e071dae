-- The steps of writing the monomials of a polynomial.
use Rattle.std.specs.Prelude.{◌≡◌, ℕ, suc, ◌-◌, ◌<◌, List, ◌∷◌, ◌++◌, map, length, drop}
use Rattle.std.proofs.Common.{ap, sym, ◌∙◌, arith, append_assoc, get_or}
use Rattle.std.proofs.Math.Seq.{drop-cons}
use Rattle.ring_laws.specs.Meaning.{Meaning, listed, parted-joined}
use Rattle.polynomial_sums.specs.PolynomialSums.{Letter, power_in, with_power, falling, monomials_of, times, IsFresh}
use Rattle.polynomial_sums.proofs.Placing.{falling_times}
use Rattle.spelled.specs.Monomials.{MonomialValue}

module _ {T : Type 0} (meaning : T → Meaning) (l : Letter) (ls : List Letter) (fresh : IsFresh l ls) (powers : MonomialValue)
    (free : power_in l powers ≡ 0) where
  -- the monomials of the coefficients from a power on
  abbrev pub from_power : List T → ℕ → List MonomialValue
  from_power xs i = map (times powers) (falling l (monomials_of ls) (map meaning (drop i xs)) i)

  from_here : (xs : List T) (i : ℕ) (d : T) → i < length xs
      → from_power xs i ≡ from_power xs (suc i) ++ map (times (with_power l i powers)) (monomials_of ls (meaning (get_or xs i d)))
  from_here xs i d h =
      ap (λ ys. map (times powers) (falling l (monomials_of ls) (map meaning ys) i)) (drop-cons xs i d h)
      ∙ falling_times l ls powers (meaning (get_or xs i d)) (map meaning (drop (suc i) xs)) i fresh free

  -- the coefficient below is appended
  pub one_pushed : (xs : List T) (p : ℕ) (x : T) (old now new : List MonomialValue) (placed : MonomialValue) → 0 < p → p - 1 < length xs
      → x ≡ get_or xs (p - 1) x
      → placed ≡ with_power l (p - 1) powers → now ≡ old ++ from_power xs p → new ≡ now ++ map (times placed) (monomials_of ls (meaning x))
      → new ≡ old ++ from_power xs (p - 1)
  one_pushed xs p x old now new placed some h is set e f =
      let q = p - 1 in
      let up : p ≡ suc q = omega (arith, some) in
      let last = map (times (with_power l q powers)) (monomials_of ls (meaning x)) in
      f ∙ (λ i. e i ++ map (times (set i)) (monomials_of ls (meaning x)))
      ∙ append_assoc old (from_power xs p) last
      ∙ ap (λ t. old ++ t) (ap (λ j. from_power xs j ++ last) up
      ∙ ap (λ y. from_power xs (suc q) ++ map (times (with_power l q powers)) (monomials_of ls (meaning y))) is
      ∙ sym (from_here xs q x h))

-- the monomials of all coefficients are those of the polynomial
pub of_all : {T : Type 0} (meaning : T → Meaning) (l : Letter) (ls letters : List Letter) (xs : List T) (p : Meaning) → letters ≡ l ∷ ls
    → listed (map meaning xs) ≡ p
    → falling l (monomials_of ls) (map meaning xs) 0 ≡ monomials_of letters p
of_all meaning l ls letters xs p e f =
    ap (λ t. falling l (monomials_of ls) t 0) (sym (parted-joined (map meaning xs))) ∙ ap (monomials_of (l ∷ ls)) f
    ∙ ap (λ t. monomials_of t p) (sym e)

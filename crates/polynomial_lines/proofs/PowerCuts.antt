-- Where the monomials with a power, the last ones, begin.
use Rattle.std.specs.Prelude.{◌≡◌, ℕ, zero, suc, ◌-◌, ◌≤◌, ◌<◌, List, [], ◌∷◌, ◌++◌, map, length}
use Rattle.std.specs.List.{AllByRecursion}
use Rattle.std.proofs.Common.{ap, sym, ◌∙◌, subst, arith, get_or, take, drop, ⊎_elim}
use Rattle.std.proofs.Math.Nat.{eq-or-lt_of_le}
use Rattle.std.proofs.lemmas.List.{take-map, drop-map}
use Rattle.std.proofs.Math.Seq.{take-append_seam, drop-append_seam}
use Rattle.polynomial_sums.specs.PolynomialSums.{Letter, power_in}
use Rattle.polynomial_sums.proofs.Powers.{HavePower, HaveAtLeast}
use Rattle.spelled.specs.Monomials.{MonomialValue, monomial_of}
use Rattle.spelled.specs.declared.monomials.Monomial as declared

-- what holds of each in front holds at each place there, and so behind
at_front : (P : MonomialValue → Type 0) (d : declared.Monomial) (ms : List declared.Monomial) (xs ys : List MonomialValue) (i : ℕ)
    → AllByRecursion P xs → map monomial_of ms ≡ xs ++ ys → i < length xs → P (monomial_of (get_or ms i d))
at_front P d ms [] ys i p e h = absurd (omega arith)
at_front P d [] (x ∷ xs) ys i p e h = absurd cc
at_front P d (m ∷ ms) (x ∷ xs) ys zero p e h = let same : monomial_of m ≡ x = cc in subst P (sym same) p.0
at_front P d (m ∷ ms) (x ∷ xs) ys (suc i) p e h =
    let rest : map monomial_of ms ≡ xs ++ ys = cc in
    at_front P d ms xs ys i p.1 rest (omega arith)

at_back : (P : MonomialValue → Type 0) (d : declared.Monomial) (ms : List declared.Monomial) (xs ys : List MonomialValue) (i : ℕ)
    → AllByRecursion P ys → map monomial_of ms ≡ xs ++ ys → length xs ≤ i → i < length ms → P (monomial_of (get_or ms i d))
at_back P d [] xs ys i p e h k = absurd (omega arith)
at_back P d (m ∷ ms) [] [] i p e h k = absurd cc
at_back P d (m ∷ ms) [] (y ∷ ys) zero p e h k = let same : monomial_of m ≡ y = cc in subst P (sym same) p.0
at_back P d (m ∷ ms) [] (y ∷ ys) (suc i) p e h k =
    let rest : map monomial_of ms ≡ ys = cc in
    at_back P d ms [] ys i p.1 rest (omega arith) (omega arith)
at_back P d (m ∷ ms) (x ∷ xs) ys zero p e h k = absurd (omega arith)
at_back P d (m ∷ ms) (x ∷ xs) ys (suc i) p e h k =
    let rest : map monomial_of ms ≡ xs ++ ys = cc in
    at_back P d ms xs ys i p rest (omega arith) (omega arith)

module _ (l : Letter) (power : ℕ) (d : declared.Monomial) (ms : List declared.Monomial) (xs ys : List MonomialValue)
    (front : HaveAtLeast l (suc power) xs) (back : HavePower l power ys) (parts : map monomial_of ms ≡ xs ++ ys) (end : ℕ)
    (enough : length xs ≤ end) (within : end ≤ length ms) where
  -- one that has the power is one of the last
  pub one_less : 0 < end → power_in l (monomial_of (get_or ms (end - 1) d)) ≡ power → length xs ≤ end - 1
  one_less h e = ⊎_elim at_end before (eq-or-lt_of_le enough)
    where
      at_end : length xs ≡ end → length xs ≤ end - 1
      at_end same =
          let more : suc power ≤ power_in l (monomial_of (get_or ms (end - 1) d)) =
          at_front (λ m. suc power ≤ power_in l m) d ms xs ys (end - 1) front parts (omega (arith, same, h)) in
          absurd (omega (arith, more, e))

      before : length xs < end → length xs ≤ end - 1
      before less = omega (arith, less)

  -- one that hasn't is none of them
  pub exactly : 0 < end → ¬ (power_in l (monomial_of (get_or ms (end - 1) d)) ≡ power) → length xs ≡ end
  exactly h n = ⊎_elim (λ same. same) before (eq-or-lt_of_le enough)
    where
      before : length xs < end → length xs ≡ end
      before less = absurd (n (at_back (λ m. power_in l m ≡ power) d ms xs ys (end - 1) back parts (omega (arith, less)) (omega (arith, within, h))))

-- the monomials in front of a place and those from it on
pub cut_here : (ms : List declared.Monomial) (xs ys : List MonomialValue) → map monomial_of ms ≡ xs ++ ys → (end : ℕ) → length xs ≡ end
    → (map monomial_of (take end ms) ≡ xs) × (map monomial_of (drop end ms) ≡ ys)
cut_here ms xs ys parts end e = (
  sym (take-map monomial_of end ms) ∙ ap (take end) parts ∙ ap (λ i. take i (xs ++ ys)) (sym e) ∙ take-append_seam xs ys,
  sym (drop-map monomial_of end ms) ∙ ap (drop end) parts ∙ ap (λ i. drop i (xs ++ ys)) (sym e) ∙ drop-append_seam xs ys,
)

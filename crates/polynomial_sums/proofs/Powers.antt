-- Powers of letters: what is set, what stays, and where a list of monomials is parted by a power.
use Rattle.std.specs.Prelude.{◌≡◌, ◌≢◌, ℕ, suc, ◌≤◌, List, [], ◌∷◌, ◌++◌, map}
use Rattle.std.specs.List.{AllByRecursion}
use Rattle.std.proofs.Common.{refl, ap, sym, ◌∙◌, arith}
use Rattle.exact_texts.specs.Sums.{Monomial}
use Rattle.polynomial_sums.specs.PolynomialSums.{Letter, letter_n, letter_k, letter_x, power_in, with_power}

-- the monomials have this power
abbrev pub HavePower : Letter → ℕ → List Monomial → Type 0
HavePower l p ms = AllByRecursion (λ m. power_in l m ≡ p) ms

abbrev pub HaveAtLeast : Letter → ℕ → List Monomial → Type 0
HaveAtLeast l p ms = AllByRecursion (λ m. p ≤ power_in l m) ms

pub set_power : (l : Letter) (p : ℕ) (m : Monomial) → power_in l (with_power l p m) ≡ p
set_power letter_n p m = refl
set_power letter_k p m = refl
set_power letter_x p m = refl

pub other_power : (l j : Letter) (p : ℕ) (m : Monomial) → l ≢ j → power_in l (with_power j p m) ≡ power_in l m
other_power letter_n letter_n p m h = absurd (h refl)
other_power letter_n letter_k p m h = refl
other_power letter_n letter_x p m h = refl
other_power letter_k letter_n p m h = refl
other_power letter_k letter_k p m h = absurd (h refl)
other_power letter_k letter_x p m h = refl
other_power letter_x letter_n p m h = refl
other_power letter_x letter_k p m h = refl
other_power letter_x letter_x p m h = absurd (h refl)

-- a power is put back
back : (l : Letter) (p : ℕ) (m : Monomial) → power_in l m ≡ 0 → with_power l 0 (with_power l p m) ≡ m
back letter_n p m h = ap (λ q. record m { n_power = q }) (sym h)
back letter_k p m h = ap (λ q. record m { k_power = q }) (sym h)
back letter_x p m h = ap (λ q. record m { x_power = q }) (sym h)

pub all_set : (l : Letter) (p : ℕ) (ms : List Monomial) → HavePower l p (map (with_power l p) ms)
all_set l p [] = tt
all_set l p (m ∷ ms) = (set_power l p m, all_set l p ms)

-- monomials without a letter are told by what they are with a power of it
pub told_by_power : (l : Letter) (p : ℕ) (ms ws : List Monomial) → HavePower l 0 ms → HavePower l 0 ws
    → map (with_power l p) ms ≡ map (with_power l p) ws → ms ≡ ws
told_by_power l p [] [] h k e = refl
told_by_power l p [] (w ∷ ws) h k e = absurd cc
told_by_power l p (m ∷ ms) [] h k e = absurd cc
told_by_power l p (m ∷ ms) (w ∷ ws) h k e =
    let head : with_power l p m ≡ with_power l p w = cc in
    let tail : map (with_power l p) ms ≡ map (with_power l p) ws = cc in
    let first = sym (back l p m h.0) ∙ ap (with_power l 0) head ∙ back l p w k.0 in
    let rest = told_by_power l p ms ws h.1 k.1 tail in
    λ i. first i ∷ rest i

-- monomials of greater powers in front of those of a power are told apart from them
pub parted_by_power : (l : Letter) (i : ℕ) (xs ys us vs : List Monomial) → HaveAtLeast l (suc i) xs → HaveAtLeast l (suc i) us → HavePower l i ys
    → HavePower l i vs
    → xs ++ ys ≡ us ++ vs → (xs ≡ us) × (ys ≡ vs)
parted_by_power l i [] ys [] vs p q r s e = (refl, e)
parted_by_power l i [] [] (u ∷ us) vs p q r s e = absurd cc
parted_by_power l i [] (y ∷ ys) (u ∷ us) vs p q r s e =
    let same : y ≡ u = cc in
    absurd (omega (arith, q.0, r.0, ap (power_in l) same))
parted_by_power l i (x ∷ xs) ys [] [] p q r s e = absurd cc
parted_by_power l i (x ∷ xs) ys [] (v ∷ vs) p q r s e =
    let same : x ≡ v = cc in
    absurd (omega (arith, p.0, s.0, ap (power_in l) same))
parted_by_power l i (x ∷ xs) ys (u ∷ us) vs p q r s e =
    let head : x ≡ u = cc in
    let tail : xs ++ ys ≡ us ++ vs = cc in
    let rest = parted_by_power l i xs ys us vs p.1 q.1 r s tail in
    let more = rest.0 in
    ((λ j. head j ∷ more j), rest.1)

pub all_append : (P : Monomial → Type 0) (xs ys : List Monomial) → AllByRecursion P xs → AllByRecursion P ys → AllByRecursion P (xs ++ ys)
all_append P [] ys p q = q
all_append P (x ∷ xs) ys p q = (p.0, all_append P xs ys p.1 q)

pub more_powers : (l : Letter) (i : ℕ) (ms : List Monomial) → HavePower l i ms → HaveAtLeast l i ms
more_powers l i [] p = tt
more_powers l i (m ∷ ms) p = (omega (arith, p.0), more_powers l i ms p.1)

pub fewer : (l : Letter) (i : ℕ) (ms : List Monomial) → HaveAtLeast l (suc i) ms → HaveAtLeast l i ms
fewer l i [] p = tt
fewer l i (m ∷ ms) p = (omega (arith, p.0), fewer l i ms p.1)

pub others_stay : (l j : Letter) (p q : ℕ) (ms : List Monomial) → l ≢ j → HavePower l q ms → HavePower l q (map (with_power j p) ms)
others_stay l j p q [] h a = tt
others_stay l j p q (m ∷ ms) h a = (other_power l j p m h ∙ a.0, others_stay l j p q ms h a.1)

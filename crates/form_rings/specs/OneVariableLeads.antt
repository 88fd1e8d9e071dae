-- The leads of the polynomials in n: that of a whole number, and that only zero has the lead 0.
-- These are lemmas: they stand here, and not in proofs/, since the laws of the polynomials in n name them.
use Rattle.std.specs.Prelude.{◌≡◌, zero, suc, ◌-◌, ℤ, pos, negsuc, IsTrue, List, [], ◌∷◌, length, refl}
use Rattle.std.proofs.Common.{ap, sym, ◌∙◌, subst, arith}
use Rattle.std.proofs.lemmas.List.{length-map}
use Rattle.ring_laws.specs.Meaning.{items}
use Rattle.ring_laws.specs.Algebra.{Ops, Passing, within}
use Rattle.ring_laws.specs.Wholes.{number_of, is_zero, whole_algebra}
use Rattle.ring_laws.specs.WholeLaws.{whole_laws}
use Rattle.poly_laws.specs.Lists.{coefficient_at, is_trimmed}
use Rattle.poly_laws.specs.Values.{level}
use Rattle.poly_laws.proofs.Coefficients.{coefficients, meanings-coefficients, coefficients_trimmed, coefficients-nought, coefficients_same, poly_closed}
use Rattle.poly_laws.proofs.Fitting.{item_at}
use Rattle.poly_laws.proofs.Trimming.{last_not}
use Rattle.form_rings.specs.OneVariable.{lead_in_n}

-- the whole numbers, as a ring
abbrev pub numbers : Ops (Passing whole_algebra)
numbers = within whole_algebra whole_laws.closed

-- the coefficients of a polynomial in n
abbrev pub list_of : Passing (level 1) → List (Passing whole_algebra)
list_of f = coefficients whole_algebra whole_laws.closed f

-- the polynomials in n, as a ring
abbrev pub polynomials : Ops (Passing (level 1))
polynomials = within (level 1) (poly_closed whole_algebra whole_laws.closed)

-- the lead is the last coefficient
pub lead_at_end : (f : Passing (level 1)) → lead_in_n f.0 ≡ number_of (coefficient_at numbers (list_of f) (length (list_of f) - 1)).0
lead_at_end f =
    let long : length (items f.0) ≡ length (list_of f) =
    ap length (sym (meanings-coefficients whole_algebra whole_laws.closed f)) ∙ length-map (list_of f) (λ (t : Passing whole_algebra). t.0) in
    ap (λ k. number_of (coefficient_at whole_algebra.ops (items f.0) (k - 1))) long
    ∙ ap number_of (item_at whole_algebra whole_laws.closed whole_laws.ring whole_laws.magnitudes f (length (list_of f) - 1))

zero_number : (x : Passing whole_algebra) → number_of x.0 ≡ pos 0 → x ≡ numbers.nought
zero_number x e = (whole_laws.ring.is_nought x).0 (subst (λ z. IsTrue (is_zero z)) (sym e) refl)

-- the last of the coefficients isn't 0
last_some : (f : Passing (level 1)) (x : Passing whole_algebra) (xs : List (Passing whole_algebra)) → list_of f ≡ x ∷ xs
    → ¬ (coefficient_at numbers (x ∷ xs) (length xs) ≡ numbers.nought)
last_some f x xs is =
    last_not numbers whole_laws.ring x xs
    (subst (λ l. IsTrue (is_trimmed numbers l)) is (coefficients_trimmed whole_algebra whole_laws.closed f))

zero_list : (f : Passing (level 1)) → list_of f ≡ [] → f ≡ polynomials.nought
zero_list f is =
    coefficients_same whole_algebra whole_laws.closed f polynomials.nought
    (is ∙ sym (coefficients-nought whole_algebra whole_laws.closed))

last : (x : Passing whole_algebra) (xs : List (Passing whole_algebra)) → length xs ≡ length (x ∷ xs) - 1
last x xs = omega arith

-- only zero has the lead 0
pub zero_lead : (f : Passing (level 1)) → lead_in_n f.0 ≡ pos 0 → f.0 ≡ (level 1).ops.nought
zero_lead f e = by (list_of f) refl
  where
    by : (xs : List (Passing whole_algebra)) → list_of f ≡ xs → f.0 ≡ (level 1).ops.nought
    by [] is = ap (λ (t : Passing (level 1)). t.0) (zero_list f is)
    by (x ∷ xs) is = absurd (last_some f x xs is (zero_number (coefficient_at numbers (x ∷ xs) (length xs))
        (ap (λ k. number_of (coefficient_at numbers (x ∷ xs) k).0) (last x xs)
        ∙ sym (lead_at_end f ∙ ap (λ l. number_of (coefficient_at numbers l (length l - 1)).0) is) ∙ e)))

-- the lead of a whole number is that number
pub whole_lead : (w : ℤ) → lead_in_n ((level 1).ops.whole w) ≡ w
whole_lead (pos zero) = refl
whole_lead (pos (suc n)) = refl
whole_lead (negsuc n) = refl

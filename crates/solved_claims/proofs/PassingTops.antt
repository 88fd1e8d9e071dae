-- The polynomials p_0 to p_J of the pieces of a term belong to the polynomials.
use Rattle.std.proofs.Common.{◌≡◌, ℕ, zero, suc, ◌<◌, ◌≤◌, IsTrue, List, [], ◌∷◌, map, refl, ap, sym, ◌∙◌, subst, arith}
use Rattle.std.specs.Prelude.{ℤ, pos}
use Rattle.ring_laws.specs.Meaning.{Meaning}
use Rattle.ring_laws.specs.Algebra.{Passing, Closed}
use Rattle.poly_laws.specs.Lists.{trimmed}
use Rattle.poly_laws.specs.Shift.{poly_shift}
use Rattle.poly_laws.specs.Values.{level}
use Rattle.poly_laws.proofs.Coefficients.{meanings_of, coefficients, meanings-coefficients, meanings-trimmed, trimmed_passes}
use Rattle.poly_laws.proofs.Equal.{level_laws}
use Rattle.poly_laws.proofs.StepMeanings.{shift_passes}
use Rattle.division_laws.specs.Polynomials.{Polynomial, constant}
use Rattle.key_laws.specs.KeyEquation.{meanings}
use Rattle.key_laws.specs.KeyRows.{listing}
use Rattle.hypergeometric.specs.ProperTerm.{ProperTerm}
use Rattle.hypergeometric.specs.TermFacts.{IsProper}
use Rattle.hypergeometric.specs.Products.{list_polynomial}
use Rattle.hypergeometric.proofs.FormPolynomials.{o, list_passes}
use Rattle.term_pieces.specs.Pieces.{Top, Pieces, ArePiecesOf, poly_at_later_n, top_at}
use Rattle.term_pieces.specs.Tops.{top_polynomial}

abbrev closed : Closed (level 1)
closed = (level_laws 1).closed

abbrev shifted_in : ℤ → Passing (level 1) → Passing (level 1)
shifted_in w x = (poly_shift (level 0).ops w x.0, shift_passes (level 0) (level_laws 0) w x)

shifted_meanings : (w : ℤ) (xs : List (Passing (level 1)))
    → meanings_of (level 1) closed (map (shifted_in w) xs) ≡ map (poly_shift (level 0).ops w) (meanings_of (level 1) closed xs)
shifted_meanings w [] = refl
shifted_meanings w (x ∷ xs) = ap (λ t. poly_shift (level 0).ops w x.0 ∷ t) (shifted_meanings w xs)

later_passes : (j : ℕ) (x : Passing (level 2)) → IsTrue ((level 2).passes (poly_at_later_n x.0 j))
later_passes j x =
    let xs = coefficients (level 1) closed x in
    trimmed_passes (level 1) closed (map (shifted_in (pos j)) xs) _
    (meanings-trimmed (level 1) closed (map (shifted_in (pos j)) xs)
    ∙ ap (trimmed (level 1).ops) (shifted_meanings (pos j) xs ∙ ap (map (poly_shift (level 0).ops (pos j))) (meanings-coefficients (level 1) closed x)))

top_passes : (t : Top) → IsTrue ((level 2).passes t.poly) → IsTrue ((level 2).passes (top_polynomial t))
top_passes t p =
    let poly : Passing (level 2) = (t.poly, p) in
    let forms : Passing (level 2) = (list_polynomial t.factors, list_passes t.factors) in
    (o.product poly forms).1

pub tops_pass : (f : ProperTerm) (pieces : Pieces) (order : ℕ) → IsProper f → ArePiecesOf pieces f order → (j : ℕ) → j ≤ order
    → IsTrue ((level 2).passes (top_polynomial (top_at pieces j)))
tops_pass f pieces order proper are j l =
    top_passes (top_at pieces j)
    (subst (λ m. IsTrue ((level 2).passes m)) (sym (are.poly j l)) (later_passes j (f.poly, proper.poly.passes)))

-- a polynomial in n alone
pub constant_passes : (x : Passing (level 1)) → IsTrue ((level 2).passes (constant (level 1).ops x.0))
constant_passes x = trimmed_passes (level 1) closed (x ∷ []) _ (meanings-trimmed (level 1) closed (x ∷ []))

-- a list of polynomials that belong
abbrev pub listed_in : (count : ℕ) (g : ℕ → Meaning) → ((j : ℕ) → j < count → IsTrue ((level 2).passes (g j))) → List (Polynomial (level 1))
listed_in zero g p = []
listed_in (suc count) g p = (g 0, p 0 (omega arith)) ∷ listed_in count (λ i. g (suc i)) (λ j l. p (suc j) (omega (arith, l)))

pub listed_is : (count : ℕ) (g : ℕ → Meaning) (p : (j : ℕ) → j < count → IsTrue ((level 2).passes (g j)))
    → meanings (level 1) (listed_in count g p) ≡ listing count g
listed_is zero g p = refl
listed_is (suc count) g p = ap (λ t. g 0 ∷ t) (listed_is count (λ i. g (suc i)) (λ j l. p (suc j) (omega (arith, l))))

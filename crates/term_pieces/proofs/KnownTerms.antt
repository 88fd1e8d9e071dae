-- Pieces of whole terms that are known from elsewhere: their lists, sorted, and their carriers.
use Rattle.std.specs.Prelude.{◌≡◌, ℕ, ℤ, pos, negsuc, List, [], ◌∷◌, refl}
use Rattle.poly_laws.specs.Values.{level}
use Rattle.hypergeometric.specs.Fraction.{Fraction, of_whole}
use Rattle.hypergeometric.specs.LinearForm.{Factor, FactorList}
use Rattle.hypergeometric.specs.ProperTerm.{ProperTerm}
use Rattle.hypergeometric.specs.FactorLists.{factor_with}
use Rattle.hypergeometric.specs.Forms.{form_with}
use Rattle.term_pieces.specs.Products.{IsProductOf}
use Rattle.term_pieces.specs.Pieces.{top_forms, q_forms, r_forms, top_number, carrier_of}
use Rattle.term_pieces.proofs.SomePieces.{is_product}

abbrev pub once : ℤ → ℤ → ℤ → Factor
once n_slope k_slope offset = factor_with (form_with n_slope k_slope offset) 1

-- k and a number
abbrev k_and : ℤ → Factor
k_and c = once (pos 0) (pos 1) c

abbrev pub proper_with : Fraction → Fraction → Fraction → List Factor → List Factor → List Factor → ProperTerm
proper_with scale n_base k_base up down over = record {
  poly = (level 2).ops.unit;
  scale = scale;
  n_base = n_base;
  k_base = k_base;
  up = up;
  down = down;
  over = over;
  guard = [];
}

abbrev pub one : Fraction
one = of_whole (pos 1)

abbrev pub term_with : List Factor → List Factor → List Factor → ProperTerm
term_with up down over = proper_with one one one up down over

abbrev list : ℤ → List Factor → FactorList
list scale xs = record { scale = scale; factors = xs }

abbrev IsTop : FactorList → ProperTerm → ℕ → ℕ → Type 0
IsTop l f order j = IsProductOf l (top_number f order j) (top_forms f order j)

abbrev IsAbove : FactorList → ProperTerm → ℕ → Type 0
IsAbove l f order = IsProductOf l f.k_base.top (q_forms f order)

abbrev IsBelow : FactorList → ProperTerm → ℕ → Type 0
IsBelow l f order = IsProductOf l f.k_base.bottom (r_forms f order)

-- 1/(k (k + 1)): the quotient is k (k + 1)/((k + 1)(k + 2)), and the carrier is 1
abbrev neighbours : ProperTerm
neighbours = term_with [] [] (k_and (pos 0) ∷ k_and (pos 1) ∷ [])

known_neighbours : IsAbove (list (pos 1) (k_and (pos 0) ∷ k_and (pos 1) ∷ [])) neighbours 0
    × IsBelow (list (pos 1) (k_and (pos 1) ∷ k_and (pos 2) ∷ [])) neighbours 0
    × (carrier_of neighbours 0 ≡ term_with [] [] [])
unfolding lib.IntN.pow lib.IntN.one
known_neighbours = (is_product (pos 1) (q_forms neighbours 0), is_product (pos 1) (r_forms neighbours 0), refl)

-- (k + 3)!/k!: the quotient is (k + 4)/(k + 1), and the carrier (k + 3)!/(k - 1)!
abbrev factorials : ProperTerm
factorials = term_with (k_and (pos 3) ∷ []) (k_and (pos 0) ∷ []) []

known_factorials : IsAbove (list (pos 1) (k_and (pos 4) ∷ [])) factorials 0 × IsBelow (list (pos 1) (k_and (pos 1) ∷ [])) factorials 0
    × (carrier_of factorials 0 ≡ term_with (k_and (pos 3) ∷ []) (k_and (negsuc 0) ∷ []) [])
unfolding lib.IntN.pow lib.IntN.one
known_factorials = (is_product (pos 1) (q_forms factorials 0), is_product (pos 1) (r_forms factorials 0), refl)

-- (-1)^k binomial(n,k) at the order 1: p_0 = n - k + 1 = -(k - n - 1), p_1 = n + 1, and the quotient is -(n - k + 1)/(k + 1)
abbrev alternating : ProperTerm
alternating = proper_with one one (of_whole (negsuc 0)) (once (pos 1) (pos 0) (pos 0) ∷ []) (k_and (pos 0) ∷ once (pos 1) (negsuc 0) (pos 0) ∷ []) []

known_alternating : IsTop (list (negsuc 0) (once (negsuc 0) (pos 1) (negsuc 0) ∷ [])) alternating 1 0
    × IsTop (list (pos 1) (once (pos 1) (pos 0) (pos 1) ∷ [])) alternating 1 1
    × IsAbove (list (pos 1) (once (negsuc 0) (pos 1) (negsuc 0) ∷ [])) alternating 1
    × IsBelow (list (pos 1) (k_and (pos 1) ∷ [])) alternating 1
    × (carrier_of alternating 1
    ≡ proper_with one one (of_whole (negsuc 0)) (once (pos 1) (pos 0) (pos 0) ∷ []) (k_and (negsuc 0) ∷ once (pos 1) (negsuc 0) (pos 1) ∷ []) [])
unfolding lib.IntN.pow lib.IntN.one
known_alternating = (
  is_product (top_number alternating 1 0) (top_forms alternating 1 0),
  is_product (top_number alternating 1 1) (top_forms alternating 1 1),
  is_product (negsuc 0) (q_forms alternating 1),
  is_product (pos 1) (r_forms alternating 1),
  refl,
)

-- (k - n)! at the order 1, where the least is (k - n - 1)!: p_0 = k - n, p_1 = 1, and the quotient is k - n
abbrev falling : ProperTerm
falling = term_with (once (negsuc 0) (pos 1) (pos 0) ∷ []) [] []

known_falling : IsTop (list (pos 1) (once (negsuc 0) (pos 1) (pos 0) ∷ [])) falling 1 0 × IsTop (list (pos 1) []) falling 1 1
    × IsAbove (list (pos 1) (once (negsuc 0) (pos 1) (pos 0) ∷ [])) falling 1 × IsBelow (list (pos 1) []) falling 1
    × (carrier_of falling 1 ≡ term_with (once (negsuc 0) (pos 1) (negsuc 0) ∷ []) [] [])
unfolding lib.IntN.pow lib.IntN.one
known_falling = (
  is_product (pos 1) (top_forms falling 1 0),
  is_product (pos 1) (top_forms falling 1 1),
  is_product (pos 1) (q_forms falling 1),
  is_product (pos 1) (r_forms falling 1),
  refl,
)

-- (1/2)^n (2/3)^k at the order 1: p_0 = 2, p_1 = 1, the quotient is 2/3, and the carrier has 3/2 besides
abbrev half : Fraction
half = record { top = pos 1; bottom = pos 2 }

abbrev two_thirds : Fraction
two_thirds = record { top = pos 2; bottom = pos 3 }

abbrev powers : ProperTerm
powers = proper_with one half two_thirds [] [] []

known_powers : IsTop (list (pos 2) []) powers 1 0 × IsTop (list (pos 1) []) powers 1 1
    × IsAbove (list (pos 2) []) powers 1 × IsBelow (list (pos 3) []) powers 1
    × (carrier_of powers 1 ≡ proper_with (record { top = pos 3; bottom = pos 2 }) half two_thirds [] [] [])
unfolding lib.IntN.pow lib.IntN.one
known_powers = (is_product (top_number powers 1 0) [], is_product (top_number powers 1 1) [], is_product (pos 2) [], is_product (pos 3) [], refl)

-- 1/(k (k + 2)(k + 3)): the quotient is k (k + 2)(k + 3)/((k + 1)(k + 3)(k + 4))
abbrev three : ProperTerm
three = term_with [] [] (k_and (pos 0) ∷ k_and (pos 2) ∷ k_and (pos 3) ∷ [])

known_three : IsAbove (list (pos 1) (k_and (pos 0) ∷ k_and (pos 2) ∷ k_and (pos 3) ∷ [])) three 0
    × IsBelow (list (pos 1) (k_and (pos 1) ∷ k_and (pos 3) ∷ k_and (pos 4) ∷ [])) three 0
    × (carrier_of three 0 ≡ term_with [] [] [])
unfolding lib.IntN.pow lib.IntN.one
known_three = (is_product (pos 1) (q_forms three 0), is_product (pos 1) (r_forms three 0), refl)

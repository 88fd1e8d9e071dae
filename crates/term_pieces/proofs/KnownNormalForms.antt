-- Normal forms that are known from elsewhere: of the quotients of known terms, each as a whole.
use Rattle.std.specs.Prelude.{◌≡◌, ℕ, ℤ, pos, negsuc, List, [], ◌∷◌, refl}
use Rattle.hypergeometric.specs.LinearForm.{LinearForm, Factor, FactorList}
use Rattle.hypergeometric.specs.FactorLists.{factor_with}
use Rattle.hypergeometric.specs.Forms.{form_with}
use Rattle.hypergeometric.specs.Match.{Match}
use Rattle.term_pieces.specs.NormalForm.{form_above, form_below, matched, gosper_forms, chains, IsNormalFormOf}
use Rattle.term_pieces.proofs.SomeNormalForm.{is_normal_form}

abbrev k_and : ℤ → LinearForm
k_and c = form_with (pos 0) (pos 1) c

abbrev once : ℤ → Factor
once c = factor_with (k_and c) 1

abbrev times : ℤ → List Factor → FactorList
times scale xs = record { scale = scale; factors = xs }

abbrev at_shift : LinearForm → ℕ → ℕ → Match
at_shift s h power = record { form = s; shift = h; power = power }

-- of (k + 4)/(k + 1) both forms are taken at the shift 3: k + 4 is k + 1 three later
abbrev by_three : List Match
by_three = at_shift (k_and (pos 4)) 3 1 ∷ []

known_taken : (matched form_above by_three ≡ once (pos 4) ∷ []) × (matched form_below by_three ≡ once (pos 1) ∷ [])
known_taken = (refl, refl)

-- g is (k + 3)(k + 2)(k + 1), and the chain has k besides
known_chain : (gosper_forms by_three ≡ once (pos 3) ∷ once (pos 2) ∷ once (pos 1) ∷ [])
    × (chains by_three ≡ once (pos 3) ∷ once (pos 2) ∷ once (pos 1) ∷ once (pos 0) ∷ [])
known_chain = (refl, refl)

-- at the shift 0 nothing is multiplied, and the chain has one form
known_same : (gosper_forms (at_shift (k_and (pos 1)) 0 2 ∷ []) ≡ []) × (chains (at_shift (k_and (pos 1)) 0 2 ∷ []) ≡ factor_with (k_and (pos 0)) 2 ∷ [])
known_same = (refl, refl)

-- (k + 4)/(k + 1), the quotient of (k + 3)!/k!
known_three_later : IsNormalFormOf (record {
  matches = by_three;
  q = times (pos 1) [];
  r = times (pos 1) [];
  g = times (pos 1) (once (pos 1) ∷ once (pos 2) ∷ once (pos 3) ∷ []);
  poles = times (pos 1) (once (pos 0) ∷ once (pos 1) ∷ once (pos 2) ∷ once (pos 3) ∷ []);
}) (times (pos 1) (once (pos 4) ∷ [])) (times (pos 1) (once (pos 1) ∷ []))
unfolding lib.IntN.pow lib.IntN.one
known_three_later = is_normal_form (times (pos 1) (once (pos 4) ∷ [])) (times (pos 1) (once (pos 1) ∷ []))

-- k (k + 1)/((k + 1)(k + 2)), the quotient of 1/(k (k + 1)): k + 1 is taken from both, and k is a pole
known_at_zero : IsNormalFormOf (record {
  matches = at_shift (k_and (pos 1)) 0 1 ∷ [];
  q = times (pos 1) (once (pos 0) ∷ []);
  r = times (pos 1) (once (pos 2) ∷ []);
  g = times (pos 1) [];
  poles = times (pos 1) (once (pos 0) ∷ []);
}) (times (pos 1) (once (pos 0) ∷ once (pos 1) ∷ [])) (times (pos 1) (once (pos 1) ∷ once (pos 2) ∷ []))
unfolding lib.IntN.pow lib.IntN.one
known_at_zero =
    is_normal_form (times (pos 1) (once (pos 0) ∷ once (pos 1) ∷ [])) (times (pos 1) (once (pos 1) ∷ once (pos 2) ∷ []))

-- k (k + 2)(k + 3)/((k + 1)(k + 3)(k + 4)), the quotient of 1/(k (k + 2)(k + 3)): k + 3 is k + 3 itself and k + 1 two later, and the
-- least shift goes first; then k + 2 is k + 1 one later
known_least_first : IsNormalFormOf (record {
  matches = at_shift (k_and (pos 3)) 0 1 ∷ at_shift (k_and (pos 2)) 1 1 ∷ [];
  q = times (pos 1) (once (pos 0) ∷ []);
  r = times (pos 1) (once (pos 4) ∷ []);
  g = times (pos 1) (once (pos 1) ∷ []);
  poles = times (pos 1) (once (pos 0) ∷ once (pos 1) ∷ once (pos 2) ∷ []);
}) (times (pos 1) (once (pos 0) ∷ once (pos 2) ∷ once (pos 3) ∷ [])) (times (pos 1) (once (pos 1) ∷ once (pos 3) ∷ once (pos 4) ∷ []))
unfolding lib.IntN.pow lib.IntN.one
known_least_first =
    is_normal_form (times (pos 1) (once (pos 0) ∷ once (pos 2) ∷ once (pos 3) ∷ []))
    (times (pos 1) (once (pos 1) ∷ once (pos 3) ∷ once (pos 4) ∷ []))

-- (k - n - 1)/(k + 1), the quotient of (-1)^k binomial(n,k) at the order 1: nothing matches
known_apart : IsNormalFormOf (record {
  matches = [];
  q = times (pos 1) (factor_with (form_with (negsuc 0) (pos 1) (negsuc 0)) 1 ∷ []);
  r = times (pos 1) (once (pos 1) ∷ []);
  g = times (pos 1) [];
  poles = times (pos 1) [];
}) (times (pos 1) (factor_with (form_with (negsuc 0) (pos 1) (negsuc 0)) 1 ∷ [])) (times (pos 1) (once (pos 1) ∷ []))
unfolding lib.IntN.pow lib.IntN.one
known_apart =
    is_normal_form (times (pos 1) (factor_with (form_with (negsuc 0) (pos 1) (negsuc 0)) 1 ∷ [])) (times (pos 1) (once (pos 1) ∷ []))

-- 2 (k + 2)^3/(3 k (k + 2)): the numbers stay, and k + 2 is taken once at the shift 0, once at the shift 2, and is left once
known_powers : IsNormalFormOf (record {
  matches = at_shift (k_and (pos 2)) 0 1 ∷ at_shift (k_and (pos 2)) 2 1 ∷ [];
  q = times (pos 2) (once (pos 2) ∷ []);
  r = times (pos 3) [];
  g = times (pos 1) (once (pos 0) ∷ once (pos 1) ∷ []);
  poles = times (pos 1) (once (negsuc 0) ∷ once (pos 0) ∷ factor_with (k_and (pos 1)) 2 ∷ []);
}) (times (pos 2) (factor_with (k_and (pos 2)) 3 ∷ [])) (times (pos 3) (once (pos 0) ∷ once (pos 2) ∷ []))
unfolding lib.IntN.pow lib.IntN.one
known_powers = is_normal_form (times (pos 2) (factor_with (k_and (pos 2)) 3 ∷ [])) (times (pos 3) (once (pos 0) ∷ once (pos 2) ∷ []))

-- (2 k + 5)/(2 k + 1): a form moves by its slope
known_by_slope : IsNormalFormOf (record {
  matches = at_shift (form_with (pos 0) (pos 2) (pos 5)) 2 1 ∷ [];
  q = times (pos 1) [];
  r = times (pos 1) [];
  g = times (pos 1) (factor_with (form_with (pos 0) (pos 2) (pos 1)) 1 ∷ factor_with (form_with (pos 0) (pos 2) (pos 3)) 1 ∷ []);
  poles = times (pos 1) (factor_with (form_with (pos 0) (pos 2) (negsuc 0)) 1 ∷ factor_with (form_with (pos 0) (pos 2) (pos 1)) 1
      ∷ factor_with (form_with (pos 0) (pos 2) (pos 3)) 1 ∷ []);
}) (times (pos 1) (factor_with (form_with (pos 0) (pos 2) (pos 5)) 1 ∷ [])) (times (pos 1) (factor_with (form_with (pos 0) (pos 2) (pos 1)) 1 ∷ []))
unfolding lib.IntN.pow lib.IntN.one
known_by_slope =
    is_normal_form (times (pos 1) (factor_with (form_with (pos 0) (pos 2) (pos 5)) 1 ∷ []))
    (times (pos 1) (factor_with (form_with (pos 0) (pos 2) (pos 1)) 1 ∷ []))

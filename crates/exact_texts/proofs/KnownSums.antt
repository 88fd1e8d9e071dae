-- Texts of sums that are known, so that a wrong rule of spelling does not check.
use Rattle.std.specs.Prelude.{◌≡◌, ℤ, ℕ, codes, pos, negsuc, [], ◌∷◌}
use Rattle.std.specs.Fmt.{digits}
use Rattle.std.proofs.Common.{refl}
use Rattle.exact_texts.specs.Sums.{Monomial, sum_text}

abbrev times : ℤ → ℕ → ℕ → ℕ → Monomial
times c n k x = record { coefficient = c; n_power = n; k_power = k; x_power = x }

known_zero : sum_text [] ≡ codes "0"
known_zero = refl

known_monomials : (sum_text (times (negsuc 2) 2 1 0 ∷ []) ≡ codes "-3*n^2*k") × (sum_text (times (pos 1) 0 0 0 ∷ []) ≡ codes "1")
    × (sum_text (times (pos 1) 1 0 0 ∷ []) ≡ codes "n") × (sum_text (times (negsuc 0) 0 12 1 ∷ []) ≡ codes "-k^12*x")
unfolding digits
known_monomials = (refl, refl, refl, refl)

known_sum : sum_text (times (pos 2) 2 3 0 ∷ times (negsuc 0) 1 0 1 ∷ times (pos 1) 0 1 0 ∷ times (negsuc 11) 0 0 0 ∷ []) ≡ codes "2*n^2*k^3-n*x+k-12"
unfolding digits
known_sum = refl

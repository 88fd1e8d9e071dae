-- The order 0 of the binomial coefficient is empty: (n - k) Y(k+1) - k Y(k) = a_0 has no solution but zero, since Y would be zero.
use Rattle.std.proofs.Common.{◌≡◌, ℕ, zero, suc, ◌<◌, ◌≤◌, [], ◌∷◌, List, refl, ap, sym, ◌∙◌, arith, ⊎_elim}
use Rattle.std.specs.Prelude.{pos, negsuc, None}
use Rattle.ring_laws.specs.Meaning.{Meaning, number, listed}
use Rattle.ring_laws.specs.Algebra.{Passing}
use Rattle.poly_laws.specs.Values.{level}
use Rattle.poly_laws.proofs.Equal.{level_laws}
use Rattle.poly_laws.proofs.ListLaws.{sum_nought}
use Rattle.division_laws.specs.Polynomials.{Polynomial}
use Rattle.kernel_laws.specs.Rows.{InKernel, dot}
use Rattle.kernel_laws.specs.Kernels.{none, with}
use Rattle.kernel_laws.specs.Answers.{Vector, meant, AllPivots}
use Rattle.kernel_laws.proofs.Kernels.{first_of}
use Rattle.key_laws.specs.DegreeBounds.{IsDegreeBound}
use Rattle.key_laws.proofs.Answers.{pivots_insoluble}
use Rattle.key_laws.proofs.Degrees.{greatest_degree}
use Rattle.key_laws.proofs.FindingBounds.{bound_by_degrees}
use Rattle.key_laws.proofs.OneBound.{one_degree}
use Rattle.term_pieces.specs.NormalForm.{Normal}
use Rattle.pole_laws.specs.Orders.{tops_of, sides_of}
use Rattle.pole_laws.proofs.Domains.{in_n_domain}
use Rattle.gosper_theorem.proofs.EqualForms.{in_n}
use Rattle.right_claims.specs.KeySolutions.{q_of, b_of, rows_of_key}
use Rattle.right_claims.specs.Orders.{IsEmptyOrder}
use Rattle.right_claims.proofs.KnownSettings.{binomial, pieces, normal as normal_at, form, setting}

abbrev normal : Normal
normal = normal_at (pos 0)

abbrev one : Meaning
one = listed (listed (number (pos 1) ∷ []) ∷ [])

-- q(k) = n - k, r(k-1) = k, the side is 1
known_q : q_of normal ≡ listed (listed (number (pos 0) ∷ number (pos 1) ∷ []) ∷ listed (number (negsuc 0) ∷ []) ∷ [])
known_q = refl

known_b : b_of normal ≡ listed (listed [] ∷ listed (number (pos 1) ∷ []) ∷ [])
known_b = refl

known_side : sides_of normal (tops_of pieces 0) ≡ one ∷ []
known_side = refl

-- the single row is -1
known_rows : rows_of_key normal (tops_of pieces 0) 0 ≡ (listed (number (negsuc 0) ∷ []) ∷ []) ∷ []
known_rows = refl

abbrev q_in : Polynomial (level 1)
q_in = (q_of normal, refl)

abbrev b_in : Polynomial (level 1)
b_in = (b_of normal, refl)

abbrev one_in : Polynomial (level 1)
one_in = (one, refl)

-- the leading coefficients -1 and 1 differ, and the side has the degree 0: there is no bound
is_bound : IsDegreeBound (level 1).ops (q_of normal) (b_of normal) (one ∷ []) None
is_bound = record {
  degree = 1;
  is_degree = greatest_degree (level 1) (level_laws 1) (q_in ∷ b_in ∷ []) 1 refl;
  bounds = bound_by_degrees (level 1).ops (q_of normal) (b_of normal) (one ∷ []) 1 (λ e. cc) None
      (λ d e g p. omega (arith, p, one_degree (level 1).ops (one ∷ []) d 0 g (greatest_degree (level 1) (level_laws 1) (one_in ∷ []) 0 refl)));
}

abbrev row : List Meaning
row = listed (number (negsuc 0) ∷ []) ∷ []

abbrev minus_one : Passing (level 1)
minus_one = (listed (number (negsuc 0) ∷ []), refl)

-- each vector of the kernel is zero
zero_vector : (v : Vector (level 1)) → InKernel (level 1).ops 1 (row ∷ []) (meant (level 1) v) → (v 0).0 ≡ (level 1).ops.nought
zero_vector v h =
    let here : (level 1).ops.sum ((level 1).ops.product minus_one.0 (v 0).0) (level 1).ops.nought ≡ (level 1).ops.nought =
    first_of (λ r. dot (level 1).ops 1 r (meant (level 1) v) ≡ (level 1).ops.nought) row [] h in
    ⊎_elim (λ e. absurd (some e)) (λ e. e)
    (in_n_domain.no_divisors minus_one (v 0)
    (ap (λ (x : Passing (level 1)). x.0) (sym (sum_nought in_n (level_laws 1).ring (in_n.product minus_one (v 0)))) ∙ here))
  where
    some : ¬ (listed (number (negsuc 0) ∷ []) ≡ listed [])
    some e = cc

pivots : AllPivots (level 1) 1 0 (row ∷ []) 1
pivots = record {
  zero = at;
  counted = with (λ v h e. e.here (zero_vector v h)) none;
}
  where
    at : (v : Vector (level 1)) → InKernel (level 1).ops 1 (row ∷ []) (meant (level 1) v) → (k : ℕ) → 0 ≤ k → k < 1
        → (v k).0 ≡ (level 1).ops.nought
    at v h zero a b = zero_vector v h
    at v h (suc k) a b = absurd (omega (arith, b))

-- so the claim `empty 0` is right
pub empty_at_zero : IsEmptyOrder binomial 0 (form (pos 0))
empty_at_zero = record {
  pieces = pieces;
  normal = normal;
  setting = setting;
  insoluble = pivots_insoluble (level 1) (level_laws 1) in_n_domain q_in b_in (one_in ∷ []) None is_bound 1 pivots;
}

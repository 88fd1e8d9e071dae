-- Forms at a later and at an earlier k.
use Rattle.std.proofs.Common.{◌≡◌, ℕ, [], ◌∷◌, refl, ap}
use Rattle.std.specs.Prelude.{ℤ, pos, neg_ℤ, ◌+ℤ◌, ◌*ℤ◌}
use Rattle.ring_solver.proofs.Read.{ring_z, reading_z}
use Rattle.hypergeometric.specs.LinearForm.{LinearForm}
use Rattle.hypergeometric.specs.Forms.{form_with}
use Rattle.term_pieces.specs.Products.{at_later_k}
use Rattle.term_pieces.specs.NormalForm.{at_earlier_k}

-- the form at k - h, at k + h, and the other way round
pub back_again : (s : LinearForm) (h : ℕ) → at_later_k (at_earlier_k s h) (pos h) ≡ s
back_again s h = ap (form_with s.n_slope s.k_slope) (there s.offset s.k_slope (pos h))
  where
    there : (o t h : ℤ) → (o +ℤ t *ℤ neg_ℤ h) +ℤ t *ℤ h ≡ o
    there o t h = ring_z (o ∷ t ∷ h ∷ []) (search reading_z depth 40 fits 20000) refl

pub and_back : (t : LinearForm) (h : ℕ) → at_earlier_k (at_later_k t (pos h)) h ≡ t
and_back t h = ap (form_with t.n_slope t.k_slope) (there t.offset t.k_slope (pos h))
  where
    there : (o t h : ℤ) → (o +ℤ t *ℤ h) +ℤ t *ℤ neg_ℤ h ≡ o
    there o t h = ring_z (o ∷ t ∷ h ∷ []) (search reading_z depth 40 fits 20000) refl

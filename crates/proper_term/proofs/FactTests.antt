-- The facts of a proper term, from tests of its parts.
use Rattle.std.proofs.Common.{◌≡◌, ◌≢◌, ℕ, ◌↔◌, refl, ap, sym, ◌∙◌, subst, [], ◌∷◌}
use Rattle.std.proofs.Math.Nat.{eq-one_of_dvd-one}
use Rattle.std.specs.Int.{◌∣◌, IsGcd}
use Rattle.std.specs.Prelude.{ℤ, pos, ◌*ℤ◌, ◌<ℤ◌, unsigned_abs}
use Rattle.ring_solver.proofs.Read.{ring_z, reading_z}
use Rattle.hypergeometric.specs.LinearForm.{LinearForm}
use Rattle.hypergeometric.specs.FormOrder.{IsPrimitive}
use Rattle.hypergeometric.specs.TermFacts.{IsNumber, IsLowest, IsNotConstant}
use Rattle.hypergeometric.specs.Forms.{form_with, multiple}
use Rattle.proper_term.specs.Fields.{number_fraction}

-- the greatest common divisor tells lowest terms
pub lowest_test : (a b : ℤ) (g : ℕ) → IsNumber a → IsNumber b → a ≢ pos 0 → pos 0 <ℤ b → IsGcd (unsigned_abs a) (unsigned_abs b) g
    → (g ≡ 1) ↔ IsLowest (number_fraction a b)
lowest_test a b g small_a small_b some positive gcd = (
  λ e. record {
    top = small_a;
    bottom = small_b;
    not_zero = some;
    positive = positive;
    coprime = λ d p q. eq-one_of_dvd-one {n = d} (subst (λ t. d ∣ t) e (gcd.2 d p q));
  },
  λ l. l.coprime g gcd.0 gcd.1,
)

once : (f : LinearForm) → multiple (pos 1) f ≡ f
once f = λ i. form_with (one f.n_slope i) (one f.k_slope i) (one f.offset i)
  where
    one : (a : ℤ) → pos 1 *ℤ a ≡ a
    one a = ring_z (a ∷ []) (search reading_z depth 40 fits 20000) refl

-- the factor of the primitive form tells whether the form is primitive
pub divisor_test : (f p : LinearForm) (e : ℤ) → IsNotConstant f → f ≡ multiple e p → IsPrimitive p
    → ((c : ℤ) (g : LinearForm) → f ≡ multiple c g → IsPrimitive g → (e ≡ c) × (p ≡ g)) → (e ≡ pos 1) ↔ (IsPrimitive f × IsNotConstant f)
divisor_test f p e varies is primitive only = (
  λ h. (subst IsPrimitive (sym (is ∙ ap (λ c. multiple c p) h ∙ once p)) primitive, varies),
  λ h. (only (pos 1) f (sym (once f)) h.0).0,
)

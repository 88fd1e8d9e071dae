-- What the solution of an order's key equation says, and its faults.
use Rattle.std.specs.Prelude.{◌≡◌, ℕ, List, [], ◌∷◌, map, IsTrue, refl}
use Rattle.std.specs.Prelude.{◌⊎◌}
use Rattle.std.proofs.Common.{ap, sym, subst, ⊎_elim}
use Rattle.ring_laws.specs.Meaning.{Meaning}
use Rattle.ring_laws.specs.Algebra.{Algebra, Passing, Laws, within}
use Rattle.ring_laws.specs.Division.{DomainLaws}
use Rattle.steps.specs.declared.faults.StepFault.{StepFault}
use Rattle.steps.specs.declared.faults.StepFault.TheVariants.{Limit, TooLarge, Memory}
use Rattle.poly_laws.specs.PolyAlgebra.{poly_algebra}
use Rattle.poly_laws.specs.Values.{level}
use Rattle.kernel_laws.specs.Answers.{Vector, meant}
use Rattle.kernel_laws.specs.Reduction.{bare}
use Rattle.kernel_laws.specs.Rows.{entry_at}
use Rattle.kernel_laws.proofs.Belonging.{bare_at}
use Rattle.division_laws.specs.Polynomials.{Polynomial}
use Rattle.key_laws.specs.KeyEquation.{meanings, SolvesWith, InsolubleWith}
use Rattle.key_laws.specs.Certificates.{CertificateIdentity}
use Rattle.hypergeometric.specs.LinearForm.{FactorList}
use Rattle.term_pieces.specs.NormalForm.{Normal}
use Rattle.pole_laws.specs.Orders.{sides_of}
use Rattle.gosper_theorem.proofs.NoCertificate.{no_certificate}
use Rattle.form_rings.specs.Forms.{Forms, FormLaws}
use Rattle.key_sides.specs.Lifted.{lifted}
use Rattle.key_system.specs.Answers.{OnStepFault}
use Rattle.key_equation.specs.Answers.{IsCertified, HasNoRationalCertificate}
use Rattle.key_equation.specs.Cancelling.{LeavesInOrder}
use Rattle.key_equation.specs.Polynomials.{form_over, list_over, q_over, b_over}
use Rattle.key_equation.proofs.Certified.{some_y, no_y}
use Rattle.key_equation.proofs.LeftOver.{OfZero, OfSome, left_over}
use Rattle.key_equation.proofs.LiftedEquations.{insoluble_below}

-- a fault owes what follows from what it owed
pub step_weaker : (columns : ℕ) (P Q : Type 0) (fault : StepFault) → (Q → P) → OnStepFault columns P fault → OnStepFault columns Q fault
step_weaker columns P Q (Limit name counted) f h = h
step_weaker columns P Q TooLarge f h = λ q. h (f q)
step_weaker columns P Q Memory f h = tt

-- what is said of q and b is said of what they are
pub at_outer : (F : Meaning → Meaning → Type 0) (q b r c : Meaning) → q ≡ r → b ≡ c → F q b → F r c
at_outer F q b r c e f h = subst (F r) f (subst (λ t. F t b) e h)

-- the meanings of values of the ring
pub bare_of : {T : Type 0} (a : Algebra) (meaning : T → Meaning) (passes : (x : T) → IsTrue (a.passes (meaning x))) (xs : List T)
    → bare a (map (λ x. (meaning x, passes x)) xs) ≡ map meaning xs
bare_of a meaning passes [] = refl
bare_of a meaning passes (x ∷ xs) = ap (λ t. meaning x ∷ t) (bare_of a meaning passes xs)

module _ (a : Algebra) (l : Laws a) (d : DomainLaws a) (forms : Forms) (fl : FormLaws a forms) (normal : Normal) (sides : List Meaning) where
  entries : List (Passing a) → Vector a
  entries row = λ k. entry_at (within a l.closed) row k

  entries_are : (row : List (Passing a)) → meant a (entries row) ≡ entry_at a.ops (bare a row)
  unfolding entries
  entries_are row = λ i k. sym (bare_at a l.closed 0 row k) i

  -- what is left of a solution meets the identity of a certificate
  pub certified : (y : Polynomial a) (row : List (Passing a)) (left : Meaning) (poles : FactorList)
      → SolvesWith a.ops (q_over a forms normal) (b_over a forms normal) sides y.0 (entry_at a.ops (bare a row))
      → LeavesInOrder (poly_algebra a) (form_over a forms) normal.poles.factors y.0 left poles.factors → poles.scale ≡ normal.poles.scale
      → IsCertified a forms normal sides left (bare a row) poles
  certified y row left poles solves leaves scale q0 r0 tops is are =
      subst (λ (m : ℕ → Meaning). CertificateIdentity a.ops (list_over a forms q0) (list_over a forms r0) (map (lifted a forms) (meanings (level 1) tops))
      left m (list_over a forms poles)) (entries_are row) (by (left_over a l forms fl normal.poles.factors y left poles.factors
      is.normal_form.poles.sorted leaves))
    where
      solved : SolvesWith a.ops (q_over a forms normal) (b_over a forms normal) (map (lifted a forms) (sides_of normal (meanings (level 1) tops)))
          y.0 (meant a (entries row))
      solved =
          subst (λ s. SolvesWith a.ops (q_over a forms normal) (b_over a forms normal) s y.0 (meant a (entries row))) are
          (subst (λ (m : ℕ → Meaning). SolvesWith a.ops (q_over a forms normal) (b_over a forms normal) sides y.0 m) (sym (entries_are row)) solves)

      by : OfSome a l forms fl normal.poles.factors y left poles.factors ⊎ OfZero a l forms fl y left poles.factors
          → CertificateIdentity a.ops (list_over a forms q0) (list_over a forms r0) (map (lifted a forms) (meanings (level 1) tops))
          left (meant a (entries row)) (list_over a forms poles)
      by found = ⊎_elim
          (λ (s : OfSome a l forms fl normal.poles.factors y left poles.factors).
          subst (λ t. CertificateIdentity a.ops (list_over a forms q0) (list_over a forms r0) (map (lifted a forms) (meanings (level 1) tops))
          t (meant a (entries row)) (list_over a forms poles)) (sym s.outcome.value_is)
          (some_y a l d forms fl normal q0 r0 is tops y (entries row) solved s.some poles s.outcome.value s.outcome.gone
          (record { scale = scale; sorted = s.outcome.sorted; some = s.outcome.some; powers = s.outcome.powers }) s.outcome.of_y))
          (λ (z : OfZero a l forms fl y left poles.factors).
          subst (λ t. CertificateIdentity a.ops (list_over a forms q0) (list_over a forms r0) (map (lifted a forms) (meanings (level 1) tops))
          t (meant a (entries row)) (list_over a forms poles)) (sym z.left_is)
          (no_y a l d forms fl normal q0 r0 is tops y (entries row) solved z.zero poles))
          found

  -- where the equation is insoluble over the ring, there is no rational certificate
  pub no_rational : InsolubleWith a (q_over a forms normal) (b_over a forms normal) sides → HasNoRationalCertificate a forms normal sides
  no_rational none f pieces order tops fractions pieces_are is are =
      no_certificate f pieces order fractions pieces_are normal is tops (insoluble_below a l forms fl normal tops sides are none)

-- A solution of the key equation of a term's normal form gives a claim that goes with the term's pieces.
use Rattle.std.proofs.Common.{◌≡◌, ℕ, zero, suc, ◌+◌, List, [], ◌∷◌, length, refl, ap, sym, ◌∙◌, subst, arith, inl, inr}
use Rattle.ring_laws.specs.Meaning.{Meaning}
use Rattle.ring_laws.specs.Algebra.{Passing}
use Rattle.poly_laws.specs.Values.{level}
use Rattle.poly_laws.proofs.ListLaws.{sum_nought}
use Rattle.division_laws.specs.Polynomials.{Polynomial, constant}
use Rattle.kernel_laws.specs.Answers.{Vector, meant}
use Rattle.key_laws.specs.KeyEquation.{meanings, combination}
use Rattle.key_laws.specs.KeyRows.{listing}
use Rattle.key_laws.specs.Certificates.{CertificateIdentity}
use Rattle.hypergeometric.specs.LinearForm.{Factor}
use Rattle.hypergeometric.specs.ProperTerm.{ProperTerm, HasFractions}
use Rattle.hypergeometric.specs.TermFacts.{IsProper}
use Rattle.hypergeometric.specs.Claim.{Claim}
use Rattle.hypergeometric.specs.Products.{list_polynomial}
use Rattle.hypergeometric.proofs.FormPolynomials.{o, laws}
use Rattle.term_pieces.specs.Pieces.{Top, Pieces, ArePiecesOf, top_at}
use Rattle.term_pieces.specs.NormalForm.{Normal}
use Rattle.term_pieces.specs.Tops.{top_polynomial}
use Rattle.pole_laws.specs.Cancelled.{of_forms}
use Rattle.pole_laws.specs.Orders.{tops_of, pair_top}
use Rattle.pole_laws.proofs.Certificates.{some_y, no_y}
use Rattle.pole_laws.proofs.NonzeroPieces.{q0_some}
use Rattle.claim_laws.specs.Identity.{poly_product, sum_of_tops, poles_polynomial, HasIdentity}
use Rattle.claim_laws.specs.Certified.{HasPieces, IsCertified}
use Rattle.claim_laws.proofs.CertifiedClaims.{has_fractions}
use Rattle.pair_laws.specs.CertifiedPairs.{pair_of_tops, IsCertifiedPair}
use Rattle.solved_claims.specs.SolvedClaims.{Solves, Leaves}
use Rattle.solved_claims.proofs.PassingTops.{tops_pass, constant_passes, listed_in, listed_is}

-- the two sums of the tops are the same
combined : (top : ℕ → Top) (m : ℕ → Meaning) (count s : ℕ)
    → combination (level 1).ops m (listing count (λ j. top_polynomial (top (s + j)))) ≡ sum_of_tops top (listing count m) s
combined top m zero s = refl
combined top m (suc count) s =
    let here : s + 0 ≡ s = omega arith in
    let places : (λ (i : ℕ). s + suc i) ≡ (λ (i : ℕ). suc s + i) = λ d i. place i d in
    λ d. (level 2).ops.sum (poly_product (constant (level 1).ops (m 0)) (top_polynomial (top (here d))))
    ((ap (λ (g : ℕ → ℕ). combination (level 1).ops (λ j. m (suc j)) (listing count (λ i. top_polynomial (top (g i))))) places
    ∙ combined top (λ j. m (suc j)) count (suc s)) d)
  where
    place : (i : ℕ) → s + suc i ≡ suc s + i
    place i = omega arith

all_tops : (pieces : Pieces) (order : ℕ) (m : ℕ → Meaning)
    → combination (level 1).ops m (tops_of pieces order) ≡ sum_of_tops (top_at pieces) (listing (suc order) m) 0
all_tops pieces order m =
    ap (λ (g : ℕ → ℕ). combination (level 1).ops m (listing (suc order) (λ i. top_polynomial (top_at pieces (g i))))) places
    ∙ combined (top_at pieces) m (suc order) 0
  where
    place : (i : ℕ) → i ≡ 0 + i
    place i = omega arith

    places : ◌≡◌ {A = ℕ → ℕ} (λ i. i) (λ i. 0 + i)
    places = λ d i. place i d

listing_length : {A : Type 0} (count : ℕ) (g : ℕ → A) → length (listing count g) ≡ count
listing_length zero g = refl
listing_length (suc count) g = ap suc (listing_length count (λ i. g (suc i)))

module _ (f : ProperTerm) (pieces : Pieces) (order : ℕ) (normal : Normal) (y : Polynomial (level 1)) (multipliers : Vector (level 1)) (c : Claim)
    (fractions : HasFractions f) (are : ArePiecesOf pieces f order) where
  -- the identity over poles
  abbrev Over : List (Polynomial (level 1)) → Meaning → List Factor → Type 0
  Over tops u poles = CertificateIdentity (level 1).ops (list_polynomial pieces.q0) (list_polynomial pieces.r0) (meanings (level 1) tops) u
      (meant (level 1) multipliers) (poles_polynomial poles)

  -- the identity, with the sum of the tops
  solved_identity : (tops : List (Polynomial (level 1))) (s : Meaning)
      → combination (level 1).ops (meant (level 1) multipliers) (meanings (level 1) tops) ≡ s
      → Solves pieces normal (meanings (level 1) tops) y multipliers → Leaves normal y c → HasIdentity pieces c s
  solved_identity tops s sum_is solves (inl some) =
      subst (λ t. HasIdentity pieces c t) sum_is
      (subst (λ u. Over tops u c.poles) (sym some.y_is)
      (some_y normal pieces.q0 pieces.r0 solves.normal_form are.q0.sorted are.r0.sorted tops y multipliers solves.equation some.some
      (of_forms c.poles) some.left some.gone some.cancelled))
  solved_identity tops s sum_is solves (inr none) =
      subst (λ t. HasIdentity pieces c t) sum_is
      (subst (λ u. Over tops u c.poles) (sym none.y_is) (subst (Over tops (level 2).ops.nought) (sym none.poles)
      (no_y normal pieces.q0 pieces.r0 solves.normal_form are.q0.sorted are.r0.sorted tops y multipliers solves.equation none.zero
      (q0_some f pieces order fractions are))))

pub solution_certified : (f : ProperTerm) (pieces : Pieces) (order : ℕ) (normal : Normal) (y : Polynomial (level 1)) (multipliers : Vector (level 1)) (c : Claim)
    → IsProper f → ArePiecesOf pieces f order → Solves pieces normal (tops_of pieces order) y multipliers → Leaves normal y c → HasPieces c pieces
    → c.multipliers ≡ listing (suc order) (meant (level 1) multipliers) → IsCertified c pieces order
solution_certified f pieces order normal y multipliers c proper are solves leaves goes is =
    let tops = listed_in (suc order) (λ j. top_polynomial (top_at pieces j)) (λ j l. tops_pass f pieces order proper are j (omega (arith, l))) in
    let same : meanings (level 1) tops ≡ tops_of pieces order =
    listed_is (suc order) (λ j. top_polynomial (top_at pieces j)) (λ j l. tops_pass f pieces order proper are j (omega (arith, l))) in
    record {
      count = ap length is ∙ listing_length (suc order) (meant (level 1) multipliers);
      goes_with = goes;
      identity = solved_identity f pieces order normal y multipliers c (has_fractions f proper) are tops
          (sum_of_tops (top_at pieces) c.multipliers 0)
          (ap (combination (level 1).ops (meant (level 1) multipliers)) same ∙ all_tops pieces order (meant (level 1) multipliers)
          ∙ ap (λ ms. sum_of_tops (top_at pieces) ms 0) (sym is))
          (subst (λ ts. Solves pieces normal ts y multipliers) (sym same) solves) leaves;
    }

-- one multiplier and one side
one_side : (a p : Passing (level 2)) → (level 2).ops.sum ((level 2).ops.product a.0 p.0) (level 2).ops.nought ≡ (level 2).ops.product a.0 p.0
one_side a p = ap (λ (x : Passing (level 2)). x.0) (sum_nought o laws.ring (o.product a p))

pub solution_certified_pair : (f : ProperTerm) (pieces : Pieces) (normal : Normal) (y : Polynomial (level 1)) (multipliers : Vector (level 1)) (c : Claim)
    → IsProper f → ArePiecesOf pieces f 1 → Solves pieces normal (pair_top pieces) y multipliers → Leaves normal y c → HasPieces c pieces
    → c.multipliers ≡ (multipliers 0).0 ∷ [] → IsCertifiedPair c (multipliers 0).0 pieces
solution_certified_pair f pieces normal y multipliers c proper are solves leaves goes is =
    let p0 : Passing (level 2) = (top_polynomial (top_at pieces 0), tops_pass f pieces 1 proper are 0 (omega arith)) in
    let p1 : Passing (level 2) = (top_polynomial (top_at pieces 1), tops_pass f pieces 1 proper are 1 (omega arith)) in
    let side : Passing (level 2) = o.sum p1 (o.neg p0) in
    let a : Passing (level 2) = (constant (level 1).ops (multipliers 0).0, constant_passes (multipliers 0)) in
    record {
      multipliers = is;
      goes_with = goes;
      identity = solved_identity f pieces 1 normal y multipliers c (has_fractions f proper) are (side ∷ [])
          (pair_of_tops (top_at pieces) (multipliers 0).0) (one_side a side) solves leaves;
    }

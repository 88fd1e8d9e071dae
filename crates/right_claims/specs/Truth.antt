-- What right claims say of a function that has the value of the term, at all points where it is defined.
use Rattle.std.specs.Prelude.{◌≡◌, ℕ, List, [], ◌∷◌, Some}
use Rattle.std.specs.List.{AllByRecursion}
use Rattle.ring_laws.specs.Meaning.{Meaning}
use Rattle.poly_laws.specs.Values.{level}
use Rattle.division_laws.specs.Polynomials.{Polynomial}
use Rattle.key_laws.specs.KeyEquation.{meanings}
use Rattle.hypergeometric.specs.Point.{Point}
use Rattle.hypergeometric.specs.Fraction.{Fraction}
use Rattle.hypergeometric.specs.LinearForm.{LinearForm}
use Rattle.hypergeometric.specs.ProperTerm.{ProperTerm}
use Rattle.hypergeometric.specs.Claim.{Claim}
use Rattle.hypergeometric.specs.Telescopes.{Telescopes}
use Rattle.term_pieces.specs.Pieces.{Pieces, ArePiecesOf}
use Rattle.term_pieces.specs.NormalForm.{Normal, IsNormalFormOf}
use Rattle.pole_laws.specs.Orders.{tops_of, IsInsolubleOrder, IsInsolublePair, pair_top}
use Rattle.gosper_theorem.specs.RationalCertificates.{HasNoCertificate}
use Rattle.sum_laws.specs.NaturalSums.{ends_of, NaturalSumsVanish}
use Rattle.pair_laws.specs.Pairs.{IsPair, PairSumsVanish}
use Rattle.pair_laws.specs.Companion.{HasCompanion}
use Rattle.right_claims.specs.Claims.{PrintedForm, printed, Range, TermClaim, found, empty, pair, no_pair}

-- some multiplier isn't zero
abbrev pub HasNonzero : List Meaning → Type 0
HasNonzero multipliers = ¬ (AllByRecursion (λ a. a ≡ (level 1).ops.nought) multipliers)

-- a found claim telescopes the term, its sums over the printed range satisfy the recurrence, and some multiplier isn't zero
pub record IsTrueFound (f : ProperTerm) (value : Point → Fraction) (c : Claim) (range : Range) : Type 0 where
  pub telescopes : Telescopes value f.poly c
  pub sums : (ends : LinearForm × LinearForm) → range ≡ Some ends → NaturalSumsVanish value (ends_of ends) c
  pub some : HasNonzero c.multipliers

-- Whatever the pieces of the term at the order and their normal form are called: the printed form is theirs, no polynomial solves the key equation
-- with a multiplier that isn't zero, and no quotient of polynomials is a certificate.
pub record IsTrueEmpty (f : ProperTerm) (order : ℕ) (form : PrintedForm) (pieces : Pieces) (normal : Normal) : Type 0 where
  pub own_form : form ≡ printed normal
  pub insoluble : IsInsolubleOrder pieces normal order
  pub no_certificate : (tops : List (Polynomial (level 1))) → meanings (level 1) tops ≡ tops_of pieces order → HasNoCertificate pieces tops

-- a pair is one with its multiplier, and so has the companion identity
pub record IsTruePair (f : ProperTerm) (value : Point → Fraction) (c : Claim) (range : Range) (a : Meaning) : Type 0 where
  pub pair : IsPair value f.poly a c
  pub companion : HasCompanion value a c
  pub sums : (ends : LinearForm × LinearForm) → range ≡ Some ends → PairSumsVanish value (ends_of ends) a c
  pub some : ¬ (a ≡ (level 1).ops.nought)

-- where there is no pair, the like holds of the one side p_1 - p_0 at the order 1
pub record IsTrueNoPair (form : PrintedForm) (pieces : Pieces) (normal : Normal) : Type 0 where
  pub own_form : form ≡ printed normal
  pub insoluble : IsInsolublePair pieces normal
  pub no_certificate : (tops : List (Polynomial (level 1))) → meanings (level 1) tops ≡ pair_top pieces → HasNoCertificate pieces tops

-- what a claim says
abbrev pub Holds : ProperTerm → (Point → Fraction) → TermClaim → Type 0
Holds f value (found order form c range) = IsTrueFound f value c range
Holds f value (empty order form) = (pieces : Pieces) (normal : Normal) → ArePiecesOf pieces f order → IsNormalFormOf normal pieces.q0 pieces.r0
    → IsTrueEmpty f order form pieces normal
Holds f value (pair form c range) = (a : Meaning) → c.multipliers ≡ a ∷ [] → IsTruePair f value c range a
Holds f value (no_pair form) = (pieces : Pieces) (normal : Normal) → ArePiecesOf pieces f 1 → IsNormalFormOf normal pieces.q0 pieces.r0
    → IsTrueNoPair form pieces normal

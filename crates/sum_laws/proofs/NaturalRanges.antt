-- The first forms of down with the k slopes 1 and -1 give a term its natural range, and over it the recurrence of a claim holds for its sums.
use Rattle.std.proofs.Common.{◌≡◌, ℕ, ◌≤◌, List, [], ◌∷◌, Bool, true, false, Option, Some, None, refl, ap, sym, ◌∙◌, subst, inl, inr}
use Rattle.std.proofs.lemmas.Bool.Decides.{Decides-int_eq}
use Rattle.std.specs.List.{AllByRecursion}
use Rattle.std.specs.Ordering.{int_eq}
use Rattle.std.specs.Prelude.{if◌then◌else◌, ℤ, pos, negsuc, neg_ℤ, ◌+ℤ◌, ◌*ℤ◌}
use Rattle.ring_solver.proofs.Read.{ring_z, reading_z}
use Rattle.hypergeometric.specs.Point.{Point}
use Rattle.hypergeometric.specs.Fraction.{Fraction}
use Rattle.hypergeometric.specs.LinearForm.{LinearForm, Factor, form_value}
use Rattle.hypergeometric.specs.FormOrder.{IsFactor}
use Rattle.hypergeometric.specs.ProperTerm.{ProperTerm}
use Rattle.hypergeometric.specs.TermFacts.{IsProper}
use Rattle.hypergeometric.specs.Claim.{Claim}
use Rattle.hypergeometric.specs.TermValue.{HasValue}
use Rattle.hypergeometric.specs.NaturalRange.{first_with_slope, low_end, high_end, both_ends, natural_range}
use Rattle.term_pieces.specs.Pieces.{Pieces, ArePiecesOf}
use Rattle.claim_laws.specs.Certified.{IsCertified}
use Rattle.claim_laws.proofs.CertifiedClaims.{certified_telescopes}
use Rattle.sum_laws.specs.NaturalSums.{ends_of, NaturalSumsVanish}
use Rattle.sum_laws.proofs.NaturalClaims.{natural_sums_vanish}
use Rattle.sum_laws.proofs.NaturalZeros.{Stands, at_no_k}
use Rattle.sum_laws.proofs.NaturalEnds.{GiveEnds}

-- the factor with a form that is found
record IsFound (slope : ℤ) (xs : List Factor) (form : LinearForm) : Type 0 where
  factor : Factor
  stands : Stands factor xs
  is : factor.form ≡ form
  same : factor.form.k_slope ≡ slope

found : (slope : ℤ) (xs : List Factor) (form : LinearForm) → first_with_slope slope xs ≡ Some form → IsFound slope xs form
found slope [] form e = cc
found slope (x ∷ xs) form e = by (int_eq x.form.k_slope slope) refl e (found slope xs form)
  where
    by : (b : Bool) → int_eq x.form.k_slope slope ≡ b → (if b then Some x.form else first_with_slope slope xs) ≡ Some form
        → (first_with_slope slope xs ≡ Some form → IsFound slope xs form) → IsFound slope (x ∷ xs) form
    by true same e later =
        let is : x.form ≡ form = cc in
        record { factor = x; stands = inl refl; is = is; same = (Decides-int_eq x.form.k_slope slope).0 same }
    by false other e later =
        let rest = later e in
        record { factor = rest.factor; stands = inr rest.stands; is = rest.is; same = rest.same }

some_power : (x : Factor) (xs : List Factor) → Stands x xs → AllByRecursion IsFactor xs → 1 ≤ x.power
some_power x [] h all = absurd h
some_power x (y ∷ ys) (inl e) all = subst (λ (w : Factor). 1 ≤ w.power) e all.0.some
some_power x (y ∷ ys) (inr h) all = some_power x ys h all.1

low_value : (g : LinearForm) (p : Point) → form_value (low_end g) (record p { k = pos 0 }) ≡ neg_ℤ (at_no_k g p)
low_value g p = turned g.n_slope p.n g.k_slope g.offset
  where
    turned : (s m t o : ℤ) → neg_ℤ s *ℤ m +ℤ pos 0 *ℤ pos 0 +ℤ neg_ℤ o ≡ neg_ℤ (s *ℤ m +ℤ t *ℤ pos 0 +ℤ o)
    turned s m t o = ring_z (s ∷ m ∷ t ∷ o ∷ []) (search reading_z depth 40 fits 20000) refl

high_value : (g : LinearForm) (p : Point) → form_value (high_end g) (record p { k = pos 0 }) ≡ at_no_k g p
high_value g p = plain g.n_slope p.n g.k_slope g.offset
  where
    plain : (s m t o : ℤ) → s *ℤ m +ℤ pos 0 *ℤ pos 0 +ℤ o ≡ s *ℤ m +ℤ t *ℤ pos 0 +ℤ o
    plain s m t o = ring_z (s ∷ m ∷ t ∷ o ∷ []) (search reading_z depth 40 fits 20000) refl

pub natural_ends : (f : ProperTerm) (ends : LinearForm × LinearForm) → AllByRecursion IsFactor f.down → natural_range f.down ≡ Some ends
    → GiveEnds f (ends_of ends)
natural_ends f ends factors e = by (first_with_slope (pos 1) f.down) refl (first_with_slope (negsuc 0) f.down) refl e
  where
    by : (r : Option LinearForm) → first_with_slope (pos 1) f.down ≡ r → (s : Option LinearForm) → first_with_slope (negsuc 0) f.down ≡ s
        → both_ends r s ≡ Some ends → GiveEnds f (ends_of ends)
    by None p s q e = cc
    by (Some r) p None q e = cc
    by (Some r) p (Some s) q e =
        let up = found (pos 1) f.down r p in
        let down = found (negsuc 0) f.down s q in
        let are : (low_end r, high_end s) ≡ ends = cc in
        record {
          rising = up.factor;
          rising_stands = up.stands;
          rising_some = some_power up.factor f.down up.stands factors;
          rising_slope = up.same;
          low = λ p. ap (λ (x : LinearForm × LinearForm). (ends_of x).low p) (sym are) ∙ low_value r p ∙ ap (λ g. neg_ℤ (at_no_k g p)) (sym up.is);
          falling = down.factor;
          falling_stands = down.stands;
          falling_some = some_power down.factor f.down down.stands factors;
          falling_slope = down.same;
          high = λ p. ap (λ (x : LinearForm × LinearForm). (ends_of x).high p) (sym are) ∙ high_value s p ∙ ap (λ g. at_no_k g p) (sym down.is);
        }

pub certified_sums_vanish : (f : ProperTerm) (value : Point → Fraction) (pieces : Pieces) (order : ℕ) (c : Claim) (ends : LinearForm × LinearForm)
    → IsProper f → HasValue f value → ArePiecesOf pieces f order → IsCertified c pieces order → natural_range f.down ≡ Some ends
    → NaturalSumsVanish value (ends_of ends) c
certified_sums_vanish f value pieces order c ends proper has are certified e =
    natural_sums_vanish f value (ends_of ends) order c has (natural_ends f ends proper.down.each e)
    (certified.goes_with.carrier ∙ are.carrier) certified.count
    (certified_telescopes f value pieces order c proper has are certified).ranges

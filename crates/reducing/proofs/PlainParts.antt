-- The plain part of a polynomial: what it is over its content and its core, times the content.
use Rattle.std.specs.Option.{IsSome}
use Rattle.std.proofs.Common.{◌≡◌, ℤ, pos, unsigned_abs, Bool, true, false, IsFalse, [], ◌∷◌, refl, ap, ◌∙◌, subst, sym, arith, ⊎_elim, Result, Ok, Err, Option, Some, None, IsErrAnd}
use Rattle.std.proofs.lemmas.Int.{ints}
use Rattle.ring_solver.proofs.Read.{reading, ring}
use Rattle.ring_laws.specs.Meaning.{Meaning}
use Rattle.ring_laws.specs.Algebra.{Passing, same_passing, ProductInBounds}
use Rattle.ring_laws.specs.Answer.{OnFault, GivesInBounds, fault_weaker}
use Rattle.ring_laws.specs.Division.{Divides}
use Rattle.ring_laws.specs.declared.faults.RingFault.{RingFault}
use Rattle.poly_divide.specs.Content.{row_sizes, IsContent}
use Rattle.poly_laws.proofs.Rings.{solvable}
use Rattle.whole_roots.specs.Differences.{polynomials}
use Rattle.kernel_laws.specs.Reduction.{IsCoreBy}
use Rattle.reducing.specs.RowAnswer.{GivesPart}
use Rattle.reducing.specs.Laws.OneContent.{one_content}
use Rattle.reducing.specs.Laws.Multiples.{Multiple, all_taken_out_multiple}
use Rattle.reducing.specs.PolynomialRows.{Row, meant, Reduced, stays, divides, WithoutContent, forms, IsCore, PolynomialSplit, DivisionOfPolynomials, IsTimesContent, CoreInBounds, SplittingInBounds, polynomial_reduction}
use Rattle.reducing.specs.PolynomialAnswers.{GivesCore}
use Rattle.reducing.specs.Laws.FactorLists.{laws, domain, P, forms_are_factors}
use Rattle.reducing.specs.Laws.OnePolynomialRow.{multiple, one_quotients}
use Rattle.reducing.specs.Laws.PolynomialReduction.{lead_of_zero}
use Rattle.reducing.proofs.Polynomials.{Zn, sense, sense_passes}

head : {v w : Passing polynomials} → v ∷ [] ≡ w ∷ [] → v ≡ w
head e = cc

-- something times the core
pub record Quotient (x core : Meaning) : Type 0 where
  pub by : Passing polynomials
  pub is : polynomials.ops.product by.0 core ≡ x

-- what is a multiple of the rest is one of the core
quotient : (x core : Meaning) (h : IsCore x core) (y : Passing polynomials) → Multiple polynomials laws domain (y ∷ []) (h.rest ∷ [])
    → Quotient y.0 core
quotient x core h y m = ⊎_elim same opposite h.core_is
  where
    value_is : P.product m.factor h.rest ≡ y
    value_is = laws.ring.product_comm m.factor h.rest ∙ sym (head m.is)

    negatives : (r q : Passing polynomials) → P.product (P.neg r) (P.neg q) ≡ P.product r q
    negatives r q = ring (solvable P laws.ring) (r ∷ q ∷ []) (search reading depth 40 fits 20000) refl

    same : core ≡ h.rest.0 → Quotient y.0 core
    same e = record {
      by = m.factor;
      is = ap (polynomials.ops.product m.factor.0) e ∙ ap (λ (v : Passing polynomials). v.0) value_is;
    }

    opposite : core ≡ polynomials.ops.neg h.rest.0 → Quotient y.0 core
    opposite e = record {
      by = P.neg m.factor;
      is = ap (polynomials.ops.product (P.neg m.factor).0) e ∙ ap (λ (v : Passing polynomials). v.0) (negatives m.factor h.rest ∙ value_is);
    }

-- the core divides the polynomial
pub of_all : (x core : Meaning) → IsCore x core → Quotient x core
of_all x core h =
    subst (λ t. Quotient t core) (sym h.value_is) (quotient x core h h.value (multiple (h.value ∷ []) (h.rest ∷ []) h.reduced))

-- a polynomial over its content, as a row
pub over_content : (x : Meaning) (content : ℤ) (part : Meaning) (t : IsTimesContent x content part) → WithoutContent (t.value ∷ []) (t.rest ∷ [])
over_content x content part t = record {
  content = unsigned_abs content;
  is_content = subst (λ m. IsContent (row_sizes (m ∷ [])) (unsigned_abs content)) t.value_is t.is_content;
  not_zero = λ z. omega (arith, ints, z, t.positive);
  times = ap (λ m. m ∷ []) (sym t.value_is ∙ t.times ∙ ap (λ m. polynomials.ops.product m (polynomials.ops.whole content)) t.rest_is
      ∙ ap (λ z. polynomials.ops.product t.rest.0 (polynomials.ops.whole z)) whole_is);
}
  where
    whole_is : content ≡ pos (unsigned_abs content)
    whole_is = omega (arith, ints, t.positive)

module _ (x : Meaning) (content : ℤ) (part : Meaning) (t : IsTimesContent x content part) (core : Meaning) (h : IsCore x core) where
  values : h.value ≡ t.value
  values = same_passing polynomials h.value t.value (sym h.value_is ∙ t.value_is)

  without : WithoutContent (h.value ∷ []) (t.rest ∷ [])
  without = subst (λ v. WithoutContent (v ∷ []) (t.rest ∷ [])) (sym values) (over_content x content part t)

  left : (old new : Row) → old ≡ h.value ∷ [] → Reduced old new → Multiple polynomials laws domain (t.rest ∷ []) new
  left old _ e (stays k) =
      absurd (without.not_zero (one_content (row_sizes (meant (h.value ∷ []))) without.content 0 without.is_content
      (subst (λ r. IsContent (row_sizes (meant r)) 0) e k)))
  left old new e (divides quotients factors w f k) =
      subst (λ r. Multiple polynomials laws domain r new)
      (one_quotients (h.value ∷ []) quotients (t.rest ∷ []) (subst (λ r. WithoutContent r quotients) e w) without)
      (all_taken_out_multiple polynomials laws domain (forms factors) (forms_are_factors _ factors f.factors.each) quotients new k)

  -- and what is left of it over its content
  pub of_part : Quotient part core
  of_part =
      subst (λ m. Quotient m core) (sym t.rest_is) (quotient x core h t.rest (left (h.value ∷ []) (h.rest ∷ []) refl h.reduced))

pub core_not_zero : (x : Meaning) (core : Zn) → IsCore x (sense core) → IsFalse (polynomials.ops.is_nought (sense core))
core_not_zero x core h = by_test (polynomials.ops.is_nought (sense core)) refl
  where
    by_test : (b : Bool) → polynomials.ops.is_nought (sense core) ≡ b → IsFalse b
    by_test true e = absurd (lead_of_zero (sense core)
        (ap (λ (v : Passing polynomials). v.0) ((laws.ring.is_nought (sense core, sense_passes core)).0 e)) h.positive)
    by_test false e = refl

module _ (x : Meaning) (content : ℤ) (part core : Zn) (t : IsTimesContent x content (sense part)) (h : IsCore x (sense core)) where
  abbrev Divided : Option Zn → Type 0
  Divided r = Divides sense polynomials (DivisionOfPolynomials (sense part) (sense core)) (sense part) (sense core) (Ok r)

  pub some_quotient : (r : Option Zn) → Divided r → IsSome r
  some_quotient (Some q) k = refl
  some_quotient None k = let q = of_part x content (sense part) t (sense core) h in absurd (k q.by q.is)

  quotient_is : (quotient : Zn) (r : Option Zn) → r ≡ Some quotient → Divided r → polynomials.ops.product (sense quotient) (sense core) ≡ sense part
  quotient_is quotient r e k = subst (λ o. Divided o) e k

  moved : (q c k : Passing polynomials) → P.product (P.product q c) k ≡ P.product (P.product q k) c
  moved q c k = ring (solvable P laws.ring) (q ∷ c ∷ k ∷ []) (search reading depth 40 fits 20000) refl

  parts : (quotient plain scale : Zn) (r : Option Zn) → r ≡ Some quotient → Divided r → sense scale ≡ polynomials.ops.whole content
      → sense plain ≡ polynomials.ops.product (sense quotient) (sense scale) → PolynomialSplit x (sense plain) (sense core)
  parts quotient plain scale r e k w p = record {
    is_core = h;
    plain_part = (sense plain, sense_passes plain);
    plain_is = refl;
    product = ap (λ m. polynomials.ops.product m (sense core)) p
        ∙ ap (λ (v : Passing polynomials). v.0) (moved (sense quotient, sense_passes quotient) (sense scale, sense_passes scale) (sense core, sense_passes core))
        ∙ ap (λ m. polynomials.ops.product m (sense scale)) (quotient_is quotient r e k) ∙ ap (polynomials.ops.product (sense part)) w ∙ sym t.times;
  }

  pub division_fault : (fault : RingFault) → OnFault (¬ (DivisionOfPolynomials (sense part) (sense core))) fault → OnFault (¬ (SplittingInBounds x)) fault
  division_fault fault k = fault_weaker fault (λ n s. n (s.division content (sense part) (sense core) t h)) k

  product_fault : (quotient scale : Zn) (r : Option Zn) → r ≡ Some quotient → Divided r → sense scale ≡ polynomials.ops.whole content
      → (fault : RingFault) → OnFault (¬ (ProductInBounds polynomials (sense quotient) (sense scale))) fault → OnFault (¬ (SplittingInBounds x)) fault
  product_fault quotient scale r e k w fault g =
      fault_weaker fault (λ n s. n (subst (ProductInBounds polynomials (sense quotient)) (sym w)
      (s.product content (sense part) (sense core) (sense quotient) t h (quotient_is quotient r e k)))) g

-- the answer of the last product
pub plain_is : (x : Meaning) (content : ℤ) (part core : Zn) (t : IsTimesContent x content (sense part)) (h : IsCore x (sense core))
    (quotient scale : Zn) (r : Option Zn) → r ≡ Some quotient
    → Divides sense polynomials (DivisionOfPolynomials (sense part) (sense core)) (sense part) (sense core) (Ok r)
    → sense scale ≡ polynomials.ops.whole content → (out : Result Zn RingFault)
    → GivesInBounds sense (ProductInBounds polynomials (sense quotient) (sense scale)) (polynomials.ops.product (sense quotient) (sense scale)) out
    → GivesPart sense (λ plain. PolynomialSplit x plain (sense core)) (SplittingInBounds x) out
plain_is x content part core t h quotient scale r e k w (Ok plain) g = parts x content part core t h quotient plain scale r e k w g.1
plain_is x content part core t h quotient scale r e k w (Err fault) g = product_fault x content part core t h quotient scale r e k w fault g

pub fault_plain : (x core : Meaning) (r : Result Zn RingFault) (fault : RingFault) → IsErrAnd r (λ e. e ≡ fault)
    → OnFault (¬ (SplittingInBounds x)) fault → GivesPart sense (λ plain. PolynomialSplit x plain core) (SplittingInBounds x) r
fault_plain x core (Ok v) fault e h = absurd e
fault_plain x core (Err d) fault e h = subst (OnFault (¬ (SplittingInBounds x))) (sym e) h

pub core_fault : (x : Meaning) (fault : RingFault) → OnFault (¬ (CoreInBounds x)) fault → OnFault (¬ (SplittingInBounds x)) fault
core_fault x fault h = fault_weaker fault (λ n s. n s.core) h

-- the core alone: a plain part of any size goes with it
pub core_alone : (x : Meaning) (r : Result Zn RingFault) → GivesCore sense x r → GivesPart sense (IsCoreBy polynomial_reduction x) (CoreInBounds x) r
core_alone x (Ok core) h =
    let q = of_all x (sense core) h in
    record { plain = q.by.0; split = record { is_core = h; plain_part = q.by; plain_is = refl; product = q.is } }
core_alone x (Err fault) h = h

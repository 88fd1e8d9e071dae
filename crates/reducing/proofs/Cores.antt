-- The core of a polynomial: what is left of the row that has it alone, with the sign that makes its lead positive.
use Rattle.std.proofs.Common.{◌≡◌, IsFalse, List, [], ◌∷◌, ◌++◌, length, get_or, refl, ap, ◌∙◌, subst, sym, arith, Result, Ok, Err, IfOk, IfErr}
use Rattle.std.proofs.lemmas.List.{length-map}
use Rattle.ring_laws.specs.Meaning.{Meaning}
use Rattle.ring_laws.specs.Algebra.{Passing, same_passing}
use Rattle.ring_laws.specs.Answer.{fault_memory}
use Rattle.ring_laws.specs.declared.faults.RingFault.{RingFault}
use Rattle.ring_laws.specs.declared.faults.RingFault.TheVariants.{Memory}
use Rattle.poly_laws.proofs.ListLaws.{nought_product}
use Rattle.whole_roots.specs.Differences.{polynomials}
use Rattle.reducing.specs.Laws.Multiples.{Multiple}
use Rattle.reducing.specs.PolynomialRows.{Row, meant, Reduced, PolynomialsReduced, PolynomialsInBounds, IsCore}
use Rattle.reducing.specs.Laws.FactorLists.{laws, domain, P}
use Rattle.reducing.specs.Laws.OnePolynomialRow.{multiple, polynomials_reduce}
use Rattle.reducing.specs.PolynomialAnswers.{HasPositiveLead, GivesCore}
use Rattle.reducing.proofs.Polynomials.{Zn, sense, sense_passes, senses}
use Rattle.reducing.proofs.WithoutFactor.{row_is}

-- ---- what is left of a single polynomial
pub alone : (x : Meaning) (row before : List Zn) (copy : Zn) → row ≡ before ++ copy ∷ [] → before ≡ [] → sense copy ≡ x → senses row ≡ x ∷ []
alone x row before copy e f g = ap senses (e ∙ ap (λ r. r ++ copy ∷ []) f) ∙ ap (λ m. m ∷ []) g

pub one_left : (x : Meaning) (row : List Zn) → PolynomialsReduced (x ∷ []) (senses row) → length row ≡ 1
one_left x row h = sym (length-map row sense) ∙ (polynomials_reduce (x ∷ []) (senses row) h).size

module _ (x : Meaning) (g : Zn) (h : PolynomialsReduced (x ∷ []) (senses (g ∷ []))) where
  abbrev rest : Passing polynomials
  rest = (sense g, sense_passes g)

  results : h.result ≡ rest ∷ []
  results = row_is (g ∷ []) h.result h.result_is

  -- the polynomial as a meaning that belongs to the ring
  record Single (row : Row) : Type 0 where
    value : Passing polynomials
    value_is : x ≡ value.0
    row_is_it : row ≡ value ∷ []

  single : (row : Row) → x ∷ [] ≡ meant row → Single row
  single [] e = cc
  single (v ∷ []) e = record { value = v; value_is = first e; row_is_it = refl }
    where
      first : {m k : Meaning} → m ∷ [] ≡ k ∷ [] → m ≡ k
      first t = cc
  single (v ∷ w ∷ ws) e = cc

  only : Single h.row
  only = single h.row h.row_is

  reduced_single : Reduced (only.value ∷ []) (rest ∷ [])
  reduced_single = subst (λ r. Reduced (only.value ∷ []) r) results (subst (λ r. Reduced r h.result) only.row_is_it h.holds)

  pub core_is : IsFalse (polynomials.ops.is_nought x) → (core : Meaning) → HasPositiveLead (sense g) core → IsCore x core
  core_is n core p = record {
    value = only.value;
    value_is = only.value_is;
    rest = rest;
    reduced = reduced_single;
    core_is = p.is;
    positive = p.positive not_zero;
  }
    where
      factor : Multiple polynomials laws domain (only.value ∷ []) (rest ∷ [])
      factor = multiple (only.value ∷ []) (rest ∷ []) reduced_single

      head : {v w : Passing polynomials} → v ∷ [] ≡ w ∷ [] → v ≡ w
      head e = cc

      not_zero : ¬ (sense g ≡ polynomials.ops.nought)
      not_zero e = cc (
        n,
        (laws.ring.is_nought only.value).1
            (head factor.is ∙ ap (λ v. P.product v factor.factor) (same_passing polynomials rest P.nought e)
            ∙ nought_product P laws.ring factor.factor),
        ap polynomials.ops.is_nought only.value_is,
      )

pub gives_core : (x : Meaning) (row : List Zn) (g : Zn) (r : Result Zn RingFault) → PolynomialsReduced (x ∷ []) (senses row) → g ≡ get_or row 0 g
    → IsFalse (polynomials.ops.is_nought x) → IfOk r (λ out. HasPositiveLead (sense g) (sense out)) → IfErr r (λ fault. fault ≡ Memory)
    → GivesCore sense x r
gives_core x [] g r h e n p f = absurd (omega (arith, one_left x [] h))
gives_core x (k ∷ []) g (Ok out) h e n p f = core_is x g (subst (λ t. PolynomialsReduced (x ∷ []) (senses (t ∷ []))) (sym e) h) n (sense out) p
gives_core x (k ∷ []) g (Err fault) h e n p f = fault_memory (¬ (PolynomialsInBounds (x ∷ []))) fault f
gives_core x (k ∷ l ∷ ls) g r h e n p f = absurd (omega (arith, one_left x (k ∷ l ∷ ls) h))

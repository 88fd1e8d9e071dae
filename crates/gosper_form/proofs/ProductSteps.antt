-- A number times forms, form by form: the number takes what a form has besides its primitive part, and the list that part.
use Rattle.std.proofs.Common.{◌≡◌, ◌≢◌, ℕ, ◌+◌, ◌≤◌, ◌<◌, ◌^◌, cond, List, [], ◌∷◌, map, drop, length, get_or, refl, ap, sym, ◌∙◌, arith, subst}
use Rattle.std.proofs.lemmas.Int.{ints}
use Rattle.std.proofs.lemmas.List.{drop_more, drop_all}
use Rattle.std.specs.List.{AllByRecursion}
use Rattle.std.specs.List.Sorted.{IsPermutation}
use Rattle.std.specs.Prelude.{ℤ, pos, ◌*ℤ◌, unsigned_abs}
use lib.IntN.{pow}
use Rattle.ring_laws.specs.Answer.{OnFault, fault_weaker}
use Rattle.ring_laws.specs.declared.faults.RingFault.{RingFault}
use Rattle.ring_solver.proofs.Read.{ring_z, reading_z}
use Rattle.hypergeometric.specs.LinearForm.{LinearForm, Factor, FactorList}
use Rattle.hypergeometric.specs.FormOrder.{IsSorted, IsFactor, AreFactors, IsPrimitive}
use Rattle.hypergeometric.specs.TermFacts.{total_power, IsNotConstant}
use Rattle.hypergeometric.specs.Forms.{multiple}
use Rattle.hypergeometric.specs.FactorLists.{same_form, power_of, with_factor}
use Rattle.hypergeometric.specs.PrimitiveForm.{content_of_form, primitive_form}
use Rattle.hypergeometric.proofs.Contents.{content_not_zero}
use Rattle.hypergeometric.proofs.FractionLaws.{pow_not_zero, product_not_zero}
use Rattle.hypergeometric.proofs.OnlyLowest.{content_multiple}
use Rattle.hypergeometric.proofs.PrimitiveForms.{IsNotZero}
use Rattle.hypergeometric.proofs.PrimitiveParts.{primitive_is}
use Rattle.hypergeometric.proofs.SharedForms.{all_more}
use Rattle.term_pieces.specs.Products.{power_among, contents_of, IsProductOf}
use Rattle.gosper_form.specs.RaisedForms.{factor_of, factors_of}
use Rattle.gosper_form.specs.declared.raised_forms.RaisedForm.{RaisedForm}
use Rattle.gosper_form.proofs.NumberPowers.{out_of_bounds}
use Rattle.gosper_form.proofs.PowerSums.{permuted_power, added_power, added_total, power_within}

not_zero : (f : LinearForm) → IsNotConstant f → IsNotZero f
not_zero f h z = h (z.1, z.0)

-- none of the forms has the content 0
pub contents_not_zero : (fs : List RaisedForm) → contents_of (factors_of fs) ≢ pos 0
contents_not_zero [] e = by e
  where
    by : pos 1 ≢ pos 0
    by e = omega (arith, ints, e)
contents_not_zero (x ∷ fs) e =
    product_not_zero (pow (content_of_form (factor_of x).form) x.power) (contents_of (factors_of fs))
    (pow_not_zero (content_of_form (factor_of x).form) x.power (content_not_zero (factor_of x).form (not_zero (factor_of x).form x.varies)))
    (contents_not_zero fs) e

-- what is reached before the form at an index
pub record ProductReached (total number : ℤ) (list : FactorList) (fs : List RaisedForm) (i : ℕ) : Type 0 where
  pub scale : number *ℤ contents_of (factors_of (drop i fs)) ≡ total *ℤ contents_of (factors_of fs)
  pub not_zero : number ≢ pos 0
  pub unit : list.scale ≡ pos 1
  pub powers : (f : LinearForm) → power_of f list.factors + power_among f (factors_of (drop i fs)) ≡ power_among f (factors_of fs)
  pub few : total_power list.factors + total_power (factors_of (drop i fs)) ≡ total_power (factors_of fs)

pub product_start : (total : ℤ) (list : FactorList) (fs : List RaisedForm) → total ≢ pos 0 → list.scale ≡ pos 1 → list.factors ≡ []
    → ProductReached total total list fs 0
product_start total list fs n e h = record {
  scale = refl;
  not_zero = n;
  unit = e;
  powers = λ f. ap (λ xs. power_of f xs + power_among f (factors_of fs)) h ∙ none (power_among f (factors_of fs));
  few = ap (λ xs. total_power xs + total_power (factors_of fs)) h ∙ none (total_power (factors_of fs));
}
  where
    none : (n : ℕ) → 0 + n ≡ n
    none n = omega arith

-- what the code finds as the content and the primitive form of a form that isn't constant
pub record IsContent (l : LinearForm) (c : ℤ) (f : LinearForm) : Type 0 where
  pub content : c ≡ content_of_form l
  pub primitive : f ≡ primitive_form l

pub content_found : (l : LinearForm) (content : ℤ) (f : LinearForm) → IsNotConstant l
    → ((c : ℤ) → (g : LinearForm) → l ≡ multiple c g → IsPrimitive g → (content ≡ c) × (f ≡ g)) → IsContent l content f
content_found l content f varies only =
    let same = only (content_of_form l) (primitive_form l) (sym (content_multiple l)) (primitive_is l (not_zero l varies)) in
    record { content = same.0; primitive = same.1 }

module _ (total number : ℤ) (list : FactorList) (fs : List RaisedForm) (i : ℕ) (x : RaisedForm) (below : i < length fs) (is : x ≡ get_or fs i x)
    (r : ProductReached total number list fs i)
  where
    abbrev rest : List Factor
    rest = factors_of (drop (i + 1) fs)

    here : factors_of (drop i fs) ≡ factor_of x ∷ rest
    here = ap factors_of (drop_more fs i x below) ∙ ap (λ (y : RaisedForm). factor_of y ∷ rest) (sym is)

    pub content_some : content_of_form (factor_of x).form ≢ pos 0
    content_some = content_not_zero (factor_of x).form (not_zero (factor_of x).form x.varies)

    abbrev own : ℤ
    own = pow (content_of_form (factor_of x).form) x.power

    moved : (n c t : ℤ) → (n *ℤ c) *ℤ t ≡ n *ℤ (c *ℤ t)
    moved n c t = ring_z (n ∷ c ∷ t ∷ []) (search reading_z depth 40 fits 20000) refl

    scale_next : (number *ℤ own) *ℤ contents_of rest ≡ total *ℤ contents_of (factors_of fs)
    scale_next = moved number own (contents_of rest) ∙ ap (λ xs. number *ℤ contents_of xs) (sym here) ∙ r.scale

    few_now : total_power list.factors + (x.power + total_power rest) ≡ total_power (factors_of fs)
    few_now = ap (λ xs. total_power list.factors + total_power xs) (sym here) ∙ r.few

    pub product_step : (number' : ℤ) (list' : FactorList) → number' ≡ number *ℤ own → list'.scale ≡ list.scale
        → list'.factors ≡ with_factor (primitive_form (factor_of x).form) x.power list.factors → ProductReached total number' list' fs (i + 1)
    product_step number' list' e s h = record {
      scale = ap (λ n. n *ℤ contents_of rest) e ∙ scale_next;
      not_zero = λ z. product_not_zero number own r.not_zero (pow_not_zero (content_of_form (factor_of x).form) x.power content_some) (sym e ∙ z);
      unit = s ∙ r.unit;
      powers = λ f.
          let added = added_power f (primitive_form (factor_of x).form) x.power list.factors in
          let before : power_of f list.factors + (cond (same_form f (primitive_form (factor_of x).form)) x.power 0 + power_among f rest)
          ≡ power_among f (factors_of fs) = ap (λ xs. power_of f list.factors + power_among f xs) (sym here) ∙ r.powers f in
          ap (λ xs. power_of f xs + power_among f rest) h ∙ more _ _ _ _ _ added before;
      few =
          let added = added_total (primitive_form (factor_of x).form) x.power list.factors in
          ap (λ xs. total_power xs + total_power rest) h ∙ more _ _ _ _ _ added few_now;
    }
      where
        more : (a p c d e : ℕ) → a ≡ c + p → p + (c + d) ≡ e → a + d ≡ e
        more a p c d e h g = omega (arith, h, g)

    pub form_fits : total_power (factors_of fs) ≤ 2304 → (f : LinearForm) → power_of f list.factors + x.power < 2 ^ 32
    form_fits small f =
        let within = power_within f list.factors in
        omega (arith, within, few_now, small)

    pub product_fault : (fault : RingFault) → OnFault (¬ (unsigned_abs (number *ℤ own) < 2 ^ 127)) fault
        → OnFault (¬ (unsigned_abs (total *ℤ contents_of (factors_of fs)) < 2 ^ 127)) fault
    product_fault fault h = fault_weaker fault (λ out. out_of_bounds (number *ℤ own) (contents_of rest) (total *ℤ contents_of (factors_of fs))
        (contents_not_zero (drop (i + 1) fs)) scale_next out) h

module _ (total number : ℤ) (list : FactorList) (fs : List RaisedForm) (i : ℕ) (end : length fs ≤ i) (r : ProductReached total number list fs i) where
  nothing : factors_of (drop i fs) ≡ []
  nothing = ap factors_of (drop_all i fs end)

  number_is : number ≡ total *ℤ contents_of (factors_of fs)
  number_is = sym (times_one number) ∙ ap (λ xs. number *ℤ contents_of xs) (sym nothing) ∙ r.scale
    where
      times_one : (n : ℤ) → n *ℤ pos 1 ≡ n
      times_one n = ring_z (n ∷ []) (search reading_z depth 40 fits 20000) refl

  -- the sorted list, with the number before it
  pub product_end : (sorted : FactorList) → IsPermutation list.factors sorted.factors → IsSorted sorted.factors → AreFactors list.factors
      → AreFactors sorted.factors → sorted.scale ≡ list.scale → (final : FactorList) → final.factors ≡ sorted.factors
      → final.scale ≡ sorted.scale *ℤ number → IsProductOf final total (factors_of fs)
  product_end sorted p rising before after s final e h = record {
    scale = h ∙ ap (λ z. z *ℤ number) (s ∙ r.unit) ∙ one_times number ∙ number_is;
    sorted = subst IsSorted (sym e) rising;
    some = subst (AllByRecursion (λ y. y.power ≢ 0)) (sym e)
        (all_more IsFactor (λ y. y.power ≢ 0) (λ y g z. omega (arith, g.some, z)) sorted.factors after.each);
    powers = λ f.
        ap (power_of f) e ∙ permuted_power f list.factors sorted.factors p before.distinct after.distinct
        ∙ last _ _ (ap (λ xs. power_of f list.factors + power_among f xs) (sym nothing) ∙ r.powers f);
  }
    where
      one_times : (n : ℤ) → pos 1 *ℤ n ≡ n
      one_times n = ring_z (n ∷ []) (search reading_z depth 40 fits 20000) refl

      last : (a b : ℕ) → a + 0 ≡ b → a ≡ b
      last a b h = omega (arith, h)

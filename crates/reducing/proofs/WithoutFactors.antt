-- Taking each form of a list out of a row of the code.
use Rattle.std.proofs.Common.{◌≡◌, ℕ, zero, suc, ◌+◌, ◌≤◌, pos, List, [], ◌∷◌, length, take, sym, ap, ◌∙◌, subst, arith, Some, slice_get}
use Rattle.std.specs.List.{AllByRecursion}
use Rattle.std.proofs.lemmas.List.{take_all}
use Rattle.ring_laws.specs.Meaning.{Meaning}
use Rattle.ring_laws.specs.Algebra.{Passing}
use Rattle.ring_laws.specs.Answer.{OnFault, fault_weaker}
use Rattle.ring_laws.specs.declared.faults.RingFault.{RingFault}
use Rattle.poly_divide.specs.Forms.{linear}
use Rattle.whole_roots.specs.Differences.{polynomials}
use Rattle.whole_roots.specs.LinearFactors.{Entry}
use Rattle.reducing.specs.TakenOut.{raised_to, TakenOut, AllTakenOut, none, next, TakingOutInBounds, AllTakingOutInBounds}
use Rattle.reducing.specs.Laws.ScaledRows.{scaled, scaled_twice}
use Rattle.reducing.specs.Laws.RowPowers.{power_is, is_power}
use Rattle.reducing.specs.Laws.OneTakenOut.{IsFactor}
use Rattle.reducing.specs.Laws.Multiples.{Multiple, all_taken_out_multiple}
use Rattle.reducing.specs.PolynomialRows.{Row, OfRows, forms, DivisionOfPolynomials}
use Rattle.reducing.specs.Laws.FactorLists.{laws, domain, P, linear_is_factor}
use Rattle.reducing.specs.PolynomialAnswers.{IsMost, FactorInBounds, FactorsOfRowInBounds}
use Rattle.reducing.proofs.Polynomials.{Zn, senses, row_of, row_meant}
use Rattle.reducing.proofs.WithoutFactor.{row_is, same_some}

pub all_at : (Q : Entry → Type 0) (xs : List Entry) (i : ℕ) (x : Entry) → AllByRecursion Q xs → slice_get xs i ≡ Some x → Q x
all_at Q [] i x h e = cc
all_at Q (y ∷ ys) zero x h e = subst Q (same_some y x e) h.0
all_at Q (y ∷ ys) (suc i) x h e = all_at Q ys i x h.1 e

all_taken : (Q : Entry → Type 0) (n : ℕ) (xs : List Entry) → AllByRecursion Q xs → AllByRecursion Q (take n xs)
all_taken Q zero xs h = tt
all_taken Q (suc n) [] h = tt
all_taken Q (suc n) (x ∷ xs) h = (h.0, all_taken Q n xs h.1)

factors_taken : (n : ℕ) (xs : List Entry) → AllByRecursion (λ (x : Entry). 1 ≤ x.0.0) xs
    → AllByRecursion (IsFactor polynomials laws domain) (forms (take n xs))
factors_taken zero xs h = tt
factors_taken (suc n) [] h = tt
factors_taken (suc n) (x ∷ xs) h = (linear_is_factor x.0.0 x.0.1 h.0, factors_taken n xs h.1)

-- one form more at the end
taken_more : (n : ℕ) (xs : List Entry) (x : Entry) (row between new : Row) → slice_get xs n ≡ Some x
    → AllTakenOut polynomials (forms (take n xs)) row between → TakenOut polynomials (linear (pos x.0.0) x.0.1) between new
    → AllTakenOut polynomials (forms (take (suc n) xs)) row new
taken_more n [] x row between new e h k = cc
taken_more zero (y ∷ ys) x row between new e none k =
    next (subst (λ (z : Entry). TakenOut polynomials (linear (pos z.0.0) z.0.1) row new) (sym (same_some y x e)) k) none
taken_more (suc n) (y ∷ ys) x row between new e (next h hs) k = next h (taken_more n ys x _ between new e hs k)

-- where the divisions of all are in bounds, so are those of what the first forms leave
in_bounds_after : (n : ℕ) (xs : List Entry) (x : Entry) (row between : Row) → slice_get xs n ≡ Some x
    → AllTakenOut polynomials (forms (take n xs)) row between → AllTakingOutInBounds DivisionOfPolynomials polynomials (forms xs) row
    → TakingOutInBounds DivisionOfPolynomials polynomials (linear (pos x.0.0) x.0.1) between
in_bounds_after n [] x row between e h b = cc
in_bounds_after zero (y ∷ ys) x row between e none b =
    subst (λ (z : Entry). TakingOutInBounds DivisionOfPolynomials polynomials (linear (pos z.0.0) z.0.1) row) (same_some y x e) b.0
in_bounds_after (suc n) (y ∷ ys) x row between e (next h hs) b = in_bounds_after n ys x _ between e hs (b.1 _ h)

-- the forms before the n-th are taken out
abbrev pub AreTaken : List Entry → ℕ → List Zn → List Zn → Type 0
AreTaken xs n row rest = AllTakenOut polynomials (forms (take n xs)) (row_of row) (row_of rest)

pub none_taken : (xs : List Entry) (row : List Zn) → AreTaken xs 0 row row
none_taken xs row = none

module _ (xs : List Entry) (n : ℕ) (x : Entry) (here : slice_get xs n ≡ Some x) (row rest : List Zn) (h : AreTaken xs n row rest) where
  abbrev form_of : Meaning
  form_of = linear (pos x.0.0) x.0.1

  pub taken_next : (new : List Zn) → OfRows (TakenOut polynomials form_of) (senses rest) (senses new) → AreTaken xs (n + 1) row new
  taken_next new k =
      let s : suc n ≡ n + 1 = omega arith in
      let t : TakenOut polynomials form_of (row_of rest) (row_of new) =
      subst (λ r. TakenOut polynomials form_of r (row_of new)) (row_is rest k.row k.row_is)
      (subst (λ r. TakenOut polynomials form_of k.row r) (row_is new k.result k.result_is) k.holds) in
      subst (λ m. AreTaken xs m row new) s (taken_more n xs x (row_of row) (row_of rest) (row_of new) here h t)

  pub most_after : AllByRecursion (λ (y : Entry). 1 ≤ y.0.0) xs → IsMost form_of x.1 (senses row) → IsMost form_of x.1 (senses rest)
  most_after slopes m others e =
      let t : Passing polynomials = (form_of, (linear_is_factor x.0.0 x.0.1 (all_at (λ (y : Entry). 1 ≤ y.0.0) xs n x slopes here)).0) in
      let f : Multiple polynomials laws domain (row_of row) (row_of rest) =
      all_taken_out_multiple polynomials laws domain (forms (take n xs)) (factors_taken n xs slopes) (row_of row) (row_of rest) h in
      let p : Passing polynomials = raised_to P t (x.1 + 1) in
      let q : row_of rest ≡ scaled polynomials laws domain p others =
      power_is polynomials laws domain t (x.1 + 1) (row_of rest) others (sym (row_meant rest) ∙ e) in
      m (scaled polynomials laws domain f.factor others)
      (row_meant row ∙ is_power polynomials laws domain t (x.1 + 1) (row_of row) (scaled polynomials laws domain f.factor others)
      (f.is ∙ ap (scaled polynomials laws domain f.factor) q ∙ scaled_twice polynomials laws domain f.factor p others
      ∙ ap (λ s. scaled polynomials laws domain s others) (laws.ring.product_comm p f.factor)
      ∙ sym (scaled_twice polynomials laws domain p f.factor others)))

  pub fault_after : (fault : RingFault) → OnFault (¬ (FactorInBounds form_of (senses rest))) fault
      → OnFault (¬ (FactorsOfRowInBounds xs (senses row))) fault
  fault_after fault k =
      fault_weaker fault
      (λ m s. m (λ y e. subst (TakingOutInBounds DivisionOfPolynomials polynomials form_of) (sym (row_is rest y e))
      (in_bounds_after n xs x (row_of row) (row_of rest) here h (s (row_of row) (row_meant row))))) k

pub all_are_taken : (xs : List Entry) (n : ℕ) (row rest : List Zn) → length xs ≡ n → AreTaken xs n row rest
    → OfRows (AllTakenOut polynomials (forms xs)) (senses row) (senses rest)
all_are_taken xs n row rest e h = record {
  row = row_of row;
  row_is = row_meant row;
  result = row_of rest;
  result_is = row_meant rest;
  holds = subst (λ ys. AllTakenOut polynomials (forms ys) (row_of row) (row_of rest)) (take_all n xs (omega (arith, e))) h;
}

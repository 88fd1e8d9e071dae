-- A list of factors at k + c stays sorted, and its forms stay primitive.
use Rattle.std.proofs.Common.{◌≡◌, List, [], ◌∷◌, map, refl, ap, subst, arith, inl, inr, ⊎_elim}
use Rattle.std.proofs.lemmas.Int.{ints}
use Rattle.std.specs.Int.{◌∣◌}
use Rattle.std.specs.List.{AllByRecursion}
use Rattle.std.specs.Prelude.{ℤ, pos, neg_ℤ, ◌+ℤ◌, ◌*ℤ◌, ◌<ℤ◌, unsigned_abs}
use Rattle.ring_solver.proofs.Read.{ring_z, reading_z}
use Rattle.ring_laws.proofs.DividedSums.{divides_sum, divides_product}
use Rattle.hypergeometric.specs.LinearForm.{LinearForm, Factor, FactorList}
use Rattle.hypergeometric.specs.FormOrder.{IsPrimitive, IsBefore, IsSorted}
use Rattle.hypergeometric.specs.FactorLists.{factor_with}
use Rattle.hypergeometric.proofs.SameValues.{zero_times}
use Rattle.term_pieces.specs.Products.{at_later_k}
use Rattle.claim_laws.specs.Identity.{list_at_k_plus}

module _ (c : ℤ) where
  pub primitive_later : (f : LinearForm) → IsPrimitive f → IsPrimitive (at_later_k f c)
  primitive_later f p = record {
    first = ⊎_elim inl (λ rest. ⊎_elim (λ h. inr (inl h)) (λ h. inr (inr (h.0, h.1, last f.k_slope f.offset h.0 h.2))) rest) p.first;
    coprime = λ d k n o. p.coprime d k n (subst (λ z. d ∣ unsigned_abs z) (back f.k_slope f.offset c)
        (divides_sum d (f.offset +ℤ f.k_slope *ℤ c) (neg_ℤ c *ℤ f.k_slope) o (divides_product d (neg_ℤ c) f.k_slope k)));
  }
    where
      last : (s o : ℤ) → s ≡ pos 0 → pos 0 <ℤ o → pos 0 <ℤ (o +ℤ s *ℤ c)
      last s o e h = omega (arith, ints, h, ap (λ t. t *ℤ c) e, zero_times c)

      back : (s o c : ℤ) → (o +ℤ s *ℤ c) +ℤ neg_ℤ c *ℤ s ≡ o
      back s o c = ring_z (s ∷ o ∷ c ∷ []) (search reading_z depth 40 fits 20000) refl

  before_later : (f g : LinearForm) → IsBefore f g → IsBefore (at_later_k f c) (at_later_k g c)
  before_later f g h = ⊎_elim inl (λ rest. ⊎_elim (λ t. inr (inl t)) (λ t. inr (inr (t.0, t.1, less t.0 t.2))) rest) h
    where
      less : f.k_slope ≡ g.k_slope → f.offset <ℤ g.offset → (f.offset +ℤ f.k_slope *ℤ c) <ℤ (g.offset +ℤ g.k_slope *ℤ c)
      less e l = omega (arith, ints, l, ap (λ t. t *ℤ c) e)

  abbrev later : Factor → Factor
  later x = factor_with (at_later_k x.form c) x.power

  all_later : (P Q : Factor → Type 0) → ((x : Factor) → P x → Q (later x)) → (xs : List Factor) → AllByRecursion P xs → AllByRecursion Q (map later xs)
  all_later P Q h [] all = tt
  all_later P Q h (x ∷ xs) (p, all) = (h x p, all_later P Q h xs all)

  sorted_later : (xs : List Factor) → IsSorted xs → IsSorted (map later xs)
  sorted_later [] h = tt
  sorted_later (x ∷ xs) (first, rest) = (
    all_later (λ y. IsBefore x.form y.form) (λ y. IsBefore (at_later_k x.form c) y.form) (λ y h. before_later x.form y.form h) xs first,
    sorted_later xs rest,
  )

  pub stays_sorted : (l : FactorList) → IsSorted l.factors → IsSorted (list_at_k_plus c l).factors
  stays_sorted l h = sorted_later l.factors h

  pub stays_primitive : (l : FactorList) → AllByRecursion (λ x. IsPrimitive x.form) l.factors
      → AllByRecursion (λ x. IsPrimitive x.form) (list_at_k_plus c l).factors
  stays_primitive l h = all_later (λ x. IsPrimitive x.form) (λ x. IsPrimitive x.form) (λ x p. primitive_later x.form p) l.factors h

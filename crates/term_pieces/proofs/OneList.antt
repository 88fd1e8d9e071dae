-- A number and forms make one list only.
use Rattle.std.proofs.Common.{◌≡◌, ◌≢◌, Bool, true, false, List, [], ◌∷◌, refl, ap, sym, ◌∙◌, arith, ◌⊎◌, inl, inr}
use Rattle.std.proofs.lemmas.Int.{ints}
use Rattle.std.specs.List.{AllByRecursion}
use Rattle.std.specs.Prelude.{ℤ, pos, zero, suc, negsuc, ◌-ℤ◌, ◌<ℤ◌, cond}
use Rattle.hypergeometric.specs.LinearForm.{LinearForm, Factor, FactorList}
use Rattle.hypergeometric.specs.FormOrder.{IsBefore, IsSorted}
use Rattle.hypergeometric.specs.FactorLists.{same_form, power_of}
use Rattle.hypergeometric.proofs.Lookups.{same_form_found, same_form_itself}
use Rattle.hypergeometric.proofs.SortedForms.{all_after}
use Rattle.term_pieces.specs.Products.{IsProductOf}
use Rattle.term_pieces.proofs.ProductValues.{not_among}

order_of : (x y : ℤ) → (x ≡ y) ⊎ ((x <ℤ y) ⊎ (y <ℤ x))
order_of x y = by (x -ℤ y) refl
  where
    by : (d : ℤ) → x -ℤ y ≡ d → (x ≡ y) ⊎ ((x <ℤ y) ⊎ (y <ℤ x))
    by (pos zero) e = inl (omega (arith, ints, e))
    by (pos (suc m)) e = inr (inr (omega (arith, ints, e)))
    by (negsuc m) e = inr (inl (omega (arith, ints, e)))

-- one of two forms that aren't the same comes before the other
pub order_of_forms : (f g : LinearForm) → (f ≡ g) ⊎ (IsBefore f g ⊎ IsBefore g f)
order_of_forms f g = by_k (order_of f.k_slope g.k_slope)
  where
    by_offset : f.k_slope ≡ g.k_slope → f.n_slope ≡ g.n_slope → ((f.offset ≡ g.offset) ⊎ ((f.offset <ℤ g.offset) ⊎ (g.offset <ℤ f.offset)))
        → (f ≡ g) ⊎ (IsBefore f g ⊎ IsBefore g f)
    by_offset k n (inl o) = inl (λ i. record { n_slope = n i; k_slope = k i; offset = o i })
    by_offset k n (inr (inl o)) = inr (inl (inr (inr (k, n, o))))
    by_offset k n (inr (inr o)) = inr (inr (inr (inr (sym k, sym n, o))))

    by_n : f.k_slope ≡ g.k_slope → ((f.n_slope ≡ g.n_slope) ⊎ ((f.n_slope <ℤ g.n_slope) ⊎ (g.n_slope <ℤ f.n_slope)))
        → (f ≡ g) ⊎ (IsBefore f g ⊎ IsBefore g f)
    by_n k (inl n) = by_offset k n (order_of f.offset g.offset)
    by_n k (inr (inl n)) = inr (inl (inr (inl (k, n))))
    by_n k (inr (inr n)) = inr (inr (inr (inl (sym k, n))))

    by_k : ((f.k_slope ≡ g.k_slope) ⊎ ((f.k_slope <ℤ g.k_slope) ⊎ (g.k_slope <ℤ f.k_slope))) → (f ≡ g) ⊎ (IsBefore f g ⊎ IsBefore g f)
    by_k (inl k) = by_n k (order_of f.n_slope g.n_slope)
    by_k (inr (inl k)) = inr (inl (inl k))
    by_k (inr (inr k)) = inr (inr (inl k))

own_power : (y : Factor) (ys : List Factor) → power_of y.form (y ∷ ys) ≡ y.power
own_power y ys = ap (λ b. cond b y.power (power_of y.form ys)) (same_form_itself y.form y.form refl)

abbrev pub AllSome : List Factor → Type 0
AllSome xs = AllByRecursion (λ x. x.power ≢ 0) xs

pub sorted_once : (xs ys : List Factor) → IsSorted xs → IsSorted ys → AllSome xs → AllSome ys → ((f : LinearForm) → power_of f xs ≡ power_of f ys) → xs ≡ ys
sorted_once [] [] p q a b h = refl
sorted_once [] (y ∷ ys) p q a (b, bs) h = absurd (b (sym (own_power y ys) ∙ sym (h y.form)))
sorted_once (x ∷ xs) [] p q (a, more) b h = absurd (a (sym (own_power x xs) ∙ h x.form))
sorted_once (x ∷ xs) (y ∷ ys) (p, ps) (q, qs) (a, more) (b, bs) h = by (order_of_forms x.form y.form) (sorted_once xs ys ps qs more bs)
  where
    by : ((x.form ≡ y.form) ⊎ (IsBefore x.form y.form ⊎ IsBefore y.form x.form)) → (((f : LinearForm) → power_of f xs ≡ power_of f ys) → xs ≡ ys)
        → x ∷ xs ≡ y ∷ ys
    by (inr (inl before)) rest =
        absurd (a (sym (own_power x xs) ∙ h x.form ∙ not_among x.form (y ∷ ys) (before, all_after x.form y.form before ys q)))
    by (inr (inr before)) rest =
        absurd (b (sym (own_power y ys) ∙ sym (h y.form) ∙ not_among y.form (x ∷ xs) (before, all_after y.form x.form before xs p)))
    by (inl e) rest = λ i. (record { form = e i; power = powers i }) ∷ rest left i
      where
        powers : x.power ≡ y.power
        powers = sym (own_power x xs) ∙ h x.form ∙ ap (λ f. power_of f (y ∷ ys)) e ∙ own_power y ys

        left : (f : LinearForm) → power_of f xs ≡ power_of f ys
        left f = same (same_form f x.form) refl
          where
            same : (c : Bool) → same_form f x.form ≡ c → power_of f xs ≡ power_of f ys
            same true t =
                let is = same_form_found f x.form t in
                ap (λ g. power_of g xs) is ∙ not_among x.form xs p ∙ sym (not_among y.form ys q) ∙ ap (λ g. power_of g ys) (sym e ∙ sym is)
            same false t =
                ap (λ c. cond c x.power (power_of f xs)) (sym t) ∙ h f
                ∙ ap (λ c. cond c y.power (power_of f ys)) (ap (same_form f) (sym e) ∙ t)

pub one_list : (l m : FactorList) (number : ℤ) (forms : List Factor) → IsProductOf l number forms → IsProductOf m number forms → l ≡ m
one_list l m number forms p q = λ i. record {
  scale = (p.scale ∙ sym q.scale) i;
  factors = sorted_once l.factors m.factors p.sorted q.sorted p.some q.some (λ f. p.powers f ∙ sym (q.powers f)) i;
}

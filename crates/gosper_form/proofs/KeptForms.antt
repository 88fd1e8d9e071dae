-- The denominators that the carrier keeps are primitive and not constant, as those of the term are.
use Rattle.std.proofs.Common.{◌≡◌, ℕ, zero, suc, Bool, true, false, cond, List, [], ◌∷◌, ◌++◌, refl, subst, inl, inr, ⊎_elim}
use Rattle.std.specs.Int.{◌∣◌}
use Rattle.std.specs.List.{AllByRecursion}
use Rattle.std.specs.Prelude.{ℤ, pos, neg_ℤ, ◌+ℤ◌, ◌*ℤ◌, unsigned_abs}
use Rattle.ring_laws.proofs.DividedSums.{divides_sum, divides_product}
use Rattle.ring_solver.proofs.Read.{ring_z, reading_z}
use Rattle.hypergeometric.specs.LinearForm.{LinearForm, Factor}
use Rattle.hypergeometric.specs.FormOrder.{IsPrimitive}
use Rattle.hypergeometric.specs.TermFacts.{IsNotConstant}
use Rattle.hypergeometric.specs.FactorLists.{factor_with}
use Rattle.hypergeometric.specs.PrimitiveForm.{is_zero}
use Rattle.term_pieces.specs.Products.{at_later_n}
use Rattle.term_pieces.specs.ItemForms.{from_each, shifts_up_to, counted, without_k, kept_over}
use Rattle.term_pieces.specs.Pieces.{gathered_forms}
use Rattle.gosper_form.proofs.GatheredForms.{gathered_all}

abbrev IsDivisor : LinearForm → Type 0
IsDivisor f = IsPrimitive f × IsNotConstant f

abbrev AreDivisors : List Factor → Type 0
AreDivisors xs = AllByRecursion (λ x. IsDivisor x.form) xs

later_divisor : (f : LinearForm) (j : ℤ) → IsDivisor f → IsDivisor (at_later_n f j)
later_divisor f j p = (
  record {
    first = ⊎_elim inl (λ rest. ⊎_elim (λ h. inr (inl h)) (λ h. absurd (p.1 (h.1, h.0))) rest) p.0.first;
    coprime = λ d k n o. p.0.coprime d k n (subst (λ z. d ∣ unsigned_abs z) (back f.n_slope f.offset j)
        (divides_sum d (f.offset +ℤ f.n_slope *ℤ j) (neg_ℤ j *ℤ f.n_slope) o (divides_product d (neg_ℤ j) f.n_slope n)));
  },
  p.1,
)
  where
    back : (s o c : ℤ) → (o +ℤ s *ℤ c) +ℤ neg_ℤ c *ℤ s ≡ o
    back s o c = ring_z (s ∷ o ∷ c ∷ []) (search reading_z depth 40 fits 20000) refl

joined : (xs ys : List Factor) → AreDivisors xs → AreDivisors ys → AreDivisors (xs ++ ys)
joined [] ys h g = g
joined (x ∷ xs) ys h g = (h.0, joined xs ys h.1 g)

shifts_divisors : (i : ℕ) (x : Factor) → IsDivisor x.form → AreDivisors (shifts_up_to i x)
shifts_divisors zero x h = (h, tt)
shifts_divisors (suc i) x h =
    joined (shifts_up_to i x) (factor_with (at_later_n x.form (pos (suc i))) x.power ∷ []) (shifts_divisors i x h) (later_divisor x.form (pos (suc i)) h, tt)

counted_divisors : (order : ℕ) (x : Factor) → IsDivisor x.form → AreDivisors (counted order x)
counted_divisors order x h = by (is_zero x.form.n_slope)
  where
    by : (b : Bool) → AreDivisors (cond b (x ∷ []) (shifts_up_to order x))
    by true = (h, tt)
    by false = shifts_divisors order x h

some_divisors : (xs : List Factor) → AreDivisors xs → AreDivisors (from_each without_k xs)
some_divisors [] h = tt
some_divisors (x ∷ xs) h = joined (without_k x) (from_each without_k xs) (by (is_zero x.form.k_slope)) (some_divisors xs h.1)
  where
    by : (b : Bool) → AreDivisors (cond b (x ∷ []) [])
    by true = (h.0, tt)
    by false = tt

all_kept : (order : ℕ) (xs : List Factor) → AreDivisors xs → AreDivisors (from_each (kept_over order) xs)
all_kept order [] h = tt
all_kept order (x ∷ xs) h =
    joined (kept_over order x) (from_each (kept_over order) xs) (some_divisors (counted order x) (counted_divisors order x h.0)) (all_kept order xs h.1)

pub kept_divisors : (order : ℕ) (xs : List Factor) → AreDivisors xs → AreDivisors (gathered_forms [] (from_each (kept_over order) xs))
kept_divisors order xs h = gathered_all IsDivisor [] (from_each (kept_over order) xs) tt (all_kept order xs h)

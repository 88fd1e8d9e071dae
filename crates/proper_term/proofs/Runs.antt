-- Runs of products: how they join, where they end, and which product they give.
use Rattle.std.proofs.Common.{◌≡◌, refl, sym, ◌∙◌, subst, List, [], ◌∷◌, ◌++◌}
use Rattle.std.specs.Prelude.{ℤ, pos, ◌*ℤ◌}
use Rattle.ring_solver.proofs.Read.{ring_z, reading_z}
use Rattle.hypergeometric.specs.Fraction.{Fraction, IsDefined, ◌≈◌, of_whole, fraction_product}
use Rattle.hypergeometric.proofs.FractionLaws.{one_not_zero, product_not_zero, equal_to_itself, equal_chain, equal_products}
use Rattle.hypergeometric.proofs.DefinedValues.{right_defined}
use Rattle.proper_term.specs.Runs.{IsInLowestTerms, RunsInBounds, Runs, product_of}

-- one run after another
pub runs_join : (r : Fraction) (xs : List Fraction) (s : Fraction) (ys : List Fraction) (t : Fraction) → Runs r xs s → Runs s ys t
    → Runs r (xs ++ ys) t
runs_join r [] s ys t h k = subst (λ u. Runs u ys t) (sym h) k
runs_join r (x ∷ xs) s ys t h k = (h.0, h.1, runs_join h.0 xs s ys t h.2 k)

-- what is left of a run in bounds is in bounds
pub bounds_after : (r : Fraction) (xs : List Fraction) (s : Fraction) (ys : List Fraction) → Runs r xs s → RunsInBounds r (xs ++ ys)
    → RunsInBounds s ys
bounds_after r [] s ys h b = subst (λ u. RunsInBounds u ys) h b
bounds_after r (x ∷ xs) s ys h b = bounds_after h.0 xs s ys h.2 (b.1 h.0 h.1)

pub bounds_before : (r : Fraction) (xs ys : List Fraction) → RunsInBounds r (xs ++ ys) → RunsInBounds r xs
bounds_before r [] ys b = tt
bounds_before r (x ∷ xs) ys b = (b.0, λ s e. bounds_before s xs ys (b.1 s e))

-- a run ends in lowest terms, where it begins there
pub run_lowest : (r : Fraction) (xs : List Fraction) (s : Fraction) → Runs r xs s → IsInLowestTerms r → IsInLowestTerms s
run_lowest r [] s h l = subst IsInLowestTerms h l
run_lowest r (x ∷ xs) s h l = run_lowest h.0 xs s h.2 h.1.lowest

-- a run that has come to `running`, with the rest of its factors to go
pub record Reached (start : Fraction) (all : List Fraction) (running : Fraction) (rest : List Fraction) : Type 0 where
  pub runs : (s : Fraction) → Runs running rest s → Runs start all s
  pub bounds : RunsInBounds start all → RunsInBounds running rest

-- some of the factors are passed
pub reached_on : (start : Fraction) (all : List Fraction) (running : Fraction) (xs rest : List Fraction) (s : Fraction)
    → Reached start all running (xs ++ rest) → Runs running xs s → Reached start all s rest
reached_on start all running xs rest s h r = record {
  runs = λ t k. h.runs t (runs_join running xs s rest t r k);
  bounds = λ b. bounds_after running xs s rest r (h.bounds b);
}

pub reached_fault : (start : Fraction) (all : List Fraction) (running : Fraction) (xs rest : List Fraction)
    → Reached start all running (xs ++ rest) → ¬ RunsInBounds running xs → ¬ RunsInBounds start all
reached_fault start all running xs rest h n b = n (bounds_before running xs rest (h.bounds b))

pub grouped : (f g h : Fraction) → IsDefined (fraction_product (fraction_product f g) h)
    → fraction_product (fraction_product f g) h ≈ fraction_product f (fraction_product g h)
grouped f g h d = record {
  left_defined = d;
  right_defined = λ e. d (regroup f.bottom g.bottom h.bottom ∙ e);
  cross = cross f.top f.bottom g.top g.bottom h.top h.bottom;
}
  where
    regroup : (a b c : ℤ) → (a *ℤ b) *ℤ c ≡ a *ℤ (b *ℤ c)
    regroup a b c = ring_z (a ∷ b ∷ c ∷ []) (search reading_z depth 40 fits 20000) refl

    cross : (a b c d e f : ℤ) → ((a *ℤ c) *ℤ e) *ℤ (b *ℤ (d *ℤ f)) ≡ (a *ℤ (c *ℤ e)) *ℤ ((b *ℤ d) *ℤ f)
    cross a b c d e f = ring_z (a ∷ b ∷ c ∷ d ∷ e ∷ f ∷ []) (search reading_z depth 40 fits 20000) refl

one_after : (f : Fraction) → IsDefined f → f ≈ fraction_product f (of_whole (pos 1))
one_after f d = record {
  left_defined = d;
  right_defined = product_not_zero f.bottom (pos 1) d one_not_zero;
  cross = cross f.top f.bottom;
}
  where
    cross : (a b : ℤ) → a *ℤ (b *ℤ pos 1) ≡ (a *ℤ pos 1) *ℤ b
    cross a b = ring_z (a ∷ b ∷ []) (search reading_z depth 40 fits 20000) refl

pub one_before : (f : Fraction) → IsDefined f → f ≈ fraction_product (of_whole (pos 1)) f
one_before f d = record {
  left_defined = d;
  right_defined = product_not_zero (pos 1) f.bottom one_not_zero d;
  cross = cross f.top f.bottom;
}
  where
    cross : (a b : ℤ) → a *ℤ (pos 1 *ℤ b) ≡ (pos 1 *ℤ a) *ℤ b
    cross a b = ring_z (a ∷ b ∷ []) (search reading_z depth 40 fits 20000) refl

-- a run ends at the product of where it begins and all factors
pub run_value : (r : Fraction) (xs : List Fraction) (s : Fraction) → Runs r xs s → IsDefined r → s ≈ fraction_product r (product_of xs)
run_value r [] s h d = subst (λ u. u ≈ fraction_product r (of_whole (pos 1))) h (one_after r d)
run_value r (x ∷ xs) s h d =
    let rest : s ≈ fraction_product h.0 (product_of xs) = run_value h.0 xs s h.2 h.1.same.left_defined in
    let others : IsDefined (product_of xs) = right_defined h.0 (product_of xs) rest.right_defined in
    let whole : fraction_product h.0 (product_of xs) ≈ fraction_product (fraction_product r x) (product_of xs) =
    equal_products h.1.same (equal_to_itself (product_of xs) others) in
    equal_chain rest (equal_chain whole (grouped r x (product_of xs) whole.right_defined))

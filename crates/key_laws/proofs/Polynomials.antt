-- The words of the key equation on the polynomials that belong to the ring, and their coefficients.
use Rattle.std.specs.Prelude.{◌≡◌, ℕ, suc, pos, List, [], ◌∷◌, refl}
use Rattle.std.proofs.Common.{ap, sym, ◌∙◌}
use Rattle.ring_laws.specs.Algebra.{Ops, Algebra, Passing, within, Laws, same_passing}
use Rattle.poly_laws.specs.PolyAlgebra.{poly_algebra}
use Rattle.poly_laws.specs.Shift.{list_shift}
use Rattle.poly_laws.proofs.PolyLaws.{equal_coefficients, coefficient-sum, coefficient-product, coefficient-neg, coefficient-nought, product_same}
use Rattle.kernel_laws.specs.Answers.{Vector, meant}
use Rattle.kernel_laws.specs.Reduction.{bare}
use Rattle.key_laws.specs.KeyEquation.{combination, SolvesWith}
use Rattle.key_laws.proofs.Differences.{difference_at}
use Rattle.division_laws.proofs.Polynomials.{polynomials, list_of, part, shifted_in, next_at, constant_in, listed_at, one_times}

module _ (a : Algebra) (l : Laws a) where
  abbrev base : Ops (Passing a)
  base = within a l.closed

  abbrev P : Ops (Passing (poly_algebra a))
  P = polynomials a l

  -- q(k) Y(k+1) - b(k) Y(k)
  abbrev pub difference_in : (q b y : Passing (poly_algebra a)) → Passing (poly_algebra a)
  difference_in q b y = P.sum (P.product q (shifted_in a l (pos 1) y)) (P.neg (P.product b y))

  pub difference_parts : (q b y : Passing (poly_algebra a)) (k : ℕ)
      → part a l (difference_in q b y) k ≡ difference_at base l.ring (list_of a l q) (list_of a l b) (list_of a l y) k
  difference_parts q b y k =
      cc (
        coefficient-sum a l.closed l.ring (P.product q (shifted_in a l (pos 1) y)) (P.neg (P.product b y)) k,
        product_same a l.closed l.ring q (shifted_in a l (pos 1) y) (list_of a l q) (list_shift base base.unit (list_of a l y)) (λ j. refl) (next_at a l y) k,
        coefficient-neg a l.closed l.ring (P.product b y) k,
        coefficient-product a l.closed l.ring b y k,
      )

  -- a_0 s_0 + a_1 s_1 + ..
  abbrev pub combination_in : Vector a → List (Passing (poly_algebra a)) → Passing (poly_algebra a)
  combination_in v [] = P.nought
  combination_in v (s ∷ ss) = P.sum (P.product (constant_in a l (v 0)) s) (combination_in (λ j. v (suc j)) ss)

  pub combination_is : (v : Vector a) (ss : List (Passing (poly_algebra a)))
      → (combination_in v ss).0 ≡ combination a.ops (meant a v) (bare (poly_algebra a) ss)
  combination_is v [] = refl
  combination_is v (s ∷ ss) =
      ap ((poly_algebra a).ops.sum (P.product (constant_in a l (v 0)) s).0) (combination_is (λ j. v (suc j)) ss)

  abbrev pub mixed_at : Vector a → List (Passing (poly_algebra a)) → ℕ → Passing a
  mixed_at v [] k = base.nought
  mixed_at v (s ∷ ss) k = base.sum (base.product (v 0) (part a l s k)) (mixed_at (λ j. v (suc j)) ss k)

  pub combination_parts : (v : Vector a) (ss : List (Passing (poly_algebra a))) (k : ℕ) → part a l (combination_in v ss) k ≡ mixed_at v ss k
  combination_parts v [] k = coefficient-nought a l.closed l.ring k
  combination_parts v (s ∷ ss) k =
      cc (
        coefficient-sum a l.closed l.ring (P.product (constant_in a l (v 0)) s) (combination_in (λ j. v (suc j)) ss) k,
        product_same a l.closed l.ring (constant_in a l (v 0)) s (v 0 ∷ []) (list_of a l s) (listed_at a l (v 0 ∷ []) ((v 0).0 ∷ []) refl) (λ j. refl) k,
        one_times a l (v 0) (list_of a l s) k,
        combination_parts (λ j. v (suc j)) ss k,
      )

  -- the equation holds where it does at each power
  pub solves_at : (q b : Passing (poly_algebra a)) (ss : List (Passing (poly_algebra a))) (y : Passing (poly_algebra a)) (v : Vector a)
      → SolvesWith a.ops q.0 b.0 (bare (poly_algebra a) ss) y.0 (meant a v)
      → (k : ℕ) → difference_at base l.ring (list_of a l q) (list_of a l b) (list_of a l y) k ≡ mixed_at v ss k
  solves_at q b ss y v e k =
      let same : difference_in q b y ≡ combination_in v ss =
      same_passing (poly_algebra a) (difference_in q b y) (combination_in v ss) (e ∙ sym (combination_is v ss)) in
      sym (difference_parts q b y k) ∙ ap (λ t. part a l t k) same ∙ combination_parts v ss k

  pub solves_by : (q b : Passing (poly_algebra a)) (ss : List (Passing (poly_algebra a))) (y : Passing (poly_algebra a)) (v : Vector a)
      → ((k : ℕ) → difference_at base l.ring (list_of a l q) (list_of a l b) (list_of a l y) k ≡ mixed_at v ss k)
      → SolvesWith a.ops q.0 b.0 (bare (poly_algebra a) ss) y.0 (meant a v)
  solves_by q b ss y v e =
      ap (λ (t : Passing (poly_algebra a)). t.0)
      (equal_coefficients a l.closed l.ring (difference_in q b y) (combination_in v ss)
      (λ k. difference_parts q b y k ∙ e k ∙ sym (combination_parts v ss k)))
      ∙ combination_is v ss

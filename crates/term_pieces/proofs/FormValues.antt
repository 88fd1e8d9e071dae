-- The values of shifted forms, and those of products of forms that follow one another: rising products, to a power.
use Rattle.std.proofs.Common.{◌≡◌, ℕ, zero, suc, List, [], ◌∷◌, ◌++◌, refl, ap, sym, ◌∙◌, arith}
use Rattle.std.proofs.lemmas.Int.{ints}
use Rattle.std.proofs.Math.IntN.{pow, pow-succ'}
use Rattle.std.specs.Prelude.{ℤ, pos, neg_ℤ, ◌+ℤ◌, ◌-ℤ◌, ◌*ℤ◌}
use Rattle.ring_solver.specs.Ranges.{over, rising}
use Rattle.ring_solver.proofs.Integers.{integers}
use Rattle.ring_solver.proofs.Read.{ring_z, reading_z}
use Rattle.ring_solver.proofs.Sums.{rising_first}
use Rattle.hypergeometric.specs.Point.{Point, values, later_n, later_k}
use Rattle.hypergeometric.specs.LinearForm.{LinearForm, Factor, form_value, forms_value}
use Rattle.hypergeometric.specs.FactorLists.{factor_with}
use Rattle.term_pieces.specs.Products.{form_plus, at_later_n, at_later_k, forms_above, forms_below}

pub plus_value : (f : LinearForm) (c : ℤ) (p : Point) → form_value (form_plus f c) p ≡ form_value f p +ℤ c
plus_value f c p = group (f.n_slope *ℤ p.n) (f.k_slope *ℤ p.k) f.offset c
  where
    group : (a b o c : ℤ) → (a +ℤ b) +ℤ (o +ℤ c) ≡ ((a +ℤ b) +ℤ o) +ℤ c
    group a b o c = omega (arith, ints)

pub later_n_value : (f : LinearForm) (j : ℤ) (p : Point) → form_value (at_later_n f j) p ≡ form_value f (later_n p j)
later_n_value f j p = shift f.n_slope (f.k_slope *ℤ p.k) f.offset p.n j
  where
    shift : (s b o n j : ℤ) → (s *ℤ n +ℤ b) +ℤ (o +ℤ s *ℤ j) ≡ (s *ℤ (n +ℤ j) +ℤ b) +ℤ o
    shift s b o n j = ring_z (s ∷ b ∷ o ∷ n ∷ j ∷ []) (search reading_z depth 40 fits 20000) refl

pub later_k_value : (f : LinearForm) (j : ℤ) (p : Point) → form_value (at_later_k f j) p ≡ form_value f (later_k p j)
later_k_value f j p = shift (f.n_slope *ℤ p.n) f.k_slope f.offset p.k j
  where
    shift : (a s o k j : ℤ) → (a +ℤ s *ℤ k) +ℤ (o +ℤ s *ℤ j) ≡ (a +ℤ s *ℤ (k +ℤ j)) +ℤ o
    shift a s o k j = ring_z (a ∷ s ∷ o ∷ k ∷ j ∷ []) (search reading_z depth 40 fits 20000) refl

-- the value of lists that are joined
pub joined_value : (xs ys : List Factor) (p : Point) → forms_value (xs ++ ys) p ≡ forms_value xs p *ℤ forms_value ys p
joined_value [] ys p = one_times (forms_value ys p)
  where
    one_times : (x : ℤ) → x ≡ pos 1 *ℤ x
    one_times x = ring_z (x ∷ []) (search reading_z depth 40 fits 20000) refl
joined_value (x ∷ xs) ys p =
    ap (λ t. pow (form_value x.form p) x.power *ℤ t) (joined_value xs ys p)
    ∙ sym (integers.mul_assoc (pow (form_value x.form p) x.power) (forms_value xs p) (forms_value ys p))

-- the power of a product
pub pow_of_product : (a b : ℤ) (e : ℕ) → pow (a *ℤ b) e ≡ pow a e *ℤ pow b e
unfolding pow lib.IntN.one
pow_of_product a b zero = refl
pow_of_product a b (suc e) =
    pow-succ' (a *ℤ b) e ∙ ap (λ t. (a *ℤ b) *ℤ t) (pow_of_product a b e) ∙ exchange a b (pow a e) (pow b e)
    ∙ sym (ap (λ t. t *ℤ pow b (suc e)) (pow-succ' a e) ∙ ap (λ t. (a *ℤ pow a e) *ℤ t) (pow-succ' b e))
  where
    exchange : (a b x y : ℤ) → (a *ℤ b) *ℤ (x *ℤ y) ≡ (a *ℤ x) *ℤ (b *ℤ y)
    exchange a b x y = ring_z (a ∷ b ∷ x ∷ y ∷ []) (search reading_z depth 40 fits 20000) refl

pub pow_of_one : (e : ℕ) → pow (pos 1) e ≡ pos 1
unfolding pow lib.IntN.one
pow_of_one zero = refl
pow_of_one (suc e) = pow-succ' (pos 1) e ∙ ap (λ t. pos 1 *ℤ t) (pow_of_one e)

times_one : (x : ℤ) → x *ℤ pos 1 ≡ x
times_one x = ring_z (x ∷ []) (search reading_z depth 40 fits 20000) refl

-- a list of one form
pub lone_value : (f : LinearForm) (e : ℕ) (p : Point) → forms_value (factor_with f e ∷ []) p ≡ pow (form_value f p) e
lone_value f e p = times_one (pow (form_value f p) e)

-- (f + 1)(f + 2) .. (f + m)
pub above_value : (f : LinearForm) (m e : ℕ) (p : Point) → forms_value (forms_above f m e) p ≡ pow (rising (form_value f p +ℤ pos 1) m) e
unfolding over
above_value f zero e p = sym (pow_of_one e)
above_value f (suc m) e p =
    let v = form_value f p in
    let last : form_value (form_plus f (pos (suc m))) p ≡ (v +ℤ pos 1) +ℤ pos m = plus_value f (pos (suc m)) p ∙ one_first v m in
    joined_value (forms_above f m e) (factor_with (form_plus f (pos (suc m))) e ∷ []) p
    ∙ ap (λ t. t *ℤ forms_value (factor_with (form_plus f (pos (suc m))) e ∷ []) p) (above_value f m e p)
    ∙ ap (λ t. pow (rising (v +ℤ pos 1) m) e *ℤ t) (lone_value (form_plus f (pos (suc m))) e p ∙ ap (λ t. pow t e) last)
    ∙ sym (pow_of_product (rising (v +ℤ pos 1) m) ((v +ℤ pos 1) +ℤ pos m) e)
  where
    one_first : (v : ℤ) (m : ℕ) → v +ℤ pos (suc m) ≡ (v +ℤ pos 1) +ℤ pos m
    one_first v m = omega (arith, ints)

-- f (f - 1) .. (f - m + 1)
pub below_value : (f : LinearForm) (m e : ℕ) (p : Point)
    → forms_value (forms_below f m e) p ≡ pow (rising ((form_value f p -ℤ pos m) +ℤ pos 1) m) e
unfolding over
below_value f zero e p = sym (pow_of_one e)
below_value f (suc m) e p =
    let v = form_value f p in
    let first : form_value (form_plus f (neg_ℤ (pos m))) p ≡ (v -ℤ pos (suc m)) +ℤ pos 1 = plus_value f (neg_ℤ (pos m)) p ∙ one_less v m in
    let after : (v -ℤ pos m) +ℤ pos 1 ≡ ((v -ℤ pos (suc m)) +ℤ pos 1) +ℤ pos 1 = omega (arith, ints) in
    joined_value (forms_below f m e) (factor_with (form_plus f (neg_ℤ (pos m))) e ∷ []) p
    ∙ ap (λ t. t *ℤ forms_value (factor_with (form_plus f (neg_ℤ (pos m))) e ∷ []) p) (below_value f m e p)
    ∙ ap (λ t. pow (rising ((v -ℤ pos m) +ℤ pos 1) m) e *ℤ t) (lone_value (form_plus f (neg_ℤ (pos m))) e p ∙ ap (λ t. pow t e) first)
    ∙ sym (pow_of_product (rising ((v -ℤ pos m) +ℤ pos 1) m) ((v -ℤ pos (suc m)) +ℤ pos 1) e)
    ∙ ap (λ t. pow t e) (ap (λ t. rising t m *ℤ ((v -ℤ pos (suc m)) +ℤ pos 1)) after
    ∙ integers.mul_comm (rising (((v -ℤ pos (suc m)) +ℤ pos 1) +ℤ pos 1) m) ((v -ℤ pos (suc m)) +ℤ pos 1)
    ∙ sym (rising_first ((v -ℤ pos (suc m)) +ℤ pos 1) m))
  where
    one_less : (v : ℤ) (m : ℕ) → v +ℤ neg_ℤ (pos m) ≡ (v -ℤ pos (suc m)) +ℤ pos 1
    one_less v m = omega (arith, ints)

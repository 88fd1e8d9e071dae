-- Rows times a power of one value.
-- These are lemmas: they stand in specs/, since the laws that `Reducing` names rest on them.
use Rattle.std.specs.Prelude.{◌≡◌, ℕ, zero, suc, ◌+◌, ◌-◌, ◌≤◌, List, [], ◌∷◌, refl}
use Rattle.std.proofs.Common.{ap, sym, ◌∙◌, subst, arith}
use Rattle.ring_laws.specs.Algebra.{Ops, Algebra, Passing, within, Laws}
use Rattle.ring_laws.specs.Division.{DomainLaws}
use Rattle.kernel_laws.specs.Reduction.{bare}
use Rattle.reducing.specs.TakenOut.{raised_to, times_row, TakenOut}
use Rattle.reducing.specs.Laws.ScaledRows.{scaled, scaled_is, is_scaled, cancel_row, scaled_twice, unit_not_nought, product_not_nought}

module _ (a : Algebra) (l : Laws a) (d : DomainLaws a) where
  abbrev W : Ops (Passing a)
  W = within a l.closed

  abbrev Row : Type 0
  Row = List (Passing a)

  pub raised_meant : (t : Passing a) (n : ℕ) → (raised_to W t n).0 ≡ raised_to a.ops t.0 n
  raised_meant t zero = refl
  raised_meant t (suc n) = ap (λ s. a.ops.product s t.0) (raised_meant t n)

  pub raised_not_nought : (t : Passing a) → ¬ (t ≡ W.nought) → (n : ℕ) → ¬ (raised_to W t n ≡ W.nought)
  raised_not_nought t m zero = unit_not_nought a l d
  raised_not_nought t m (suc n) = product_not_nought a l d (raised_to W t n) t (raised_not_nought t m n) m

  -- t^(n + m + 1) is t^m * t * t^n
  pub raised_more : (t : Passing a) (n m : ℕ) → raised_to W t (n + suc m) ≡ W.product (W.product (raised_to W t m) t) (raised_to W t n)
  raised_more t zero m =
      let e : suc m ≡ 0 + suc m = omega arith in
      subst (λ k. raised_to W t k ≡ W.product (W.product (raised_to W t m) t) W.unit) e (once (W.product (raised_to W t m) t))
    where
      once : (s : Passing a) → s ≡ W.product s W.unit
      once s = sym (l.ring.product_comm s W.unit ∙ l.ring.unit_product s)
  raised_more t (suc n) m =
      let e : suc (n + suc m) ≡ suc n + suc m = omega arith in
      subst (λ k. raised_to W t k ≡ W.product (W.product (raised_to W t m) t) (raised_to W t (suc n))) e
      (ap (λ s. W.product s t) (raised_more t n m) ∙ l.ring.product_assoc (W.product (raised_to W t m) t) (raised_to W t n) t)

  -- the new row times a power of t is the old row
  abbrev pub PowerOf : Passing a → ℕ → Row → Row → Type 0
  PowerOf t power old new = old ≡ scaled a l d (raised_to W t power) new

  pub power_is : (t : Passing a) (n : ℕ) (old new : Row) → bare a old ≡ times_row a (raised_to a.ops t.0 n) new → PowerOf t n old new
  power_is t n old new e = scaled_is a l d (raised_to W t n) old new (e ∙ ap (λ s. times_row a s new) (sym (raised_meant t n)))

  pub is_power : (t : Passing a) (n : ℕ) (old new : Row) → PowerOf t n old new → bare a old ≡ times_row a (raised_to a.ops t.0 n) new
  is_power t n old new e = is_scaled a l d (raised_to W t n) old new e ∙ ap (λ s. times_row a s new) (raised_meant t n)

  pub power_of : (t : Passing a) (old new : Row) → (h : TakenOut a t.0 old new) → PowerOf t h.power old new
  power_of t old new h = power_is t h.power old new h.times

  pub no_power : (t : Passing a) (row : Row) → PowerOf t 0 row row
  no_power t [] = refl
  no_power t (x ∷ xs) = cc (sym (l.ring.product_comm x W.unit ∙ l.ring.unit_product x), no_power t xs)

  pub power_more : (t : Passing a) (n : ℕ) (old between new : Row) → PowerOf t n old between → between ≡ scaled a l d t new → PowerOf t (n + 1) old new
  power_more t n old between new e f =
      let s : suc n ≡ n + 1 = omega arith in
      subst (λ k. PowerOf t k old new) s
      (e ∙ ap (scaled a l d (raised_to W t n)) f ∙ scaled_twice a l d (raised_to W t n) t new
      ∙ ap (λ r. scaled a l d r new) (l.ring.product_comm t (raised_to W t n)))

  -- by a greater power less is left, so t divides what is left by the smaller one
  pub left_by_less : (t : Passing a) → ¬ (t ≡ W.nought) → (p q : ℕ) (old new other : Row) → suc p ≤ q → PowerOf t p old new → PowerOf t q old other
      → new ≡ scaled a l d t (scaled a l d (raised_to W t (q - suc p)) other)
  left_by_less t m p q old new other b e f =
      cancel_row a l d (raised_to W t p) (raised_not_nought t m p) new (scaled a l d t (scaled a l d r other))
      (sym e ∙ f ∙ ap (λ (s : Passing a). scaled a l d s other) together ∙ sym (scaled_twice a l d (raised_to W t p) (W.product r t) other)
      ∙ ap (scaled a l d (raised_to W t p)) (sym (scaled_twice a l d t r other)))
    where
      r : Passing a
      r = raised_to W t (q - suc p)

      together : raised_to W t q ≡ W.product (W.product r t) (raised_to W t p)
      together =
          let c : p + suc (q - suc p) ≡ q = omega (arith, b) in
          subst (λ k. raised_to W t k ≡ W.product (W.product r t) (raised_to W t p)) c (raised_more t p (q - suc p))

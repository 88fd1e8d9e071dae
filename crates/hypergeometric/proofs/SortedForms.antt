-- The order of forms, number by number.
use Rattle.std.specs.Prelude.{◌≡◌, ◌≢◌, ◌<ℤ◌, false, List, [], ◌∷◌}
use Rattle.std.specs.Cmp.{int_ranks}
use Rattle.std.specs.List.{AllByRecursion}
use Rattle.std.specs.Ordering.{int_cmp, is_lt, ordering_then, MatchOrdering}
use Rattle.std.specs.declared.cmp.Ordering.{Ordering}
use Rattle.std.specs.declared.cmp.Ordering.TheVariants.{Less, Equal, Greater}
use Rattle.std.proofs.Common.{sym, ◌∙◌, arith, inl, inr, true≢false}
use Rattle.std.proofs.lemmas.Int.{ints}
use Rattle.hypergeometric.specs.LinearForm.{LinearForm, Factor}
use Rattle.hypergeometric.specs.FormOrder.{IsBefore}
use Rattle.hypergeometric.specs.Forms.{form_with}

-- the order of two forms, as the code compares them
abbrev pub form_cmp : LinearForm → LinearForm → Ordering
form_cmp f g = ordering_then (int_cmp f.k_slope g.k_slope) (ordering_then (int_cmp f.n_slope g.n_slope) (int_cmp f.offset g.offset))

-- a form that isn't greater, and isn't the same, comes before
module _ (f g : LinearForm) (n : f ≢ g) where
  third : (t : Ordering) → MatchOrdering t (g.offset <ℤ f.offset) (g.offset ≡ f.offset) (f.offset <ℤ g.offset) → is_lt t ≡ false
      → f.k_slope ≡ g.k_slope → f.n_slope ≡ g.n_slope → IsBefore f g
  third Less m h p q = absurd (true≢false h)
  third Equal m h p q =
      let o : f.offset ≡ g.offset = sym m in
      absurd (n (λ i. form_with (q i) (p i) (o i)))
  third Greater m h p q = inr (inr (p, q, m))

  second : (s t : Ordering) → MatchOrdering s (g.n_slope <ℤ f.n_slope) (g.n_slope ≡ f.n_slope) (f.n_slope <ℤ g.n_slope)
      → MatchOrdering t (g.offset <ℤ f.offset) (g.offset ≡ f.offset) (f.offset <ℤ g.offset) → is_lt (ordering_then s t) ≡ false
      → f.k_slope ≡ g.k_slope → IsBefore f g
  second Less t m k h p = absurd (true≢false h)
  second Equal t m k h p = third t k h p (sym m)
  second Greater t m k h p = inr (inl (p, m))

  first : (r s t : Ordering) → MatchOrdering r (g.k_slope <ℤ f.k_slope) (g.k_slope ≡ f.k_slope) (f.k_slope <ℤ g.k_slope)
      → MatchOrdering s (g.n_slope <ℤ f.n_slope) (g.n_slope ≡ f.n_slope) (f.n_slope <ℤ g.n_slope)
      → MatchOrdering t (g.offset <ℤ f.offset) (g.offset ≡ f.offset) (f.offset <ℤ g.offset) → is_lt (ordering_then r (ordering_then s t)) ≡ false
      → IsBefore f g
  first Less s t l m k h = absurd (true≢false h)
  first Equal s t l m k h = second s t m k h (sym l)
  first Greater s t l m k h = inl l

  pub comes_before : is_lt (form_cmp g f) ≡ false → IsBefore f g
  comes_before h =
      first (int_cmp g.k_slope f.k_slope) (int_cmp g.n_slope f.n_slope) (int_cmp g.offset f.offset) (int_ranks g.k_slope f.k_slope)
      (int_ranks g.n_slope f.n_slope) (int_ranks g.offset f.offset) h

pub before_trans : (f g h : LinearForm) → IsBefore f g → IsBefore g h → IsBefore f h
before_trans f g h (inl a) (inl b) = inl (omega (arith, ints, a, b))
before_trans f g h (inl a) (inr (inl b)) = inl (omega (arith, ints, a, b.0))
before_trans f g h (inl a) (inr (inr b)) = inl (omega (arith, ints, a, b.0))
before_trans f g h (inr (inl a)) (inl b) = inl (omega (arith, ints, a.0, b))
before_trans f g h (inr (inl a)) (inr (inl b)) = inr (inl (a.0 ∙ b.0, omega (arith, ints, a.1, b.1)))
before_trans f g h (inr (inl a)) (inr (inr b)) = inr (inl (a.0 ∙ b.0, omega (arith, ints, a.1, b.1)))
before_trans f g h (inr (inr a)) (inl b) = inl (omega (arith, ints, a.0, b))
before_trans f g h (inr (inr a)) (inr (inl b)) = inr (inl (a.0 ∙ b.0, omega (arith, ints, a.1, b.1)))
before_trans f g h (inr (inr a)) (inr (inr b)) = inr (inr (a.0 ∙ b.0, a.1 ∙ b.1, omega (arith, ints, a.2, b.2)))

-- what a form is behind of, each form behind it is behind of too
pub all_after : (f g : LinearForm) → IsBefore f g → (xs : List Factor) → AllByRecursion (λ y. IsBefore g y.form) xs → AllByRecursion (λ y. IsBefore f y.form) xs
all_after f g b [] h = tt
all_after f g b (x ∷ xs) h = (before_trans f g x.form b h.0, all_after f g b xs h.1)

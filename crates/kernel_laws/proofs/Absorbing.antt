-- A number is divided where that can be, and else the vector is multiplied: both at once, as one equation.
use Rattle.std.proofs.Common.{◌≡◌, ℕ, List, [], ◌∷◌, map, length, refl, ap, sym, ◌∙◌}
use Rattle.std.proofs.lemmas.List.{length-map}
use Rattle.ring_laws.specs.Meaning.{Meaning}
use Rattle.ring_laws.specs.Algebra.{Ops, Algebra, Passing, within, Laws, same_passing}
use Rattle.poly_laws.proofs.ListLaws.{at_scale}
use Rattle.kernel_laws.specs.Rows.{entry_at}
use Rattle.kernel_laws.specs.Reduction.{bare}
use Rattle.kernel_laws.specs.BackSubstitution.{Absorbed, quotient, multiple}

module _ (a : Algebra) (l : Laws a) (u : ¬ ((within a l.closed).unit ≡ (within a l.closed).nought)) where
  abbrev W : Ops (Passing a)
  W = within a l.closed

  -- factor * s = t * rest, and the new vector is factor times the old one
  pub record Absorbs (t s : Passing a) (vs : List (Passing a)) (rest : Meaning) (new : List Meaning) : Type 0 where
    pub factor : Passing a
    pub factor_isnt : ¬ (factor ≡ W.nought)
    pub left : Passing a
    pub left_is : left.0 ≡ rest
    pub vector : List (Passing a)
    pub vector_is : bare a vector ≡ new
    pub size : length vector ≡ length vs
    pub is : (k : ℕ) → entry_at W vector k ≡ W.product factor (entry_at W vs k)
    pub gives : W.product factor s ≡ W.product t left

  bare_scaled : (t : Passing a) (vs : List (Passing a)) → bare a (map (W.product t) vs) ≡ map (a.ops.product t.0) (bare a vs)
  bare_scaled t [] = refl
  bare_scaled t (v ∷ vs) = ap (λ y. a.ops.product t.0 v.0 ∷ y) (bare_scaled t vs)

  pub absorbs : (t s : Passing a) → ¬ (t ≡ W.nought) → (vs : List (Passing a)) (rest : Meaning) (new : List Meaning)
      → Absorbed a t.0 s.0 (bare a vs) rest new → Absorbs t s vs rest new
  absorbs t s tn vs _ _ (quotient q h) = record {
    factor = W.unit;
    factor_isnt = u;
    left = q;
    left_is = refl;
    vector = vs;
    vector_is = refl;
    size = refl;
    is = λ k. sym (l.ring.unit_product (entry_at W vs k));
    gives = l.ring.unit_product s ∙ sym (same_passing a (W.product q t) s h) ∙ l.ring.product_comm q t;
  }
  absorbs t s tn vs _ _ (multiple m) = record {
    factor = t;
    factor_isnt = tn;
    left = s;
    left_is = refl;
    vector = map (W.product t) vs;
    vector_is = bare_scaled t vs;
    size = length-map vs (W.product t);
    is = at_scale W l.ring t vs;
    gives = refl;
  }

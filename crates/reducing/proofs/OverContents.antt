-- A polynomial over its content.
use Rattle.std.proofs.Common.{◌≡◌, zero, suc, ℤ, pos, negsuc, unsigned_abs, ◌≤ℤ◌, ◌<ℤ◌, IsFalse, List, [], ◌∷◌, map, length, get_or, refl, ap, ◌∙◌, subst, sym, arith}
use Rattle.std.proofs.lemmas.Int.{ints}
use Rattle.std.proofs.lemmas.List.{length-map}
use Rattle.ring_laws.specs.Meaning.{Meaning}
use Rattle.ring_laws.specs.Algebra.{Passing, same_passing}
use Rattle.poly_divide.specs.Content.{row_sizes, IsContent}
use Rattle.whole_roots.specs.Differences.{polynomials}
use Rattle.reducing.specs.PolynomialRows.{IsTimesContent}
use Rattle.reducing.specs.Laws.FactorLists.{laws, P}
use Rattle.reducing.proofs.Polynomials.{Zn, sense, sense_passes, senses}
use Rattle.reducing.proofs.ZeroRows.{zero_row}

-- the content of a polynomial that isn't zero isn't 0
pub content_isnt : (f : Zn) (row : List Zn) (d : ℤ) → IsFalse (polynomials.ops.is_nought (sense f)) → senses row ≡ sense f ∷ []
    → IsContent (row_sizes (senses row)) (unsigned_abs d) → ¬ (d ≡ pos 0)
content_isnt f row d n e h z =
    let x : Passing polynomials = (sense f, sense_passes f) in
    let k : IsContent (row_sizes (sense f ∷ [])) 0 = subst (λ t. IsContent (row_sizes (sense f ∷ [])) (unsigned_abs t)) z
    (subst (λ ms. IsContent (row_sizes ms) (unsigned_abs d)) e h) in
    cc (n, (laws.ring.is_nought x).1 (same_passing polynomials x P.nought (zero_row (x ∷ []) k 0)))

above : (z : ℤ) → pos 0 ≤ℤ z → ¬ (z ≡ pos 0) → pos 0 <ℤ z
above (pos zero) h n = absurd (n refl)
above (pos (suc k)) h n = omega (arith, ints)
above (negsuc k) h n = absurd (omega (arith, ints, h))

pub over : (f : Zn) (row quotients : List Zn) (part : Zn) (d : ℤ) → IsFalse (polynomials.ops.is_nought (sense f)) → senses row ≡ sense f ∷ []
    → IsContent (row_sizes (senses row)) (unsigned_abs d) → pos 0 ≤ℤ d
    → senses row ≡ map (λ q. polynomials.ops.product (sense q) (polynomials.ops.whole d)) quotients → part ≡ get_or quotients 0 part
    → IsTimesContent (sense f) d (sense part)
over f row [] part d n e h s t g = absurd (omega (arith, ap length e, ap length t, length-map row sense))
over f row (q ∷ []) part d n e h s t g = record {
  value = (sense f, sense_passes f);
  value_is = refl;
  rest = (sense part, sense_passes part);
  rest_is = refl;
  is_content = subst (λ ms. IsContent (row_sizes ms) (unsigned_abs d)) e h;
  positive = above d s (content_isnt f row d n e h);
  times = first (sym e ∙ t) ∙ ap (λ p. polynomials.ops.product (sense p) (polynomials.ops.whole d)) (sym g);
}
  where
    first : {m k : Meaning} → m ∷ [] ≡ k ∷ [] → m ≡ k
    first u = cc
over f row (q ∷ r ∷ rs) part d n e h s t g = absurd (omega (arith, ap length e, ap length t, length-map row sense))

-- No form divides every entry of a reduced row: those that divide the least entry were taken out.
use Rattle.std.specs.Prelude.{ℕ, ◌<◌, ◌≤◌, ℤ, pos, List, [], ◌∷◌, length, get_or}
use Rattle.std.specs.List.{AllByRecursion}
use Rattle.std.proofs.Common.{◌≡◌, ap, sym, ◌∙◌, subst, arith, ⊎_elim}
use Rattle.std.proofs.lemmas.List.{length-map}
use Rattle.ring_laws.specs.Meaning.{Meaning}
use Rattle.ring_laws.specs.Algebra.{Passing, same_passing}
use Rattle.poly_divide.specs.Forms.{linear}
use Rattle.whole_roots.specs.Differences.{polynomials}
use Rattle.whole_roots.specs.LinearFactors.{Entry, IsLinearFactor, IsProfileForm, PowerDivides, HasForm}
use Rattle.kernel_laws.specs.Rows.{entry_at}
use Rattle.reducing.specs.TakenOut.{times_row, AllTakenOut, next}
use Rattle.reducing.specs.Laws.ScaledRows.{scaled, scaled_is, is_scaled, scaled_twice}
use Rattle.reducing.specs.Laws.Multiples.{Multiple, all_taken_out_multiple}
use Rattle.reducing.specs.PolynomialRows.{Row, meant, forms, Reduced, stays, divides, PolynomialsReduced}
use Rattle.reducing.specs.Laws.FactorLists.{laws, domain, P, linear_is_factor, forms_are_factors}
use Rattle.reducing.specs.CommonForms.{HasNoCommonForm, IsSomeNonzero}
use Rattle.reducing.proofs.WithoutFactor.{entry_of_times}

abbrev times : Passing polynomials → Row → Row
times t row = scaled polynomials laws domain t row

-- a multiple of a multiple of t is one of t
pub multiple_of : (t f : Passing polynomials) (rest : Row) → times f (times t rest) ≡ times t (times f rest)
multiple_of t f rest =
    scaled_twice polynomials laws domain f t rest ∙ ap (λ s. times s rest) (laws.ring.product_comm t f)
    ∙ sym (scaled_twice polynomials laws domain t f rest)

-- a form of the list divides what is left no more
none_left : (f : Meaning) (xs : List Entry) (u : ℕ) (v : ℤ) (b : 1 ≤ u) → AllByRecursion (IsLinearFactor f) xs → (old new : Row)
    → AllTakenOut polynomials (forms xs) old new → HasForm u v xs → (quotients : Row)
    → ¬ (new ≡ times (linear (pos u) v, (linear_is_factor u v b).0) quotients)
none_left f [] u v b h old new taken m quotients e = absurd m
none_left f (x ∷ xs) u v b h old new (next {between = y} k ks) m quotients e =
    ⊎_elim
    (λ d. k.no_more (times left.factor quotients)
    (is_scaled polynomials laws domain first y (times left.factor quotients)
    (left.is ∙ ap (times left.factor) (e ∙ ap (λ s. times s quotients) (same d)) ∙ multiple_of first left.factor quotients)))
    (λ n. none_left f xs u v b h.1 y new ks n quotients e) m
  where
    left : Multiple polynomials laws domain y new
    left = all_taken_out_multiple polynomials laws domain (forms xs) (forms_are_factors f xs h.1) y new ks

    first : Passing polynomials
    first = (linear (pos x.0.0) x.0.1, (linear_is_factor x.0.0 x.0.1 h.0.form.from_one).0)

    same : (u ≡ x.0.0) × (v ≡ x.0.1) → (linear (pos u) v, (linear_is_factor u v b).0) ≡ first
    same d = same_passing polynomials (linear (pos u) v, (linear_is_factor u v b).0) first (cc (d.0, d.1))

-- a form that divides the row divides the entry
divides_entry : (u : ℕ) (v : ℤ) (b : 1 ≤ u) (row quotients : Row) (place : ℕ) → place < length (meant row)
    → row ≡ times (linear (pos u) v, (linear_is_factor u v b).0) quotients → PowerDivides u v 1 (entry_at polynomials.ops (meant row) place)
divides_entry u v b row quotients place c e = record { quotient = x; is = once ∙ sym here }
  where
    t : Passing polynomials
    t = (linear (pos u) v, (linear_is_factor u v b).0)

    x : Passing polynomials
    x = get_or quotients place P.nought

    is : meant row ≡ times_row polynomials (linear (pos u) v) quotients
    is = is_scaled polynomials laws domain t row quotients e

    here : entry_at polynomials.ops (meant row) place ≡ polynomials.ops.product x.0 (linear (pos u) v)
    here = ap (λ ms. entry_at polynomials.ops ms place) is
        ∙ entry_of_times (linear (pos u) v) quotients place
        (omega (arith, c, ap length is, length-map quotients (λ (w : Passing polynomials). polynomials.ops.product w.0 (linear (pos u) v))))

    once : polynomials.ops.product x.0 (polynomials.ops.product polynomials.ops.unit (linear (pos u) v))
        ≡ polynomials.ops.product x.0 (linear (pos u) v)
    once = ap (λ (w : Passing polynomials). w.0) (ap (P.product x) (laws.ring.unit_product t))

no_form : (old new : Row) → Reduced old new → IsSomeNonzero (meant new) → (u : ℕ) (v : ℤ) (p : IsProfileForm u v) (quotients : Row)
    → ¬ (new ≡ times (linear (pos u) v, (linear_is_factor u v p.from_one).0) quotients)
no_form old new (stays h) n u v p quotients e = n h
no_form old new (divides middle xs w f t) n u v p quotients e =
    none_left (entry_at polynomials.ops (meant middle) f.place) xs u v p.from_one f.factors.each middle new t
    (f.factors.all u v p (divides_entry u v p.from_one middle (times left.factor quotients) f.place f.least.within
    (left.is ∙ ap (times left.factor) e ∙ multiple_of (linear (pos u) v, (linear_is_factor u v p.from_one).0) left.factor quotients)))
    quotients e
  where
    left : Multiple polynomials laws domain middle new
    left = all_taken_out_multiple polynomials laws domain (forms xs) (forms_are_factors _ xs f.factors.each) middle new t

pub no_common_form : (old new : List Meaning) → PolynomialsReduced old new → IsSomeNonzero new → HasNoCommonForm new
no_common_form old new h n u v p quotients e =
    no_form h.row h.result h.holds (subst IsSomeNonzero h.result_is n) u v p quotients
    (scaled_is polynomials laws domain (linear (pos u) v, (linear_is_factor u v p.from_one).0) h.result quotients (sym h.result_is ∙ e))

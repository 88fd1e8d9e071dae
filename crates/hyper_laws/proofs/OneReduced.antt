-- Only one complete list is reduced: its first polynomial has the least degree of all solutions, and the others have no term there.
use Rattle.std.proofs.Common.{◌≡◌, ℕ, suc, List, [], ◌∷◌, length, refl, ap, sym, ◌∙◌, subst, arith, ⊎_elim}
use mathlib.Core.Path.{ap₂}
use Rattle.std.proofs.lemmas.Bool.{cases_order}
use Rattle.std.specs.List.{AllByRecursion}
use Rattle.std.specs.Prelude.{ℤ, pos, ◌+ℤ◌, ◌*ℤ◌}
use Rattle.ring_solver.proofs.Linear.{product_zero}
use Rattle.ring_solver.proofs.Read.{ring_z, reading_z}
use Rattle.ring_laws.specs.Meaning.{Meaning, items}
use Rattle.hyper_laws.specs.PolynomialSolutions.{Solves, AreComplete}
use Rattle.hyper_laws.specs.DegreeBounds.{HasDegree}
use Rattle.hyper_laws.specs.ReducedLists.{IsNormalized, IsAbove, AreRisingAbove, AreReduced}
use Rattle.hyper_laws.proofs.Sums.{times_none}
use Rattle.hyper_laws.proofs.Leads.{lead_not_zero}
use Rattle.hyper_laws.proofs.Primitive.{primitive_same}
use Rattle.hyper_laws.proofs.Mixtures.{mixed, Mixture, mixture_of, coefficients_decide}
use Rattle.hyper_laws.proofs.MixturesAbove.{at, Normal, Above, past, has_degree, sizes_above, first_factor, without_first, vanishes}

-- no polynomial of a lower degree than each is a mixture
none_lower : (c : Meaning) (ds : List Meaning) → IsNormalized c → Normal ds → AreRisingAbove ds → Above (length (items c)) ds → Mixture ds c → ⊥
none_lower c ds v w a b x =
    let top = has_degree c v in
    let zero : (k : ℕ) → mixed x.by ds k ≡ pos 0 =
    vanishes ds x.by (length (items c)) w a b (λ k d. sym (x.is k) ∙ ap (λ t. x.factor *ℤ t) (past c k d) ∙ times_none x.factor) in
    ⊎_elim x.not_zero (lead_not_zero c top.0 v.polynomial top.1) (product_zero x.factor (at c top.0) (x.is top.0 ∙ zero top.0))

-- a polynomial of the first degree is the first
same_head : (c d : Meaning) (ds : List Meaning) → IsNormalized c → Normal (d ∷ ds) → AreRisingAbove (d ∷ ds)
    → length (items c) ≡ length (items d) → Mixture (d ∷ ds) c → c ≡ d
same_head c d ds v w a e x =
    let top = has_degree c v in
    let there : HasDegree d top.0 = sym e ∙ top.1 in
    let m : ℕ → ℤ = λ i. x.by (suc i) in
    let rest : (k : ℕ) → mixed m ds k ≡ pos 0 =
    vanishes ds m (length (items d)) w.1 a.1 (sizes_above d (length (items d)) (omega arith) ds a.0)
    (λ k b. other (x.by 0) (mixed m ds k)
    (sym (ap (λ t. x.by 0 *ℤ t +ℤ mixed m ds k) (past d k b)) ∙ sym (x.is k)
    ∙ ap (λ t. x.factor *ℤ t) (past c k (omega (arith, e, b))) ∙ times_none x.factor)) in
    coefficients_decide c d v.polynomial w.0.polynomial
    (primitive_same x.factor (x.by 0) (at c) (at d) x.not_zero
    (λ k. x.is k ∙ ap (λ t. x.by 0 *ℤ at d k +ℤ t) (rest k) ∙ alone (x.by 0 *ℤ at d k)) v.primitive w.0.primitive top.0
    (v.positive top.0 top.1) (w.0.positive top.0 there))
  where
    other : (x y : ℤ) → x *ℤ pos 0 +ℤ y ≡ pos 0 → y ≡ pos 0
    other x y h = sym (drop x y) ∙ h
      where
        drop : (x y : ℤ) → x *ℤ pos 0 +ℤ y ≡ y
        drop x y = ring_z (x ∷ y ∷ []) (search reading_z depth 40 fits 20000) refl

    alone : (x : ℤ) → x +ℤ pos 0 ≡ x
    alone x = ring_z (x ∷ []) (search reading_z depth 40 fits 20000) refl

-- what is above the first is a mixture of the others
without_head : (d : Meaning) (ds : List Meaning) (x : Meaning) → IsNormalized d → AllByRecursion (IsAbove d) ds → IsAbove d x
    → Mixture (d ∷ ds) x → Mixture ds x
without_head d ds x w a b y =
    let top = has_degree d w in
    let first : y.by 0 ≡ pos 0 =
    first_factor d ds y.by top.0 w top.1 a
    (sym (y.is top.0) ∙ ap (λ t. y.factor *ℤ t) (b.no_term top.0 top.1) ∙ times_none y.factor) in
    record { factor = y.factor; not_zero = y.not_zero; by = λ i. y.by (suc i); is = λ k. y.is k ∙ without_first d ds y.by first k }

all_without : (d : Meaning) (ds xs : List Meaning) → IsNormalized d → AllByRecursion (IsAbove d) ds → AllByRecursion (IsAbove d) xs
    → AllByRecursion (Mixture (d ∷ ds)) xs → AllByRecursion (Mixture ds) xs
all_without d ds [] w a b y = tt
all_without d ds (x ∷ xs) w a b y = (without_head d ds x w a b.0 y.0, all_without d ds xs w a b.1 y.1)

abbrev Spanned : List Meaning → List Meaning → Type 0
Spanned ds cs = AllByRecursion (Mixture ds) cs

reduced_are_same : (cs ds : List Meaning) → Normal cs → Normal ds → AreRisingAbove cs → AreRisingAbove ds → Spanned ds cs → Spanned cs ds → cs ≡ ds
reduced_are_same [] [] v w a b x y = refl
reduced_are_same [] (d ∷ ds) v w a b x y = absurd (none_lower d [] w.0 tt tt tt y.0)
reduced_are_same (c ∷ cs) [] v w a b x y = absurd (none_lower c [] v.0 tt tt tt x.0)
reduced_are_same (c ∷ cs) (d ∷ ds) v w a b x y =
    let size : length (items c) ≡ length (items d) =
    ⊎_elim (λ e. e)
    (λ o. absurd (⊎_elim
    (λ h. none_lower c (d ∷ ds) v.0 w b (h, sizes_above d (length (items c)) (omega (arith, h)) ds b.0) x.0)
    (λ h. none_lower d (c ∷ cs) w.0 v a (h, sizes_above c (length (items d)) (omega (arith, h)) cs a.0) y.0) o))
    (cases_order (length (items c)) (length (items d))) in
    let head : c ≡ d = same_head c d ds v.0 w b size x.0 in
    ap₂ (λ z zs. z ∷ zs) head
    (reduced_are_same cs ds v.1 w.1 a.1 b.1
    (all_without d ds cs w.0 b.0 (subst (λ t. AllByRecursion (IsAbove t) cs) head a.0) x.1)
    (all_without c cs ds v.0 a.0 (subst (λ t. AllByRecursion (IsAbove t) ds) (sym head) b.0) y.1))

spanned : (fs cs ds : List Meaning) → AreComplete fs ds → Normal cs → AllByRecursion (Solves fs) cs → Spanned ds cs
spanned fs [] ds w v h = tt
spanned fs (c ∷ cs) ds w v h = (mixture_of ds c (w.all (c, v.0.polynomial) h.0), spanned fs cs ds w v.1 h.1)

pub one_reduced_list : (fs cs ds : List Meaning) → AreComplete fs cs → AreReduced cs → AreComplete fs ds → AreReduced ds → cs ≡ ds
one_reduced_list fs cs ds v r w s =
    reduced_are_same cs ds r.each s.each r.rising s.rising (spanned fs cs ds w r.each v.each) (spanned fs ds cs v s.each w.each)

-- The pairs, the roots and the linear factors of a recurrence are one list each.
use Rattle.std.proofs.Common.{◌≡◌, ℕ, List, [], ◌∷◌, refl, ap, sym, ◌∙◌, subst, arith, ⊎_elim}
use mathlib.Core.Path.{ap₂}
use Rattle.std.proofs.lemmas.Int.{ints}
use Rattle.std.specs.List.{AllByRecursion}
use Rattle.std.specs.Prelude.{ℤ, ◌*ℤ◌, ◌<ℤ◌}
use Rattle.ring_laws.specs.Meaning.{Meaning}
use Rattle.hypergeometric.specs.Fraction.{Fraction}
use Rattle.whole_roots.specs.LinearFactors.{Entry, AreLinearFactors, IsLinearFactor}
use Rattle.reducing.specs.PolynomialRows.{forms}
use Rattle.reducing.specs.Laws.FactorLists.{one_factors}
use Rattle.hyper_claims.specs.Pairs.{IsEarlier, Choice, ComesBefore, IsNormalChoice, AreNormalChoices}
use Rattle.hyper_claims.specs.Roots.{IsLess, IsProfileRoot, AreProfileRoots}
use Rattle.hyper_claims.proofs.OneList.{one_list}

not_both_earlier : (xs ys : List ℕ) → IsEarlier xs ys → IsEarlier ys xs → ⊥
not_both_earlier [] ys h k = h
not_both_earlier (x ∷ xs) [] h k = h
not_both_earlier (x ∷ xs) (y ∷ ys) h k =
    ⊎_elim (λ b. ⊎_elim (λ c. omega (arith, b, c)) (λ c. omega (arith, b, c.0)) k)
    (λ b. ⊎_elim (λ c. omega (arith, b.0, c)) (λ c. not_both_earlier xs ys b.1 c.1) k) h

not_both_before : (x y : Choice) → ComesBefore x y → ComesBefore y x → ⊥
not_both_before x y h k =
    ⊎_elim
    (λ b. ⊎_elim (λ c. not_both_earlier x.a y.a b c) (λ c. itself x.a (subst (IsEarlier x.a) c.0 b)) k)
    (λ b. ⊎_elim (λ c. itself y.a (subst (IsEarlier y.a) b.0 c)) (λ c. not_both_earlier x.b y.b b.1 c.1) k) h
  where
    itself : (xs : List ℕ) → IsEarlier xs xs → ⊥
    itself xs b = not_both_earlier xs xs b b

pub one_list_of_choices : (a_factors b_factors : List Entry) (xs ys : List Choice) → AreNormalChoices a_factors b_factors xs
    → AreNormalChoices a_factors b_factors ys → xs ≡ ys
one_list_of_choices a_factors b_factors xs ys h k = one_list ComesBefore not_both_before (IsNormalChoice a_factors b_factors) xs ys h k

not_both_less : (z w : Fraction) → IsLess z w → IsLess w z → ⊥
not_both_less z w h k = apart (z.top *ℤ w.bottom) (w.top *ℤ z.bottom) h k
  where
    apart : (x y : ℤ) → x <ℤ y → y <ℤ x → ⊥
    apart x y b c = omega (arith, ints, b, c)

pub one_list_of_roots : (degree : ℕ) (fs : List Meaning) (xs ys : List Fraction) → AreProfileRoots degree fs xs → AreProfileRoots degree fs ys
    → xs ≡ ys
one_list_of_roots degree fs xs ys h k = one_list IsLess not_both_less (IsProfileRoot degree fs) xs ys h k

-- ---- linear factors: the forms are the same, and each power is the greatest
abbrev entry : ℕ → ℤ → ℕ → Entry
entry u v e = ((u, v), e)

same_entry : (f : Meaning) (u u1 : ℕ) (v v1 : ℤ) (e e1 : ℕ) → u ≡ u1 → v ≡ v1 → IsLinearFactor f (entry u v e) → IsLinearFactor f (entry u1 v1 e1)
    → entry u v e ≡ entry u1 v1 e1
same_entry f u u1 v v1 e e1 p q h k =
    let there : IsLinearFactor f (entry u v e1) =
    subst (λ x. IsLinearFactor f (entry x v e1)) (sym p) (subst (λ x. IsLinearFactor f (entry u1 x e1)) (sym q) k) in
    let power : e ≡ e1 = omega (arith, there.power.greatest e h.power.divides, h.power.greatest e1 there.power.divides) in
    ap (λ x. entry x v e) p ∙ ap (λ x. entry u1 x e) q ∙ ap (entry u1 v1) power

same_entries : (f : Meaning) (xs ys : List Entry) → forms xs ≡ forms ys → AllByRecursion (IsLinearFactor f) xs
    → AllByRecursion (IsLinearFactor f) ys → xs ≡ ys
same_entries f [] [] e h k = refl
same_entries f [] (y ∷ ys) e h k = cc
same_entries f (x ∷ xs) [] e h k = cc
same_entries f (x ∷ xs) (y ∷ ys) e h k =
    let slope : x.0.0 ≡ y.0.0 = cc in
    let offset : x.0.1 ≡ y.0.1 = cc in
    let rest : forms xs ≡ forms ys = cc in
    ap₂ (λ z zs. z ∷ zs) (same_entry f x.0.0 y.0.0 x.0.1 y.0.1 x.1 y.1 slope offset h.0 k.0) (same_entries f xs ys rest h.1 k.1)

pub one_list_of_factors : (f : Meaning) (xs ys : List Entry) → AreLinearFactors f xs → AreLinearFactors f ys → xs ≡ ys
one_list_of_factors f xs ys h k = same_entries f xs ys (one_factors f xs ys h k) h.each k.each

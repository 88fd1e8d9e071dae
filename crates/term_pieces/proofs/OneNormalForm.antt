-- Two lists have one normal form: its matches, q, r, g and first poles.
use Rattle.std.proofs.Common.{◌≡◌, ◌≢◌, ℕ, ◌+◌, List, [], ◌∷◌, refl, sym, ◌∙◌, subst, arith, ⊎_elim, inl, inr}
use Rattle.std.proofs.lemmas.Int.{ints}
use Rattle.std.specs.List.{AllByRecursion}
use Rattle.std.specs.Prelude.{pos}
use Rattle.hypergeometric.specs.LinearForm.{LinearForm, Factor, FactorList}
use Rattle.hypergeometric.specs.FormOrder.{IsBefore}
use Rattle.hypergeometric.specs.FactorLists.{power_of}
use Rattle.hypergeometric.specs.Match.{Match}
use Rattle.term_pieces.specs.Products.{IsProductOf}
use Rattle.term_pieces.specs.NormalForm.{Normal, Taken, ComesBefore, AreInOrder, Occurs, form_above, form_below, matched, power_within, AreMatches, IsWithout, gosper_forms, chains, IsNormalFormOf}
use Rattle.term_pieces.proofs.OneList.{sorted_once, one_list}
use Rattle.term_pieces.proofs.Takings.{one_taking}

-- a form at a shift stands with a power among matches
abbrev Has : LinearForm → ℕ → ℕ → List Match → Type 0
Has s h power ms = Occurs form_above s h power ms

form_not_both : (f g : LinearForm) → IsBefore f g → IsBefore g f → ⊥
form_not_both f g (inl a) (inl b) = omega (arith, ints, a, b)
form_not_both f g (inl a) (inr (inl b)) = omega (arith, ints, a, b.0)
form_not_both f g (inl a) (inr (inr b)) = omega (arith, ints, a, b.0)
form_not_both f g (inr (inl a)) (inl b) = omega (arith, ints, a.0, b)
form_not_both f g (inr (inl a)) (inr (inl b)) = omega (arith, ints, a.1, b.1)
form_not_both f g (inr (inl a)) (inr (inr b)) = omega (arith, ints, a.1, b.1)
form_not_both f g (inr (inr a)) (inl b) = omega (arith, ints, a.0, b)
form_not_both f g (inr (inr a)) (inr (inl b)) = omega (arith, ints, a.1, b.1)
form_not_both f g (inr (inr a)) (inr (inr b)) = omega (arith, ints, a.2, b.2)

not_both : (x y : Match) → ComesBefore x y → ComesBefore y x → ⊥
not_both x y (inl a) (inl b) = omega (arith, a, b)
not_both x y (inl a) (inr b) = omega (arith, a, b.0)
not_both x y (inr a) (inl b) = omega (arith, a.0, b)
not_both x y (inr a) (inr b) = form_not_both x.form y.form a.1 b.1

abbrev match_with : LinearForm → ℕ → ℕ → Match
match_with s h power = record { form = s; shift = h; power = power }

-- what stands behind a match comes after it
after : (x : Match) (ms : List Match) (s : LinearForm) (h power : ℕ) → AllByRecursion (ComesBefore x) ms → Has s h power ms
    → ComesBefore x (match_with s h power)
after x [] s h power all has = absurd has
after x (m ∷ ms) s h power all (inl e) =
    subst (λ t. ComesBefore x (match_with t h power)) e.0 (subst (λ t. ComesBefore x (match_with m.form t power)) e.1 all.0)
after x (m ∷ ms) s h power all (inr has) = after x ms s h power all.1 has

abbrev Includes : List Match → List Match → Type 0
Includes ns ms = (s : LinearForm) (h power : ℕ) → Has s h power ms → Has s h power ns

same_match : (x y : Match) → (y.form ≡ x.form) × (y.shift ≡ x.shift) × (y.power ≡ x.power) → x ≡ y
same_match x y e = λ i. record { form = sym e.0 i; shift = sym e.1 i; power = sym e.2 i }

rest_included : (x y : Match) (ms ns : List Match) → x ≡ y → AllByRecursion (ComesBefore x) ms → Includes (y ∷ ns) (x ∷ ms) → Includes ns ms
rest_included x y ms ns e all f s h power has = ⊎_elim (λ d. absurd (itself d)) (λ n. n) (f s h power (inr has))
  where
    itself : (y.form ≡ s) × (y.shift ≡ h) × (y.power ≡ power) → ⊥
    itself d =
        let is : x ≡ match_with s h power = e ∙ sym (same_match (match_with s h power) y d) in
        let before : ComesBefore x x = subst (ComesBefore x) (sym is) (after x ms s h power all has) in
        not_both x x before before

same_matches : (ms ns : List Match) → AreInOrder ms → AreInOrder ns → Includes ns ms → Includes ms ns → ms ≡ ns
same_matches [] [] p q f g = refl
same_matches [] (y ∷ ns) p q f g = absurd (g y.form y.shift y.power (inl (refl, refl, refl)))
same_matches (x ∷ ms) [] p q f g = absurd (f x.form x.shift x.power (inl (refl, refl, refl)))
same_matches (x ∷ ms) (y ∷ ns) p q f g =
    λ i. e i ∷ same_matches ms ns p.1 q.1 (rest_included x y ms ns e p.0 f) (rest_included y x ns ms (sym e) q.0 g) i
  where
    e : x ≡ y
    e = ⊎_elim (λ d. same_match x y d)
        (λ m. ⊎_elim (λ d. sym (same_match y x d))
        (λ n. absurd (not_both x y (after x ms y.form y.shift y.power p.0 n) (after y ns x.form x.shift x.power q.0 m)))
        (g y.form y.shift y.power (inl (refl, refl, refl))))
        (f x.form x.shift x.power (inl (refl, refl, refl)))

-- what stands among the matches is taken this often
taken_is : (e : Taken) (ms : List Match) → AllByRecursion (λ m. (m.power ≡ e m.form m.shift) × (m.power ≢ 0)) ms
    → (s : LinearForm) (h power : ℕ) → Has s h power ms → (e s h ≡ power) × (power ≢ 0)
taken_is e [] each s h power has = absurd has
taken_is e (m ∷ ms) each s h power (inl d) =
    (sym (each.0.0 ∙ (λ i. e (d.0 i) (d.1 i))) ∙ d.2, λ z. each.0.1 (d.2 ∙ z))
taken_is e (m ∷ ms) each s h power (inr has) = taken_is e ms each.1 s h power has

included : (d e : Taken) (ms ns : List Match) → ((s : LinearForm) (h : ℕ) → d s h ≡ e s h) → AreMatches d ms → AreMatches e ns → Includes ns ms
included d e ms ns same p q s h power has =
    let is = taken_is d ms p.each s h power has in
    let amount : e s h ≡ power = sym (same s h) ∙ is.0 in
    subst (λ t. Has s h t ns) amount (q.all s h (λ z. is.1 (sym amount ∙ z)))

one_matches : (d e : Taken) (ms ns : List Match) → ((s : LinearForm) (h : ℕ) → d s h ≡ e s h) → AreMatches d ms → AreMatches e ns → ms ≡ ns
one_matches d e ms ns same p q =
    same_matches ms ns p.in_order q.in_order (included d e ms ns same p q) (included e d ns ms (λ s h. sym (same s h)) q p)

-- one list is left of a list without the same forms
one_without : (l m whole : FactorList) (taken : List Factor) → IsWithout l whole taken → IsWithout m whole taken → l ≡ m
one_without l m whole taken p q = λ i. record {
  scale = (p.scale ∙ sym q.scale) i;
  factors = sorted_once l.factors m.factors p.sorted q.sorted p.some q.some (λ f. alike f (p.powers f) (q.powers f)) i;
}
  where
    alike : (f : LinearForm) → power_of f l.factors + power_within f taken ≡ power_of f whole.factors
        → power_of f m.factors + power_within f taken ≡ power_of f whole.factors → power_of f l.factors ≡ power_of f m.factors
    alike f a b = omega (arith, a, b)

pub one_normal_form : (n m : Normal) (q0 r0 : FactorList) → IsNormalFormOf n q0 r0 → IsNormalFormOf m q0 r0 → n ≡ m
one_normal_form n m q0 r0 p t = λ i. record {
  matches = matches i;
  q = one_without n.q m.q q0 (matched form_above n.matches) p.q (subst (λ ms. IsWithout m.q q0 (matched form_above ms)) (sym matches) t.q) i;
  r = one_without n.r m.r r0 (matched form_below n.matches) p.r (subst (λ ms. IsWithout m.r r0 (matched form_below ms)) (sym matches) t.r) i;
  g = one_list n.g m.g (pos 1) (gosper_forms n.matches) p.g (subst (λ ms. IsProductOf m.g (pos 1) (gosper_forms ms)) (sym matches) t.g) i;
  poles = one_list n.poles m.poles (pos 1) (chains n.matches) p.poles
      (subst (λ ms. IsProductOf m.poles (pos 1) (chains ms)) (sym matches) t.poles) i;
}
  where
    matches : n.matches ≡ m.matches
    matches = one_matches p.taken t.taken n.matches m.matches (one_taking q0.factors r0.factors p.taken t.taken p.takes t.takes) p.matches t.matches

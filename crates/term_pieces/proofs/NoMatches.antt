-- Why no form of q is a form of r at an earlier k: where a form is left in q, all of r that matches it at any shift was taken.
use Rattle.std.proofs.Common.{◌≡◌, ◌≢◌, ℕ, zero, suc, ◌+◌, ◌≤◌, Bool, true, false, List, [], ◌∷◌, refl, ap, sym, ◌∙◌, arith, ◌⊎◌, inl, inr}
use Rattle.std.proofs.lemmas.Bool.{cases_eq, eq-eqb, false≢true}
use Rattle.std.specs.Prelude.{pos, cond, nat_eq}
use Rattle.hypergeometric.specs.LinearForm.{LinearForm, FactorList}
use Rattle.hypergeometric.specs.FactorLists.{same_form}
use Rattle.hypergeometric.specs.Match.{Match}
use Rattle.hypergeometric.proofs.Lookups.{same_form_itself}
use Rattle.term_pieces.specs.Products.{at_later_k}
use Rattle.term_pieces.specs.NormalForm.{Normal, at_earlier_k, sum_of_first, Occurs, form_above, form_below, matched, power_within, IsNormalFormOf, HasNoMatch}
use Rattle.term_pieces.proofs.EarlierForms.{back_again, and_back}
use Rattle.term_pieces.proofs.Sums.{without_at, zero_sum, less_at_one}

-- what is said of all numbers that aren't 0 bounds their sum
pub counted : (view : Match → LinearForm) (s : LinearForm) (ms : List Match) (g : ℕ → ℕ) → ((h : ℕ) → g h ≢ 0 → Occurs view s h (g h) ms)
    → (h : ℕ) → sum_of_first g h ≤ power_within s (matched view ms)
counted view s [] g all h =
    let none : sum_of_first g h ≡ 0 = zero_sum g (λ i. nothing (g i) (all i)) h in
    omega (arith, none)
  where
    nothing : (x : ℕ) → (x ≢ 0 → ⊥) → x ≡ 0
    nothing zero never = refl
    nothing (suc x) never = absurd (never (λ e. omega (arith, e)))
counted view s (m ∷ ms) g all h =
    by (same_form s (view m)) refl (cases_eq (g m.shift) m.power) (λ g' rest. counted view s ms g' rest h)
  where
    -- where the first isn't meant, the rest has it
    later : (i : ℕ) → ¬ ((view m ≡ s) × (m.shift ≡ i) × (m.power ≡ g i)) → g i ≢ 0 → Occurs view s i (g i) ms
    later i not_first some = choose (all i some)
      where
        choose : (((view m ≡ s) × (m.shift ≡ i) × (m.power ≡ g i)) ⊎ Occurs view s i (g i) ms) → Occurs view s i (g i) ms
        choose (inl first) = absurd (not_first first)
        choose (inr rest) = rest

    by : (b : Bool) → same_form s (view m) ≡ b → ((g m.shift ≡ m.power) ⊎ (g m.shift ≢ m.power))
        → ((g' : ℕ → ℕ) → ((i : ℕ) → g' i ≢ 0 → Occurs view s i (g' i) ms) → sum_of_first g' h ≤ power_within s (matched view ms))
        → sum_of_first g h ≤ cond b m.power 0 + power_within s (matched view ms)
    by false e own rest =
        let less = rest g (λ i some. later i (λ first. false≢true (sym e ∙ same_form_itself s (view m) (sym first.0))) some) in
        omega (arith, less)
    by true e (inr ne) rest =
        let less = rest g (λ i some. later i (λ first. ne (ap g first.1 ∙ sym first.2)) some) in
        omega (arith, less)
    by true e (inl same) rest =
        let less = rest (without_at m.shift g) (λ i some. moved i (nat_eq i m.shift) refl some) in
        omega (arith, less, less_at_one m.shift g h, same)
      where
        moved : (i : ℕ) (b : Bool) → nat_eq i m.shift ≡ b → cond b 0 (g i) ≢ 0 → Occurs view s i (cond b 0 (g i)) ms
        moved i true p some = absurd (some refl)
        moved i false p some = later i (λ first. false≢true (sym p ∙ eq-eqb i m.shift (sym first.1))) some

-- what is taken above with the form at k + h is taken below
seen_below : (t : LinearForm) (h power : ℕ) (ms : List Match) → Occurs form_above (at_later_k t (pos h)) h power ms → Occurs form_below t h power ms
seen_below t h power [] o = o
seen_below t h power (m ∷ ms) (inl (form, shift, same)) =
    inl (ap (λ s. at_earlier_k s m.shift) form ∙ ap (at_earlier_k (at_later_k t (pos h))) shift ∙ and_back t h, shift, same)
seen_below t h power (m ∷ ms) (inr o) = inr (seen_below t h power ms o)

pub no_match : (normal : Normal) (q0 r0 : FactorList) → IsNormalFormOf normal q0 r0 → HasNoMatch normal.q.factors normal.r.factors
no_match normal q0 r0 is s h some =
    let e = is.taken in
    let t = at_earlier_k s h in
    let above = counted form_above s normal.matches (e s) (λ i ne. is.matches.all s i ne) (suc h) in
    let below = counted form_below t normal.matches (λ i. e (at_later_k t (pos i)) i)
    (λ i ne. seen_below t i (e (at_later_k t (pos i)) i) normal.matches (is.matches.all (at_later_k t (pos i)) i ne)) (suc h) in
    let own : e (at_later_k t (pos h)) h ≡ e s h = ap (λ f. e f h) (back_again s h) in
    let taken = is.takes s h in
    let left = is.q.powers s in
    let right = is.r.powers t in
    omega (arith, above, below, own, taken, left, right, some)

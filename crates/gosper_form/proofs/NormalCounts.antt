-- What occurs among matches bounds what is taken at the shifts below one.
use Rattle.std.proofs.Common.{◌≡◌, ◌≢◌, ℕ, zero, suc, ◌+◌, ◌≤◌, ◌<◌, Bool, true, false, List, [], ◌∷◌, refl, ap, sym, ◌∙◌, arith, ◌⊎◌, inl, inr}
use Rattle.std.proofs.lemmas.Bool.{cases_eq, eq-eqb, false≢true}
use Rattle.std.specs.Prelude.{pos, cond, nat_eq}
use Rattle.hypergeometric.specs.LinearForm.{LinearForm}
use Rattle.hypergeometric.specs.FactorLists.{same_form}
use Rattle.hypergeometric.specs.Match.{Match}
use Rattle.hypergeometric.proofs.Lookups.{same_form_itself}
use Rattle.term_pieces.specs.Products.{at_later_k}
use Rattle.term_pieces.specs.NormalForm.{at_earlier_k, sum_of_first, Occurs, form_above, form_below, matched, power_within}
use Rattle.term_pieces.proofs.EarlierForms.{and_back}
use Rattle.term_pieces.proofs.Sums.{without_at, less_at_one}

nothing_below : (g : ℕ → ℕ) (h : ℕ) → ((i : ℕ) → i < h → g i ≢ 0 → ⊥) → sum_of_first g h ≡ 0
nothing_below g zero none = refl
nothing_below g (suc h) none =
    let before = nothing_below g h (λ i l. none i (omega (arith, l))) in
    let last : g h ≡ 0 = by (g h) (none h (omega arith)) in
    omega (arith, before, last)
  where
    by : (x : ℕ) → (x ≢ 0 → ⊥) → x ≡ 0
    by zero never = refl
    by (suc x) never = absurd (never (λ e. omega (arith, e)))

-- what is said of the numbers at the shifts below one, where they aren't 0, bounds their sum
pub counted_below : (view : Match → LinearForm) (s : LinearForm) (ms : List Match) (g : ℕ → ℕ) (h : ℕ)
    → ((i : ℕ) → i < h → g i ≢ 0 → Occurs view s i (g i) ms) → sum_of_first g h ≤ power_within s (matched view ms)
counted_below view s [] g h all =
    let none : sum_of_first g h ≡ 0 = nothing_below g h all in
    omega (arith, none)
counted_below view s (m ∷ ms) g h all =
    by (same_form s (view m)) refl (cases_eq (g m.shift) m.power) (λ g' rest. counted_below view s ms g' h rest)
  where
    later : (i : ℕ) → i < h → ¬ ((view m ≡ s) × (m.shift ≡ i) × (m.power ≡ g i)) → g i ≢ 0 → Occurs view s i (g i) ms
    later i l not_first some = choose (all i l some)
      where
        choose : (((view m ≡ s) × (m.shift ≡ i) × (m.power ≡ g i)) ⊎ Occurs view s i (g i) ms) → Occurs view s i (g i) ms
        choose (inl first) = absurd (not_first first)
        choose (inr rest) = rest

    by : (b : Bool) → same_form s (view m) ≡ b → ((g m.shift ≡ m.power) ⊎ (g m.shift ≢ m.power))
        → ((g' : ℕ → ℕ) → ((i : ℕ) → i < h → g' i ≢ 0 → Occurs view s i (g' i) ms) → sum_of_first g' h ≤ power_within s (matched view ms))
        → sum_of_first g h ≤ cond b m.power 0 + power_within s (matched view ms)
    by false e own rest =
        let less = rest g (λ i l some. later i l (λ first. false≢true (sym e ∙ same_form_itself s (view m) (sym first.0))) some) in
        omega (arith, less)
    by true e (inr ne) rest =
        let less = rest g (λ i l some. later i l (λ first. ne (ap g first.1 ∙ sym first.2)) some) in
        omega (arith, less)
    by true e (inl same) rest =
        let less = rest (without_at m.shift g) (λ i l some. moved i l (nat_eq i m.shift) refl some) in
        omega (arith, less, less_at_one m.shift g h, same)
      where
        moved : (i : ℕ) → i < h → (b : Bool) → nat_eq i m.shift ≡ b → cond b 0 (g i) ≢ 0 → Occurs view s i (cond b 0 (g i)) ms
        moved i l true p some = absurd (some refl)
        moved i l false p some = later i l (λ first. false≢true (sym p ∙ eq-eqb i m.shift (sym first.1))) some

-- what is taken above with the form at k + h is taken below
pub seen_from_below : (t : LinearForm) (h power : ℕ) (ms : List Match) → Occurs form_above (at_later_k t (pos h)) h power ms → Occurs form_below t h power ms
seen_from_below t h power [] o = o
seen_from_below t h power (m ∷ ms) (inl (form, shift, same)) =
    inl (ap (λ s. at_earlier_k s m.shift) form ∙ ap (at_earlier_k (at_later_k t (pos h))) shift ∙ and_back t h, shift, same)
seen_from_below t h power (m ∷ ms) (inr o) = inr (seen_from_below t h power ms o)

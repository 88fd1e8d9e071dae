-- Gosper's normal form of a quotient q0/r0 of products of forms (A=B chapter 5): what matches at a later k is taken from both, until no form
-- of q is a form of r at an earlier k.
use Rattle.std.specs.Prelude.{◌≡◌, ◌≢◌, ℕ, zero, suc, ◌+◌, ◌-◌, ◌<◌, min, cond, pos, neg_ℤ, ◌⊎◌, List, [], ◌∷◌, ◌++◌, map}
use Rattle.std.specs.List.{AllByRecursion}
use Rattle.hypergeometric.specs.LinearForm.{LinearForm, Factor, FactorList}
use Rattle.hypergeometric.specs.FormOrder.{IsBefore, IsSorted}
use Rattle.hypergeometric.specs.FactorLists.{same_form, factor_with, power_of}
use Rattle.hypergeometric.specs.Match.{Match}
use Rattle.term_pieces.specs.Products.{at_later_k, IsProductOf}

-- the matches, q and r, the product g, and the first poles
pub record Normal : Type 0 where
  pub matches : List Match
  pub q : FactorList
  pub r : FactorList
  pub g : FactorList
  pub poles : FactorList

-- the form at k - h
abbrev pub at_earlier_k : LinearForm → ℕ → LinearForm
at_earlier_k s h = at_later_k s (neg_ℤ (pos h))

-- how often each form is taken from q0 at each shift
abbrev pub Taken : Type 0
Taken = LinearForm → ℕ → ℕ

-- the sum of the first numbers
abbrev pub sum_of_first : (ℕ → ℕ) → ℕ → ℕ
sum_of_first g zero = 0
sum_of_first g (suc h) = sum_of_first g h + g h

-- how often the form s is taken from q0 at the shifts below h
abbrev pub taken_above : Taken → LinearForm → ℕ → ℕ
taken_above e s h = sum_of_first (e s) h

-- how often the form t is taken from r0 at the shifts below h: at the shift i with the form at k + i
abbrev pub taken_below : Taken → LinearForm → ℕ → ℕ
taken_below e t h = sum_of_first (λ i. e (at_later_k t (pos i)) i) h

-- At each shift, from 0 up, a form is taken as often as it is left above and the form at k - h is left below. This fixes all of them.
abbrev pub IsTaking : List Factor → List Factor → Taken → Type 0
IsTaking q0 r0 e = (s : LinearForm) (h : ℕ)
    → e s h ≡ min (power_of s q0 - taken_above e s h) (power_of (at_earlier_k s h) r0 - taken_below e (at_earlier_k s h) h)

-- by rising shift, and then by form
abbrev pub ComesBefore : Match → Match → Type 0
ComesBefore x y = (x.shift < y.shift) ⊎ ((x.shift ≡ y.shift) × IsBefore x.form y.form)

-- each match comes before those that stand after it
abbrev pub AreInOrder : List Match → Type 0
AreInOrder [] = Unit {0}
AreInOrder (x ∷ xs) = AllByRecursion (ComesBefore x) xs × AreInOrder xs

-- a form with this shift and this power is among the matches, where each stands for a form
abbrev pub Occurs : (Match → LinearForm) → LinearForm → ℕ → ℕ → List Match → Type 0
Occurs view s h power [] = ⊥
Occurs view s h power (m ∷ ms) = ((view m ≡ s) × (m.shift ≡ h) × (m.power ≡ power)) ⊎ Occurs view s h power ms

-- the form that a match takes from q0
abbrev pub form_above : Match → LinearForm
form_above m = m.form

-- the form that a match takes from r0
abbrev pub form_below : Match → LinearForm
form_below m = at_earlier_k m.form m.shift

-- exactly what is taken, in order
pub record AreMatches (e : Taken) (matches : List Match) : Type 0 where
  pub in_order : AreInOrder matches
  pub each : AllByRecursion (λ m. (m.power ≡ e m.form m.shift) × (m.power ≢ 0)) matches
  pub all : (s : LinearForm) (h : ℕ) → e s h ≢ 0 → Occurs form_above s h (e s h) matches

-- the forms that the matches stand for
abbrev pub matched : (Match → LinearForm) → List Match → List Factor
matched view ms = map (λ m. factor_with (view m) m.power) ms

-- the power that a form has among forms
abbrev pub power_within : LinearForm → List Factor → ℕ
power_within f [] = 0
power_within f (x ∷ xs) = cond (same_form f x.form) x.power 0 + power_within f xs

-- a list without what is taken from it: the same scale, sorted, no form with the power 0
pub record IsWithout (l whole : FactorList) (taken : List Factor) : Type 0 where
  pub scale : l.scale ≡ whole.scale
  pub sorted : IsSorted l.factors
  pub some : AllByRecursion (λ x. x.power ≢ 0) l.factors
  pub powers : (f : LinearForm) → power_of f l.factors + power_within f taken ≡ power_of f whole.factors

-- s(k-1), s(k-2), .., s(k-h), each to a power
abbrev pub forms_before : LinearForm → ℕ → ℕ → List Factor
forms_before s zero power = []
forms_before s (suc h) power = forms_before s h power ++ (factor_with (at_earlier_k s (suc h)) power ∷ [])

-- the forms of g: s(k-1) .. s(k-h) over the matches
abbrev pub gosper_forms : List Match → List Factor
gosper_forms [] = []
gosper_forms (m ∷ ms) = forms_before m.form m.shift m.power ++ gosper_forms ms

-- the forms of the first poles: s(k-1) .. s(k-h-1) over the matches
abbrev pub chains : List Match → List Factor
chains [] = []
chains (m ∷ ms) = forms_before m.form (suc m.shift) m.power ++ chains ms

-- q and r are what is left, g is the product of s(k-1) .. s(k-h) over the matches, and the first poles are the chains s(k-1) .. s(k-h-1)
pub record IsNormalFormOf (normal : Normal) (q0 r0 : FactorList) : Type 0 where
  pub taken : Taken
  pub takes : IsTaking q0.factors r0.factors taken
  pub matches : AreMatches taken normal.matches
  pub q : IsWithout normal.q q0 (matched form_above normal.matches)
  pub r : IsWithout normal.r r0 (matched form_below normal.matches)
  pub g : IsProductOf normal.g (pos 1) (gosper_forms normal.matches)
  pub poles : IsProductOf normal.poles (pos 1) (chains normal.matches)

-- no form of q is a form of r at an earlier k
abbrev pub HasNoMatch : List Factor → List Factor → Type 0
HasNoMatch q r = (s : LinearForm) (h : ℕ) → power_of s q ≢ 0 → power_of (at_earlier_k s h) r ≡ 0

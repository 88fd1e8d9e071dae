-- The pairs of forms that may match, as the code lists them, and what is taken over them.
use Rattle.std.specs.Prelude.{◌≡◌, ◌≢◌, ℕ, ◌<◌, pos, ◌⊎◌, List, [], ◌∷◌}
use Rattle.std.specs.List.{AllByRecursion}
use Rattle.hypergeometric.specs.LinearForm.{LinearForm, Factor, FactorList}
use Rattle.hypergeometric.specs.FormOrder.{IsBefore}
use Rattle.hypergeometric.specs.FactorLists.{power_of}
use Rattle.hypergeometric.specs.Match.{Match}
use Rattle.term_pieces.specs.NormalForm.{Normal, at_earlier_k, form_above, form_below, matched, power_within, IsNormalFormOf}
use Rattle.lin_form.specs.Forms.{form_of}
use Rattle.gosper_form.specs.declared.normal_candidates.Candidate.{Candidate}

-- a form without k is the same at each shift, and is looked at the shift 0 alone
abbrev pub IsFirstShift : LinearForm → ℕ → Type 0
IsFirstShift s h = s.k_slope ≡ pos 0 → h ≡ 0

-- a form and a shift stand among the candidates
abbrev pub StandsIn : List Candidate → LinearForm → ℕ → Type 0
StandsIn [] s h = ⊥
StandsIn (c ∷ cs) s h = ((form_of c.form ≡ s) × (c.shift ≡ h)) ⊎ StandsIn cs s h

-- a form of q0 that is a form of r0 at an earlier k stands among them with that shift
abbrev pub HasAllCandidates : FactorList → FactorList → List Candidate → Type 0
HasAllCandidates q0 r0 cs = (s : LinearForm) (h : ℕ) → IsFirstShift s h → power_of s q0.factors ≢ 0 → power_of (at_earlier_k s h) r0.factors ≢ 0
    → StandsIn cs s h

-- each has its form at the earlier k
abbrev pub AreCandidates : List Candidate → Type 0
AreCandidates cs = AllByRecursion (λ c. form_of c.earlier ≡ at_earlier_k (form_of c.form) c.shift) cs

-- by rising shift, and then by form; the same form and shift may stand twice
abbrev pub IsAtOrBefore : Candidate → Candidate → Type 0
IsAtOrBefore c d = (c.shift < d.shift) ⊎ ((c.shift ≡ d.shift) × ((form_of c.form ≡ form_of d.form) ⊎ IsBefore (form_of c.form) (form_of d.form)))

-- each is at or before all that follow it
abbrev pub AreRising : List Candidate → Type 0
AreRising [] = Unit {0}
AreRising (c ∷ cs) = AllByRecursion (IsAtOrBefore c) cs × AreRising cs

-- the matches of the normal form of two lists
abbrev pub AreMatchesOf : List Match → FactorList → FactorList → Type 0
AreMatchesOf ms q0 r0 = (normal : Normal) → IsNormalFormOf normal q0 r0 → normal.matches ≡ ms

-- the powers that matches take from q0 and from r0
pub record AreTaken (ms : List Match) (from_q from_r : List Factor) : Type 0 where
  pub above : (f : LinearForm) → power_of f from_q ≡ power_within f (matched form_above ms)
  pub below : (f : LinearForm) → power_of f from_r ≡ power_within f (matched form_below ms)

-- How far the rows of a walk have come, from what their first steps gave.
use Rattle.std.proofs.Common.{◌≡◌, ℕ, ◌≤◌, Option, subst}
use Rattle.std.specs.Prelude.{ℤ, unsigned_abs, Ok}
use Rattle.ring_laws.specs.Meaning.{Meaning}
use Rattle.steps.specs.Answers.{HasCause}
use Rattle.steps.specs.Leads.{Leads}
use Rattle.steps.specs.Steps.{◌then◌}
use Rattle.steps.specs.TermFaults.{TermSteps, term_cause}
use Rattle.steps.specs.declared.faults.TermFault.{TermFault}
use Rattle.steps.specs.declared.limits.LimitName.TheVariants.{Offset, Exponent}
use Rattle.steps.proofs.AnswerLaws.{first_cause, later_cause}
use Rattle.steps.proofs.Leading.{leads, leads_on}
use Rattle.hypergeometric.specs.Fraction.{Fraction}
use Rattle.hypergeometric.specs.LinearForm.{LinearForm}
use Rattle.hypergeometric.specs.ProperTerm.{ProperTerm}
use Rattle.grammar.specs.Tree.{Tree}
use Rattle.term_classes.specs.Forms.{limited_form, limited_exponent}
use Rattle.term_classes.specs.Finding.{find_polynomial, find_constant}
use Rattle.term_classes.specs.Walk.{place_of, find_argument, not_negative, base_or_refused, form_or_refused, with_factorial, times_exponential, times_found}
use Rattle.term_walk.specs.WalkRows.{exponential_left}
use Rattle.term_walk.proofs.LimitedForms.{form_given}

-- a polynomial, at the place of its tree
pub finding_leads : (t : Tree) (at : ℕ) (w : ℤ) (f : ProperTerm) (p : Option Meaning) → place_of t ≡ at → (find_polynomial t).outcome ≡ Ok p
    → Leads (find_polynomial t then (times_found (place_of t) w f)) (times_found at w f p)
finding_leads t at w f p place e = subst (λ at. Leads (find_polynomial t then (times_found (place_of t) w f)) (times_found at w f p)) place
    (leads (find_polynomial t) (times_found (place_of t) w f) p e)

-- a factorial: its argument is found, is no negative number, and is within the limits
abbrev pub factorial_row : Tree → ℤ → ProperTerm → TermSteps ProperTerm
factorial_row t w f = find_argument t then (λ l. not_negative (place_of t) l then (λ l1. limited_form l then (λ l2. with_factorial l w f)))

pub argument_leads : (t : Tree) (at : ℕ) (w : ℤ) (f : ProperTerm) (l : LinearForm) → place_of t ≡ at → (find_argument t).outcome ≡ Ok l
    → Leads (factorial_row t w f) (not_negative at l then (λ l1. limited_form l then (λ l2. with_factorial l w f)))
argument_leads t at w f l place e =
    subst (λ at. Leads (factorial_row t w f) (not_negative at l then (λ l1. limited_form l then (λ l2. with_factorial l w f)))) place
    (leads (find_argument t) (λ l. not_negative (place_of t) l then (λ l1. limited_form l then (λ l2. with_factorial l w f))) l e)

pub kept_leads : (at : ℕ) (w : ℤ) (f : ProperTerm) (l l1 : LinearForm) → (not_negative at l).outcome ≡ Ok l1
    → Leads (not_negative at l then (λ l1. limited_form l then (λ l2. with_factorial l w f))) (limited_form l then (λ l2. with_factorial l w f))
kept_leads at w f l l1 e = leads (not_negative at l) (λ l1. limited_form l then (λ l2. with_factorial l w f)) l1 e

-- steps that follow a form within the limits follow from that form
pub limited_leads : {A : Type 0} (l l2 : LinearForm) (rest : LinearForm → TermSteps A) → (limited_form l).outcome ≡ Ok l2
    → Leads (limited_form l then (λ l3. rest l)) (rest l2)
limited_leads l l2 rest e = subst (λ m. Leads (limited_form l then (λ l3. rest l)) (rest m)) (form_given Offset l l2 e).same
    (leads (limited_form l) (λ l3. rest l) l2 e)

pub exponent_leads : {A : Type 0} (l l2 : LinearForm) (rest : LinearForm → TermSteps A) → (limited_exponent l).outcome ≡ Ok l2
    → Leads (limited_exponent l then (λ l3. rest l)) (rest l2)
exponent_leads l l2 rest e = subst (λ m. Leads (limited_exponent l then (λ l3. rest l)) (rest m)) (form_given Exponent l l2 e).same
    (leads (limited_exponent l) (λ l3. rest l) l2 e)

-- a power whose exponent is no constant: the constant of its base, which isn't 0, and then the form of its exponent
abbrev base_told : ℕ → Tree → Option LinearForm → ℤ → ProperTerm → Option Fraction → TermSteps ProperTerm
base_told at e form w f b = base_or_refused at b then (λ b1. form_or_refused 5 e form then (λ l.
    limited_exponent l then (λ l1. times_exponential at b1 l w f)))

abbrev form_told : ℕ → Tree → Option LinearForm → ℤ → ProperTerm → Fraction → TermSteps ProperTerm
form_told at e form w f b = form_or_refused 5 e form then (λ l. limited_exponent l then (λ l1. times_exponential at b l w f))

abbrev limits_told : ℕ → ℤ → ProperTerm → Fraction → LinearForm → TermSteps ProperTerm
limits_told at w f b l = limited_exponent l then (λ l1. times_exponential at b l w f)

-- what its first steps gave
pub record HasBase (at : ℕ) (base : Tree) (b : Option Fraction) (b1 : Fraction) : Type 0 where
  pub found : (find_constant base).outcome ≡ Ok b
  pub nonzero : (base_or_refused at b).outcome ≡ Ok b1

pub constant_refused : (at : ℕ) (base e : Tree) (form : Option LinearForm) (w : ℤ) (f : ProperTerm) (x : TermFault)
    → HasCause (find_constant base) (term_cause x) → HasCause (exponential_left at base e form w f) (term_cause x)
constant_refused at base e form w f x h = first_cause (find_constant base) (base_told at e form w f) (term_cause x) h

pub base_refused : (at : ℕ) (base e : Tree) (form : Option LinearForm) (w : ℤ) (f : ProperTerm) (b : Option Fraction) (x : TermFault)
    → (find_constant base).outcome ≡ Ok b → HasCause (base_or_refused at b) (term_cause x)
    → HasCause (exponential_left at base e form w f) (term_cause x)
base_refused at base e form w f b x found h =
    later_cause (find_constant base) (base_told at e form w f) b (term_cause x) found
    (first_cause (base_or_refused at b) (form_told at e form w f) (term_cause x) h)

base_leads : (at : ℕ) (base e : Tree) (form : Option LinearForm) (w : ℤ) (f : ProperTerm) (b : Option Fraction) (b1 : Fraction)
    → HasBase at base b b1 → Leads (exponential_left at base e form w f) (form_told at e form w f b1)
base_leads at base e form w f b b1 h = leads_on (leads (find_constant base) (base_told at e form w f) b h.found)
    (leads (base_or_refused at b) (form_told at e form w f) b1 h.nonzero)

pub form_refused : (at : ℕ) (base e : Tree) (form : Option LinearForm) (w : ℤ) (f : ProperTerm) (b : Option Fraction) (b1 : Fraction) (x : TermFault)
    → HasBase at base b b1 → HasCause (form_or_refused 5 e form) (term_cause x) → HasCause (exponential_left at base e form w f) (term_cause x)
form_refused at base e form w f b b1 x h no_form =
    (base_leads at base e form w f b b1 h).cause (term_cause x) (first_cause (form_or_refused 5 e form) (limits_told at w f b1)
    (term_cause x) no_form)

form_leads : (at : ℕ) (base e : Tree) (form : Option LinearForm) (w : ℤ) (f : ProperTerm) (b : Option Fraction) (b1 : Fraction) (l : LinearForm)
    → HasBase at base b b1 → (form_or_refused 5 e form).outcome ≡ Ok l → Leads (exponential_left at base e form w f) (limits_told at w f b1 l)
form_leads at base e form w f b b1 l h linear =
    leads_on (base_leads at base e form w f b b1 h) (leads (form_or_refused 5 e form) (limits_told at w f b1) l linear)

pub exponent_refused : (at : ℕ) (base e : Tree) (form : Option LinearForm) (w : ℤ) (f : ProperTerm) (b : Option Fraction) (b1 : Fraction)
    (l : LinearForm) (x : TermFault) → HasBase at base b b1 → (form_or_refused 5 e form).outcome ≡ Ok l → HasCause (limited_exponent l) (term_cause x)
    → HasCause (exponential_left at base e form w f) (term_cause x)
exponent_refused at base e form w f b b1 l x h linear passed =
    (form_leads at base e form w f b b1 l h linear).cause (term_cause x)
    (first_cause (limited_exponent l) (λ l1. times_exponential at b1 l w f) (term_cause x) passed)

pub exponential_leads : (at : ℕ) (base e : Tree) (form : Option LinearForm) (w : ℤ) (f : ProperTerm) (b : Option Fraction) (b1 : Fraction)
    (l l2 : LinearForm) → HasBase at base b b1 → (form_or_refused 5 e form).outcome ≡ Ok l → (limited_exponent l).outcome ≡ Ok l2
    → Leads (exponential_left at base e form w f) (times_exponential at b1 l2 w f)
exponential_leads at base e form w f b b1 l l2 h linear kept =
    leads_on (form_leads at base e form w f b b1 l h linear) (exponent_leads l l2 (λ l. times_exponential at b1 l w f) kept)

-- the base isn't 0, and the constant part of the exponent is small
pub exponent_small : (l l2 : LinearForm) → (limited_exponent l).outcome ≡ Ok l2 → unsigned_abs l2.offset ≤ 12
exponent_small l l2 e = let h = form_given Exponent l l2 e in subst (λ (m : LinearForm). unsigned_abs m.offset ≤ 12) h.same h.offset

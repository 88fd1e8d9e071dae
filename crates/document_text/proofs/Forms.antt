-- The text of a linear form, of a factor and of a match determines it.
use Rattle.std.specs.Prelude.{◌≡◌, ◌≢◌, ℕ, Bool, false, ◌+ℤ◌, nat_eq, codes, List, [], ◌∷◌, ◌++◌, drop}
use Rattle.std.specs.Fmt.{decimal}
use Rattle.std.specs.Str.{byte}
use Rattle.std.proofs.Common.{refl, ap, arith}
use Rattle.std.proofs.lemmas.Int.{ints}
use Rattle.hypergeometric.specs.LinearForm.{LinearForm, Factor}
use Rattle.hypergeometric.specs.FormOrder.{IsForm, IsFactor}
use Rattle.hypergeometric.specs.Match.{Match}
use Rattle.exact_texts.specs.Texts.{◌⧺◌, Only}
use Rattle.document_text.specs.Spelling.{Monomial, monomial_before}
use Rattle.document_text.specs.TermText.{form_text, times_text, factor_text}
use Rattle.document_text.specs.Document.{match_text}
use Rattle.document_text.specs.WellFormed.{IsMatch}
use Rattle.exact_texts.proofs.Cuts.{among, Stops, only_append, only_more, cut}
use Rattle.exact_texts.proofs.Numerals.{digit_bytes, only_decimal}
use Rattle.document_text.proofs.Numerals.{decimal_before, times_bytes, only_times, times_determines, left_out_stops}
use Rattle.document_text.proofs.MonomialBytes.{polynomial_bytes, only_monomials, monomials_no_minus}
use Rattle.document_text.proofs.Totals.{share, total_at, total_before}
use Rattle.document_text.proofs.Polynomials.{AreMonomials, none, before, same_totals}

-- the monomials of a form, from its offset up
abbrev offset_monomials : LinearForm → List Monomial
offset_monomials f = monomial_before f.offset 0 0 []

abbrev n_monomials : LinearForm → List Monomial
n_monomials f = monomial_before f.n_slope 1 0 (offset_monomials f)

abbrev form_monomials : LinearForm → List Monomial
form_monomials f = monomial_before f.k_slope 0 1 (n_monomials f)

-- they are within bounds
of_form : (f : LinearForm) → IsForm f → AreMonomials (form_monomials f)
of_form f h =
    let offset = before f.offset 0 0 [] (omega (arith, h.offset)) (omega arith) (omega arith) none in
    let n_slope = before f.n_slope 1 0 (offset_monomials f) (omega (arith, h.n_slope)) (omega arith) (omega arith) offset in
    before f.k_slope 0 1 (n_monomials f) (omega (arith, h.k_slope)) (omega arith) (omega arith) n_slope

-- the totals of a form's monomials are its slopes and its offset
form_total : (f : LinearForm) (a b : ℕ)
    → total_at a b (form_monomials f) ≡ share 0 1 a b f.k_slope +ℤ share 1 0 a b f.n_slope +ℤ share 0 0 a b f.offset
form_total f a b =
    let by_k = total_before a b f.k_slope 0 1 (n_monomials f) in
    let by_n = total_before a b f.n_slope 1 0 (offset_monomials f) in
    let by_offset = total_before a b f.offset 0 0 [] in
    omega (arith, ints)

-- the text of a form determines it, has only bytes of polynomials, and is no single minus
pub form_determines : (f g : LinearForm) → IsForm f → IsForm g → form_text f ≡ form_text g → f ≡ g
unfolding form_text
form_determines f g p q e =
    let same = same_totals (form_monomials f) (form_monomials g) (of_form f p) (of_form g q) e in
    let n_slope : f.n_slope ≡ g.n_slope = omega (arith, ints, form_total f 1 0, same 1 0, form_total g 1 0) in
    let k_slope : f.k_slope ≡ g.k_slope = omega (arith, ints, form_total f 0 1, same 0 1, form_total g 0 1) in
    let offset : f.offset ≡ g.offset = omega (arith, ints, form_total f 0 0, same 0 0, form_total g 0 0) in
    λ i. record { n_slope = n_slope i; k_slope = k_slope i; offset = offset i }

pub only_form : (f : LinearForm) → IsForm f → Only (among polynomial_bytes) (form_text f)
unfolding form_text
only_form f h = only_monomials (form_monomials f) (of_form f h).small

pub form_no_minus : (f : LinearForm) → IsForm f → form_text f ≢ byte "-" ∷ []
unfolding form_text
form_no_minus f h = monomials_no_minus (form_monomials f) (of_form f h).small

-- a form ends where what follows it begins with no byte of polynomials, as a space
pub form_before : (f g : LinearForm) (r s : List ℕ) → IsForm f → IsForm g → Stops (among polynomial_bytes) r → Stops (among polynomial_bytes) s
    → form_text f ++ r ≡ form_text g ++ s → (f ≡ g) × (r ≡ s)
form_before f g r s p q u v e =
    let parts = cut (among polynomial_bytes) (form_text f) (form_text g) r s (only_form f p) (only_form g q) u v e in
    (form_determines f g p q parts.0, parts.1)

-- nor is a form with such a text behind it a single minus
pub form_before_no_minus : (f : LinearForm) (r : List ℕ) → IsForm f → Stops (among polynomial_bytes) r → form_text f ++ r ≢ byte "-" ∷ []
form_before_no_minus f r p u e =
    form_no_minus f p (cut (among polynomial_bytes) (form_text f) (byte "-" ∷ []) r [] (only_form f p) refl u tt e).0

-- a power begins with a space
times_stops : (class : ℕ → Bool) (n : ℕ) → class (byte " ") ≡ false → Stops class (times_text n)
times_stops class n h = left_out_stops class (nat_eq n 1) (byte " ") (byte "x" ∷ decimal n) h

-- the text of a factor determines it, and is no single minus
pub factor_determines : (x y : Factor) → IsFactor x → IsFactor y → factor_text x ≡ factor_text y → x ≡ y
factor_determines x y p q e =
    let parts = form_before x.form y.form (times_text x.power) (times_text y.power) p.form q.form
    (times_stops (among polynomial_bytes) x.power refl) (times_stops (among polynomial_bytes) y.power refl) e in
    let form = parts.0 in
    let power = times_determines x.power y.power (omega arith) (omega arith) parts.1 in
    λ i. record { form = form i; power = power i }

pub factor_no_minus : (x : Factor) → IsFactor x → factor_text x ≢ byte "-" ∷ []
factor_no_minus x p = form_before_no_minus x.form (times_text x.power) p.form (times_stops (among polynomial_bytes) x.power refl)

-- the bytes of forms, factors and matches
abbrev pub item_bytes : List ℕ
item_bytes = codes "0123456789*^nk+- xby"

pub only_factor : (x : Factor) → IsFactor x → Only (among item_bytes) (factor_text x)
only_factor x p = only_append (among item_bytes) (form_text x.form) (times_text x.power)
    (only_more polynomial_bytes (among item_bytes) (form_text x.form) refl (only_form x.form p.form))
    (only_more times_bytes (among item_bytes) (times_text x.power) refl (only_times x.power (omega (arith, p.few))))

-- what follows the form of a match
abbrev by_shift : Match → List ℕ
by_shift m = codes " by " ⧺ decimal m.shift ⧺ times_text m.power

-- the text of a match determines it, and is no single minus
pub match_determines : (x y : Match) → IsMatch x → IsMatch y → match_text x ≡ match_text y → x ≡ y
match_determines x y p q e =
    let parts = form_before x.form y.form (by_shift x) (by_shift y) p.form q.form refl refl e in
    let more = decimal_before x.shift y.shift (times_text x.power) (times_text y.power) (omega (arith, p.shift)) (omega (arith, q.shift))
    (times_stops (among digit_bytes) x.power refl) (times_stops (among digit_bytes) y.power refl) (ap (drop 4) parts.1) in
    let form = parts.0 in
    let shift = more.0 in
    let power = times_determines x.power y.power (omega (arith, p.few)) (omega (arith, q.few)) more.1 in
    λ i. record { form = form i; shift = shift i; power = power i }

pub match_no_minus : (x : Match) → IsMatch x → match_text x ≢ byte "-" ∷ []
match_no_minus x p = form_before_no_minus x.form (by_shift x) p.form refl

pub only_match : (x : Match) → IsMatch x → Only (among item_bytes) (match_text x)
only_match x p = only_append (among item_bytes) (form_text x.form) (by_shift x)
    (only_more polynomial_bytes (among item_bytes) (form_text x.form) refl (only_form x.form p.form))
    (only_append (among item_bytes) (decimal x.shift) (times_text x.power)
    (only_more digit_bytes (among item_bytes) (decimal x.shift) refl (only_decimal x.shift (omega (arith, p.shift))))
    (only_more times_bytes (among item_bytes) (times_text x.power) refl (only_times x.power (omega (arith, p.few)))))

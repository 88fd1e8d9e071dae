-- The text of a form tells the form.
-- These are lemmas: they stand here, and not in proofs/, since the spellings of forms name them.
use Rattle.std.specs.Prelude.{◌≡◌, ◌<◌, ◌^◌, ℕ, zero, suc, Bool, true, false, ◌&&◌, if◌then◌else◌, nat_eq, ℤ, pos, negsuc, unsigned_abs, List, [], ◌∷◌, ◌++◌}
use Rattle.std.specs.List.{AllByRecursion}
use Rattle.std.proofs.Common.{refl, ap, sym, ◌∙◌, arith, lit<, lit≤}
use Rattle.std.proofs.lemmas.Bool.{eq-eqb}
use Rattle.exact_texts.specs.Beside.{IsWithout}
use Rattle.exact_texts.specs.Lines.{AreWithinLine}
use Rattle.exact_texts.specs.Lists.{AreItems}
use Rattle.exact_texts.specs.Sums.{Monomial, IsMonomial, sums}
use Rattle.exact_texts.proofs.SumItems.{sums_within_line, sums_are_items, sums_spaceless}
use Rattle.exact_texts.proofs.Seen.{seen_within_line, seen_are_items}
use Rattle.hypergeometric.specs.LinearForm.{LinearForm}
use Rattle.hypergeometric.specs.FormOrder.{IsForm}
use Rattle.hypergeometric.specs.Forms.{form_with}
use Rattle.form_lines.specs.Forms.{FormParts, HasNumbers, unless_zero, parts_monomials, forms_in_x, without_x, forms}

-- whether a monomial has these powers
abbrev pub is_at : ℕ → ℕ → ℕ → Monomial → Bool
is_at i j l m = nat_eq m.n_power i && (nat_eq m.k_power j && nat_eq m.x_power l)

-- no monomial, or the first has other powers
abbrev pub Apart : ℕ → ℕ → ℕ → List Monomial → Type 0
Apart i j l [] = Unit {0}
Apart i j l (m ∷ ms) = is_at i j l m ≡ false

-- the coefficient of the first monomial, where it has these powers, and the monomials behind it
abbrev pub taken : ℕ → ℕ → ℕ → List Monomial → ℤ × List Monomial
taken i j l [] = (pos 0, [])
taken i j l (m ∷ ms) = if is_at i j l m then (m.coefficient, ms) else (pos 0, m ∷ ms)

itself : (i j l : ℕ) (c : ℤ) → is_at i j l (record { coefficient = c; n_power = i; k_power = j; x_power = l }) ≡ true
itself i j l c =
    ap (λ b. b && (nat_eq j j && nat_eq l l)) (eq-eqb i i refl) ∙ ap (λ b. b && nat_eq l l) (eq-eqb j j refl) ∙ eq-eqb l l refl

-- what is taken from a coefficient, written unless it is 0, is the coefficient and the monomials behind it
pub taken_of : (z : ℤ) (i j l : ℕ) (ms : List Monomial) → Apart i j l ms → taken i j l (unless_zero z i j l ++ ms) ≡ (z, ms)
taken_of (pos zero) i j l [] p = refl
taken_of (pos zero) i j l (m ∷ ms) p = ap (λ b. if b then (m.coefficient, ms) else (pos 0, m ∷ ms)) p
taken_of (pos (suc c)) i j l ms p =
    let m : Monomial = record { coefficient = pos (suc c); n_power = i; k_power = j; x_power = l } in
    ap (λ b. if b then (pos (suc c), ms) else (pos 0, m ∷ ms)) (itself i j l (pos (suc c)))
taken_of (negsuc c) i j l ms p =
    let m : Monomial = record { coefficient = negsuc c; n_power = i; k_power = j; x_power = l } in
    ap (λ b. if b then (negsuc c, ms) else (pos 0, m ∷ ms)) (itself i j l (negsuc c))

peeled : (y z : ℤ) (i j l : ℕ) (ms ns : List Monomial) → Apart i j l ms → Apart i j l ns
    → unless_zero y i j l ++ ms ≡ unless_zero z i j l ++ ns → (y ≡ z) × (ms ≡ ns)
peeled y z i j l ms ns p q e =
    let same = sym (taken_of y i j l ms p) ∙ ap (taken i j l) e ∙ taken_of z i j l ns q in
    (ap (λ t. t.0) same, ap (λ t. t.1) same)

-- a monomial with other powers stands apart
skipped : (z : ℤ) (i j l a b c : ℕ) (ms : List Monomial)
    → ((d : ℤ) → is_at i j l (record { coefficient = d; n_power = a; k_power = b; x_power = c }) ≡ false)
    → Apart i j l ms → Apart i j l (unless_zero z a b c ++ ms)
skipped (pos zero) i j l a b c ms other p = p
skipped (pos (suc d)) i j l a b c ms other p = other (pos (suc d))
skipped (negsuc d) i j l a b c ms other p = other (negsuc d)

module _ (f : FormParts) where
  abbrev behind_x : List Monomial
  behind_x = unless_zero f.offset 0 0 0 ++ []

  abbrev behind_n : List Monomial
  behind_n = unless_zero f.x_slope 0 0 1 ++ behind_x

  abbrev behind_k : List Monomial
  behind_k = unless_zero f.n_slope 1 0 0 ++ behind_n

  pub apart_x : Apart 0 0 1 behind_x
  apart_x = skipped f.offset 0 0 1 0 0 0 [] (λ d. refl) tt

  pub apart_n : Apart 1 0 0 behind_n
  apart_n = skipped f.x_slope 1 0 0 0 0 1 behind_x (λ d. refl) (skipped f.offset 1 0 0 0 0 0 [] (λ d. refl) tt)

  pub apart_k : Apart 0 1 0 behind_k
  apart_k = skipped f.n_slope 0 1 0 1 0 0 behind_n (λ d. refl)
      (skipped f.x_slope 0 1 0 0 0 1 behind_x (λ d. refl) (skipped f.offset 0 1 0 0 0 0 [] (λ d. refl) tt))

monomials_tell : (f g : FormParts) → parts_monomials f ≡ parts_monomials g → f ≡ g
monomials_tell f g e =
    let k = peeled f.k_slope g.k_slope 0 1 0 (behind_k f) (behind_k g) (apart_k f) (apart_k g) e in
    let n = peeled f.n_slope g.n_slope 1 0 0 (behind_n f) (behind_n g) (apart_n f) (apart_n g) k.1 in
    let x = peeled f.x_slope g.x_slope 0 0 1 (behind_x f) (behind_x g) (apart_x f) (apart_x g) n.1 in
    let o = peeled f.offset g.offset 0 0 0 [] [] tt tt x.1 in
    let n_slope = n.0 in
    let k_slope = k.0 in
    let x_slope = x.0 in
    let offset = o.0 in
    λ i. record { n_slope = n_slope i; k_slope = k_slope i; x_slope = x_slope i; offset = offset i }

-- each monomial of a form has a text
some_monomial : (z : ℤ) (i j l : ℕ) (ms : List Monomial) → unsigned_abs z < 2 ^ 127 → i < 256 → j < 256 → l < 256 → AllByRecursion IsMonomial ms
    → AllByRecursion IsMonomial (unless_zero z i j l ++ ms)
some_monomial (pos zero) i j l ms h p q r all = all
some_monomial (pos (suc c)) i j l ms h p q r all =
    (record { not_zero = λ e. omega (arith, ap unsigned_abs e); number = h; n_power = p; k_power = q; x_power = r }, all)
some_monomial (negsuc c) i j l ms h p q r all =
    (record { not_zero = λ e. omega (arith, ap unsigned_abs e); number = h; n_power = p; k_power = q; x_power = r }, all)

-- the monomials of a form within bounds have a text as a sum
pub form_sums : (f : FormParts) → HasNumbers f → sums.Has (parts_monomials f)
form_sums f p =
    some_monomial f.k_slope 0 1 0 (behind_k f) p.k_slope (lit< tt) (lit< tt) (lit< tt)
    (some_monomial f.n_slope 1 0 0 (behind_n f) p.n_slope (lit< tt) (lit< tt) (lit< tt)
    (some_monomial f.x_slope 0 0 1 (behind_x f) p.x_slope (lit< tt) (lit< tt) (lit< tt)
    (some_monomial f.offset 0 0 0 [] p.offset (lit< tt) (lit< tt) (lit< tt) tt)))

-- the text of a form in n, k and x stands in one line and tells the form
pub forms_in_x_within_line : AreWithinLine forms_in_x
forms_in_x_within_line = seen_within_line sums forms_in_x parts_monomials form_sums (λ f. refl)
    (record { n_slope = pos 0; k_slope = pos 0; x_slope = pos 0; offset = pos 0 })
    (record { n_slope = lit< tt; k_slope = lit< tt; x_slope = lit< tt; offset = lit< tt }) (λ f g p q. monomials_tell f g) sums_within_line

-- forms in n, k and x can stand in a list
pub forms_in_x_are_items : AreItems forms_in_x
forms_in_x_are_items = seen_are_items sums forms_in_x parts_monomials form_sums (λ f. refl) sums_are_items

-- a form in n and k is one in n, k and x
pub in_x_has : (f : LinearForm) → IsForm f → HasNumbers (without_x f)
in_x_has f p = record { n_slope = omega (arith, p.n_slope); k_slope = omega (arith, p.k_slope); x_slope = lit< tt; offset = omega (arith, p.offset) }

in_x_tells : (f g : LinearForm) → without_x f ≡ without_x g → f ≡ g
in_x_tells f g e = λ i. record { n_slope = (e i).n_slope; k_slope = (e i).k_slope; offset = (e i).offset }

-- the text of a form in n and k stands in one line and tells the form
pub forms_within_line : AreWithinLine forms
forms_within_line = seen_within_line forms_in_x forms without_x in_x_has (λ f. refl) (form_with (pos 0) (pos 0) (pos 0))
    (record { n_slope = lit≤ tt; k_slope = lit≤ tt; offset = lit≤ tt }) (λ f g p q. in_x_tells f g) forms_in_x_within_line

-- forms in n and k can stand in a list
pub forms_are_items : AreItems forms
forms_are_items = seen_are_items forms_in_x forms without_x in_x_has (λ f. refl) forms_in_x_are_items

-- a form has no space
pub forms_spaceless : IsWithout 32 forms
forms_spaceless f p = sums_spaceless (parts_monomials (without_x f)) (form_sums (without_x f) (in_x_has f p))

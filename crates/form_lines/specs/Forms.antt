-- Linear forms as sums of monomials: by k, then n, then x, then the number.
use Rattle.std.specs.Prelude.{ℕ, zero, suc, Bool, true, false, codes, ◌<◌, ◌^◌, ℤ, pos, negsuc, unsigned_abs, List, [], ◌∷◌, ◌++◌}
use Rattle.std.specs.List.{flat_map}
use Rattle.hypergeometric.specs.LinearForm.{LinearForm}
use Rattle.hypergeometric.specs.FormOrder.{IsForm}
use Rattle.exact_texts.specs.Formats.{Format}
use Rattle.exact_texts.specs.Sums.{Monomial, signed_text, sums}
use Rattle.exact_texts.specs.SumWriting.{placed_text}

-- the numbers of n_slope * n + k_slope * k + x_slope * x + offset
pub record FormParts : Type 0 where
  pub n_slope : ℤ
  pub k_slope : ℤ
  pub x_slope : ℤ
  pub offset : ℤ

-- the monomial with this coefficient and these powers of n, k and x, none for the coefficient 0
abbrev pub unless_zero : ℤ → ℕ → ℕ → ℕ → List Monomial
unless_zero (pos zero) i j l = []
unless_zero (pos (suc c)) i j l = record { coefficient = pos (suc c); n_power = i; k_power = j; x_power = l } ∷ []
unless_zero (negsuc c) i j l = record { coefficient = negsuc c; n_power = i; k_power = j; x_power = l } ∷ []

-- the monomials of a form, in the order in which a polynomial has them
abbrev pub parts_monomials : FormParts → List Monomial
parts_monomials f =
    unless_zero f.k_slope 0 1 0 ++ (unless_zero f.n_slope 1 0 0 ++ (unless_zero f.x_slope 0 0 1 ++ (unless_zero f.offset 0 0 0 ++ [])))

-- numbers below 2^127 in magnitude
pub record HasNumbers (f : FormParts) : Type 0 where
  pub n_slope : unsigned_abs f.n_slope < 2 ^ 127
  pub k_slope : unsigned_abs f.k_slope < 2 ^ 127
  pub x_slope : unsigned_abs f.x_slope < 2 ^ 127
  pub offset : unsigned_abs f.offset < 2 ^ 127

-- linear forms in n, k and x
abbrev pub forms_in_x : Format FormParts
forms_in_x = record { Has = HasNumbers; text = λ f. sums.text (parts_monomials f) }

-- a form in n and k by its numbers, without x
abbrev pub without_x : LinearForm → FormParts
without_x f = record { n_slope = f.n_slope; k_slope = f.k_slope; x_slope = pos 0; offset = f.offset }

-- linear forms in n and k, with slopes of at most 64 and an offset of at most 2^40 in magnitude
abbrev pub forms : Format LinearForm
forms = record { Has = IsForm; text = λ f. forms_in_x.text (without_x f) }

-- what is to be written of a sum, where nothing is written yet and later
abbrev pub placed_sum : Bool → List Monomial → List ℕ
placed_sum true [] = codes "0"
placed_sum false [] = []
placed_sum first (m ∷ ms) = placed_text first m ++ flat_map signed_text ms

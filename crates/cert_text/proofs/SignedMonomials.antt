-- The sign of a monomial, and what stands behind it.
use Rattle.std.specs.Prelude.{◌≡◌, ◌≢◌, ℕ, suc, ◌<◌, Bool, true, false, ℤ, pos, negsuc, unsigned_abs, List, [], ◌∷◌, ◌++◌, flat_map}
use Rattle.std.proofs.Common.{refl, ap, sym, subst, ◌∙◌, append_assoc, arith, lit<}
use Rattle.document_text.specs.Spelling.{Monomial, power_text, magnitude_text, unsigned_text, sign_text, later_text}
use Rattle.hypergeometric.specs.TermFacts.{IsNumber}
use Rattle.exact_texts.specs.Texts.{Only}
use Rattle.exact_texts.proofs.Cuts.{Stops, only_more}
use Rattle.document_text.proofs.Powers.{unsigned_bytes}
use Rattle.document_text.proofs.Monomials.{IsMonomial, only_unsigned, unsigned_not_empty}
use Rattle.cert_text.specs.Printing.{monomial_in_k, placed_text}
use Rattle.cert_text.specs.Reading.{unsigned, Begins, IsSignOf, signed_number}
use Rattle.cert_text.proofs.Signs.{begins_only}

-- a monomial without its sign
abbrev pub body_of : ℤ → ℕ → List ℕ
body_of z power = magnitude_text (unsigned_abs z) (power_text 107 power)

in_bounds : (z : ℤ) (power : ℕ) → IsNumber z → power < 256 → IsMonomial (monomial_in_k z power)
in_bounds z power h short = record { coefficient = h; n_power = lit< tt; k_power = omega (arith, short) }

-- it has no sign
pub body_unsigned : (z : ℤ) (power : ℕ) → IsNumber z → power < 256 → Only unsigned (body_of z power)
body_unsigned z power h short =
    only_more unsigned_bytes unsigned (body_of z power) refl (only_unsigned (monomial_in_k z power) (in_bounds z power h short))

body_begins : (z : ℤ) (power : ℕ) (behind : List ℕ) → IsNumber z → power < 256 → Begins unsigned (body_of z power ++ behind)
body_begins z power behind h short =
    begins_only unsigned (body_of z power) behind (body_unsigned z power h short)
    (unsigned_not_empty (monomial_in_k z power) (in_bounds z power h short))

-- what is read of the sign of a monomial
abbrev pub IsBody : ℤ → ℕ → List ℕ → Bool → List ℕ → Type 0
IsBody z power behind negative body = (body ≡ body_of z power ++ behind) × (signed_number negative (unsigned_abs z) ≡ z)

pub sign_of_monomial : (first : Bool) (z : ℤ) (power : ℕ) (behind text : List ℕ) (negative : Bool) (body : List ℕ) → IsNumber z → power < 256
    → text ≡ placed_text first (monomial_in_k z power) ++ behind → IsSignOf text negative body → IsBody z power behind negative body
sign_of_monomial true (pos n) power behind text negative body h short e is =
    let bare = is.bare (subst (Begins unsigned) (sym e) (body_begins (pos n) power behind h short)) in
    (bare.1 ∙ e, ap (λ b. signed_number b n) bare.0)
sign_of_monomial false (pos n) power behind text negative body h short e is =
    let plus = is.plus (body_of (pos n) power ++ behind) e in (plus.1, ap (λ b. signed_number b n) plus.0)
sign_of_monomial true (negsuc n) power behind text negative body h short e is =
    let minus = is.minus (body_of (negsuc n) power ++ behind) e in (minus.1, ap (λ b. signed_number b (suc n)) minus.0)
sign_of_monomial false (negsuc n) power behind text negative body h short e is =
    let minus = is.minus (body_of (negsuc n) power ++ behind) e in (minus.1, ap (λ b. signed_number b (suc n)) minus.0)

-- later monomials begin with a sign
sign_stops : (z : ℤ) (xs : List ℕ) → Stops unsigned (sign_text (43 ∷ []) z ++ xs)
sign_stops (pos n) xs = refl
sign_stops (negsuc n) xs = refl

pub later_stop : (ms : List Monomial) → Stops unsigned (flat_map later_text ms)
later_stop [] = tt
later_stop (m ∷ ms) =
    subst (Stops unsigned) (sym (append_assoc (sign_text (43 ∷ []) m.coefficient) (unsigned_text m) (flat_map later_text ms)))
    (sign_stops m.coefficient (unsigned_text m ++ flat_map later_text ms))

-- a monomial isn't spelled by nothing
pub monomial_some : (first : Bool) (z : ℤ) (power : ℕ) (behind : List ℕ) → IsNumber z → power < 256
    → [] ≢ placed_text first (monomial_in_k z power) ++ behind
monomial_some true (pos n) power behind h short e = subst (Begins unsigned) (sym e) (body_begins (pos n) power behind h short)
monomial_some false (pos n) power behind h short e = cc
monomial_some true (negsuc n) power behind h short e = cc
monomial_some false (negsuc n) power behind h short e = cc

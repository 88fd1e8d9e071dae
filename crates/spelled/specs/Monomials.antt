-- What monomials of the program stand for.
use Rattle.std.specs.Prelude.{◌≡◌, ℕ, unsigned_abs, Bool, true, false, ℤ, pos, neg_ℤ}
use Rattle.exact_texts.specs.Sums.{Monomial}
use Rattle.spelled.specs.declared.monomials.Monomial as declared

-- the values of monomials: those of the formats of sums
abbrev pub MonomialValue : Type 0
MonomialValue = Monomial

-- what a monomial stands for: its coefficient and its powers
abbrev pub monomial_of : declared.Monomial → MonomialValue
monomial_of m = record { coefficient = m.coefficient; n_power = m.n_power; k_power = m.k_power; x_power = m.x_power }

-- the number with this sign and magnitude
abbrev pub signed_number : Bool → ℕ → ℤ
signed_number true magnitude = neg_ℤ (pos magnitude)
signed_number false magnitude = pos magnitude

-- the coefficient has this sign
abbrev pub IsSigned : Bool → MonomialValue → Type 0
IsSigned negative m = m.coefficient ≡ signed_number negative (unsigned_abs m.coefficient)

-- a minus for negative numbers, a plus for others
abbrev pub sign_byte : Bool → ℕ
sign_byte true = 45
sign_byte false = 43

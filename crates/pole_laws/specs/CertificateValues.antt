-- The identity of a certificate at a point, between numbers.
use Rattle.std.specs.Prelude.{◌≡◌, ℕ, suc, ℤ, pos, negsuc, ◌+ℤ◌, ◌-ℤ◌, ◌*ℤ◌, List, [], ◌∷◌}
use Rattle.ring_laws.specs.Meaning.{Meaning}
use Rattle.hypergeometric.specs.Point.{Point, later_k}
use Rattle.hypergeometric.specs.ProperTerm.{poly_value, value_in_n}

-- a_0(n) p_0(n,k) + a_1(n) p_1(n,k) + ..
abbrev pub combination_value : (ℕ → Meaning) → List Meaning → Point → ℤ
combination_value multipliers [] p = pos 0
combination_value multipliers (poly ∷ ps) p =
    value_in_n (multipliers 0) p *ℤ poly_value poly p +ℤ combination_value (λ j. multipliers (suc j)) ps p

-- q0(n,k) Y(n,k+1) D(n,k) - r0(n,k-1) Y(n,k) D(n,k+1) is that sum times D(n,k) D(n,k+1)
abbrev pub HoldsAt : (q0 r0 : Meaning) → List Meaning → Meaning → (ℕ → Meaning) → Meaning → Point → Type 0
HoldsAt q0 r0 tops y multipliers poles p =
    poly_value q0 p *ℤ (poly_value y (later_k p (pos 1)) *ℤ poly_value poles p)
    -ℤ poly_value r0 (later_k p (negsuc 0)) *ℤ (poly_value y p *ℤ poly_value poles (later_k p (pos 1)))
    ≡ combination_value multipliers tops p *ℤ (poly_value poles p *ℤ poly_value poles (later_k p (pos 1)))

-- A shift of the second variable by w is the value at the second value plus w.
use Rattle.std.specs.Prelude.{◌≡◌, ℤ, ◌+ℤ◌, List, ◌∷◌}
use Rattle.ring_laws.specs.Meaning.{Meaning}
use Rattle.poly_laws.specs.Shift.{poly_shift, inner_shift}
use Rattle.poly_laws.specs.Values.{value_at, tower}
use Rattle.poly_laws.proofs.ShiftLaws.{value_at_shift}
use Rattle.poly_laws.proofs.Uses.{value_at_inner}

pub value_at_inner_shift : (u v w : ℤ) (rest : List ℤ) (m : Meaning)
    → value_at (u ∷ v ∷ rest) (inner_shift (tower rest).ops w m) ≡ value_at (u ∷ (v +ℤ w) ∷ rest) m
value_at_inner_shift u v w rest m =
    value_at_inner u (v ∷ rest) ((v +ℤ w) ∷ rest) (poly_shift (tower rest).ops w) (λ x. value_at_shift v w rest x) m

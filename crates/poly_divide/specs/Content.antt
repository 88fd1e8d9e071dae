-- The greatest common divisor of all coefficients of a row of polynomials in n.
use Rattle.std.specs.Prelude.{ℕ, List, [], ◌∷◌, ◌++◌, map, unsigned_abs, ⊤}
use Rattle.std.specs.Int.{◌∣◌}
use Rattle.ring_laws.specs.Meaning.{Meaning, items}
use Rattle.ring_laws.specs.Wholes.{number_of}

-- the magnitude of each number of a polynomial
abbrev pub sizes_of : Meaning → List ℕ
sizes_of m = map (λ (c : Meaning). unsigned_abs (number_of c)) (items m)

-- and of a row of polynomials
abbrev pub row_sizes : List Meaning → List ℕ
row_sizes [] = []
row_sizes (m ∷ ms) = sizes_of m ++ row_sizes ms

-- d divides each number
abbrev pub DividesAll : ℕ → List ℕ → Type 0
DividesAll d [] = ⊤
DividesAll d (x ∷ xs) = (d ∣ x) × DividesAll d xs

-- the greatest common divisor: it divides each number, and each common divisor divides it; so it is 0 where all are
pub record IsContent (xs : List ℕ) (g : ℕ) : Type 0 where
  pub divides : DividesAll g xs
  pub greatest : (d : ℕ) → DividesAll d xs → d ∣ g

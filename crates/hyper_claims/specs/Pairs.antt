-- The pairs of Hyper (A=B chapter 8): a is a choice of the linear factors of p_0(n), and b one of those of p_d(n-d+1).
use Rattle.std.specs.Prelude.{◌≡◌, ℕ, zero, suc, ◌<◌, ◌≤◌, pos, ◌⊎◌, List, [], ◌∷◌}
use Rattle.std.specs.List.{AllByRecursion}
use Rattle.hypergeometric.specs.Point.{Point, later_n}
use Rattle.hypergeometric.specs.LinearForm.{LinearForm, Factor, form_value}
use Rattle.whole_roots.specs.LinearFactors.{Entry}
use Rattle.hyper_claims.specs.Orders.{AreAllInOrder}

-- the factor u*n + v, to a power
abbrev pub factor_of : Entry → ℕ → Factor
factor_of x power = record { form = record { n_slope = pos x.0.0; k_slope = pos 0; offset = x.0.1 }; power = power }

-- a power for each factor, from 0 to the factor's own
abbrev pub IsChoice : List Entry → List ℕ → Type 0
IsChoice [] [] = Unit {0}
IsChoice [] (p ∷ ps) = ⊥
IsChoice (x ∷ xs) [] = ⊥
IsChoice (x ∷ xs) (p ∷ ps) = (p ≤ x.1) × IsChoice xs ps

-- the chosen factors: those with a power above 0
abbrev pub chosen : List Entry → List ℕ → List Factor
chosen [] ps = []
chosen (x ∷ xs) [] = []
chosen (x ∷ xs) (zero ∷ ps) = chosen xs ps
chosen (x ∷ xs) (suc p ∷ ps) = factor_of x (suc p) ∷ chosen xs ps

-- choices are compared as lists, the first factor first
abbrev pub IsEarlier : List ℕ → List ℕ → Type 0
IsEarlier [] ys = ⊥
IsEarlier (x ∷ xs) [] = ⊥
IsEarlier (x ∷ xs) (y ∷ ys) = (x < y) ⊎ ((x ≡ y) × IsEarlier xs ys)

-- f at n is g at n + h, for a whole h of at least 0
abbrev pub IsShiftOf : LinearForm → LinearForm → Type 0
IsShiftOf f g = (h : ℕ) × ((p : Point) → form_value f p ≡ form_value g (later_n p (pos h)))

-- no factor of a is a factor of b so shifted
abbrev pub IsNormal : List Factor → List Factor → Type 0
IsNormal a b = AllByRecursion (λ (x : Factor). AllByRecursion (λ (y : Factor). ¬ (IsShiftOf x.form y.form)) b) a

-- the powers of a pair
pub record Choice : Type 0 where
  pub a : List ℕ
  pub b : List ℕ

-- the pairs run over a, and for each a over b
abbrev pub ComesBefore : Choice → Choice → Type 0
ComesBefore x y = IsEarlier x.a y.a ⊎ ((x.a ≡ y.a) × IsEarlier x.b y.b)

-- a normal pair, from the factors of both polynomials
pub record IsNormalChoice (a_factors b_factors : List Entry) (x : Choice) : Type 0 where
  pub a : IsChoice a_factors x.a
  pub b : IsChoice b_factors x.b
  pub normal : IsNormal (chosen a_factors x.a) (chosen b_factors x.b)

-- all normal pairs, in order
abbrev pub AreNormalChoices : List Entry → List Entry → List Choice → Type 0
AreNormalChoices a_factors b_factors xs = AreAllInOrder ComesBefore (IsNormalChoice a_factors b_factors) xs

-- Which forms are within bounds, when a form is primitive, the order of forms, and lists in which no form stands twice.
use Rattle.std.specs.Prelude.{◌≡◌, ◌≢◌, ℕ, ◌^◌, ◌≤◌, ◌<◌, pos, ◌<ℤ◌, unsigned_abs, ◌⊎◌, List, [], ◌∷◌}
use Rattle.std.specs.Int.{◌∣◌}
use Rattle.std.specs.List.{AllByRecursion}
use Rattle.hypergeometric.specs.LinearForm.{LinearForm, Factor}

-- slopes of at most 64, an offset of at most 2^40 in magnitude
pub record IsForm (f : LinearForm) : Type 0 where
  pub n_slope : unsigned_abs f.n_slope ≤ 64
  pub k_slope : unsigned_abs f.k_slope ≤ 64
  pub offset : unsigned_abs f.offset ≤ 2 ^ 40

-- the first number that isn't 0, in the order k slope, n slope, offset, is positive
abbrev pub IsPositiveFirst : LinearForm → Type 0
IsPositiveFirst f = (pos 0 <ℤ f.k_slope)
    ⊎ (((f.k_slope ≡ pos 0) × (pos 0 <ℤ f.n_slope))
    ⊎ ((f.k_slope ≡ pos 0) × (f.n_slope ≡ pos 0) × (pos 0 <ℤ f.offset)))

-- no common divisor above 1, and a positive first number
pub record IsPrimitive (f : LinearForm) : Type 0 where
  pub first : IsPositiveFirst f
  pub coprime : (d : ℕ) → d ∣ unsigned_abs f.k_slope → d ∣ unsigned_abs f.n_slope → d ∣ unsigned_abs f.offset → d ≡ 1

-- the order of forms: by k slope, then n slope, then offset
abbrev pub IsBefore : LinearForm → LinearForm → Type 0
IsBefore f g = (f.k_slope <ℤ g.k_slope)
    ⊎ (((f.k_slope ≡ g.k_slope) × (f.n_slope <ℤ g.n_slope))
    ⊎ ((f.k_slope ≡ g.k_slope) × (f.n_slope ≡ g.n_slope) × (f.offset <ℤ g.offset)))

-- a form within bounds, with a power from 1 to 2^32 - 1
pub record IsFactor (x : Factor) : Type 0 where
  pub form : IsForm x.form
  pub some : 1 ≤ x.power
  pub few : x.power < 2 ^ 32

-- no form stands twice
abbrev pub NoFormTwice : List Factor → Type 0
NoFormTwice [] = Unit {0}
NoFormTwice (x ∷ xs) = AllByRecursion (λ y. y.form ≢ x.form) xs × NoFormTwice xs

-- each form before the next one
abbrev pub IsSorted : List Factor → Type 0
IsSorted [] = Unit {0}
IsSorted (x ∷ xs) = AllByRecursion (λ y. IsBefore x.form y.form) xs × IsSorted xs

-- forms within bounds with powers from 1 to 2^32 - 1, none of them twice
pub record AreFactors (xs : List Factor) : Type 0 where
  pub each : AllByRecursion IsFactor xs
  pub distinct : NoFormTwice xs

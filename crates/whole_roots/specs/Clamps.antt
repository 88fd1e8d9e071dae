-- Whole numbers that are cut off at 127 bits.
use Rattle.std.specs.Prelude.{◌≡◌, ℤ, ◌≤ℤ◌, ◌⊎◌}
use Rattle.whole_roots.specs.Turns.{greatest, least}

-- the number, or the greatest or least of 127 bits where it is not between them
abbrev pub IsClamped : ℤ → ℤ → Type 0
IsClamped z held = ((held ≡ z) × ((least ≤ℤ z) × (z ≤ℤ greatest))) ⊎ (((held ≡ greatest) × (greatest ≤ℤ z)) ⊎ ((held ≡ least) × (z ≤ℤ least)))

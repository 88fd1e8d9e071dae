-- Where the sign of a sequence changes, within the whole numbers of 127 bits and a sign.
use Rattle.std.specs.Prelude.{◌≡◌, ◌^◌, ◌-◌, ℤ, pos, negsuc, ◌+ℤ◌, ◌≤ℤ◌, ◌<ℤ◌, ◌⊎◌, List, [], ◌∷◌}
use Rattle.whole_roots.specs.Signs.{sign_of}

-- the greatest whole number of 127 bits
abbrev pub greatest : ℤ
greatest = pos (2 ^ 127 - 1)

-- the negative of that, the least whole number of 127 bits and a sign
abbrev pub least : ℤ
least = negsuc (2 ^ 127 - 2)

-- the values at x and at y are both negative, both zero or both positive
abbrev pub SameSign : (ℤ → ℤ) → ℤ → ℤ → Type 0
SameSign f x y = sign_of (f x) ≡ sign_of (f y)

-- the sign at z isn't that before z
abbrev pub IsTurn : (ℤ → ℤ) → ℤ → Type 0
IsTurn f z = ¬ (SameSign f (z +ℤ negsuc 0) z)

-- the list of all z above low and up to high that are so, rising
abbrev pub AreAll : (ℤ → Type 0) → ℤ → ℤ → List ℤ → Type 0
AreAll P low high [] = (z : ℤ) → low <ℤ z → z ≤ℤ high → ¬ (P z)
AreAll P low high (x ∷ xs) = ((low <ℤ x) × (x ≤ℤ high)) × (P x × (((z : ℤ) → low <ℤ z → z <ℤ x → ¬ (P z)) × AreAll P x high xs))

-- the sequence rises from start to end, or falls, where it may stay too
abbrev pub Rises : (ℤ → ℤ) → ℤ → ℤ → Type 0
Rises f start end = (x y : ℤ) → start ≤ℤ x → x ≤ℤ y → y ≤ℤ end → f x ≤ℤ f y

-- the values never rise from start to end
abbrev pub Falls : (ℤ → ℤ) → ℤ → ℤ → Type 0
Falls f start end = (x y : ℤ) → start ≤ℤ x → x ≤ℤ y → y ≤ℤ end → f y ≤ℤ f x

-- the values never rise from start to end, or never fall
abbrev pub IsMonotone : (ℤ → ℤ) → ℤ → ℤ → Type 0
IsMonotone f start end = Rises f start end ⊎ Falls f start end

-- no turn above start, up to end
abbrev pub StaysUpTo : (ℤ → ℤ) → ℤ → ℤ → Type 0
StaysUpTo f start end = (z : ℤ) → start <ℤ z → z ≤ℤ end → ¬ (IsTurn f z)

-- the first turn above start, up to end
pub record IsNextTurn (f : ℤ → ℤ) (start end turn : ℤ) : Type 0 where
  pub above : start <ℤ turn
  pub within : turn ≤ℤ end
  pub turns : IsTurn f turn
  pub first : (z : ℤ) → start <ℤ z → z <ℤ turn → ¬ (IsTurn f z)

-- The words of the contracts of the reader's own functions.
use Rattle.std.specs.Prelude.{◌≡◌, ◌<◌, ◌⊎◌, codes, ℕ, zero, suc, Bool, true, false, not, if◌then◌else◌, nat_eq, IsTrue, ℤ, pos, neg_ℤ, List, [], ◌∷◌, ◌++◌, flat_map}
use Rattle.std.specs.List.{list_any}
use Rattle.std.specs.Fmt.{decimal}
use Rattle.ring_laws.specs.declared.wholes.Whole.{Whole}
use Rattle.hypergeometric.specs.TermFacts.{IsNumber}
use Rattle.document_text.specs.Spelling.{Monomial, later_text}
use Rattle.exact_texts.specs.Texts.{Only}
use Rattle.exact_texts.proofs.Cuts.{Stops}
use Rattle.cert_text.specs.Printing.{monomial_in_k, placed_text}

-- every byte but the stops
abbrev pub outside : List ℕ → ℕ → Bool
outside stops b = not (list_any (λ s. nat_eq s b) stops)

-- every byte but the signs
abbrev pub unsigned : ℕ → Bool
unsigned = outside (codes "+-")

-- the number with this sign and magnitude
abbrev pub signed_number : Bool → ℕ → ℤ
signed_number true magnitude = neg_ℤ (pos magnitude)
signed_number false magnitude = pos magnitude

-- the first byte is in the class
abbrev pub Begins : (ℕ → Bool) → List ℕ → Type 0
Begins class [] = ⊥
Begins class (b ∷ rest) = IsTrue (class b)

-- what is read of a sign: whether it is a minus, and what follows it
pub record IsSignOf (text : List ℕ) (negative : Bool) (rest : List ℕ) : Type 0 where
  pub minus : (behind : List ℕ) → text ≡ 45 ∷ behind → (negative ≡ true) × (rest ≡ behind)
  pub plus : (behind : List ℕ) → text ≡ 43 ∷ behind → (negative ≡ false) × (rest ≡ behind)
  pub bare : Begins unsigned text → (negative ≡ false) × (rest ≡ text)

-- what is read of a star: what follows it
pub record IsStarOf (text rest : List ℕ) : Type 0 where
  pub star : (behind : List ℕ) → text ≡ 42 ∷ behind → rest ≡ behind
  pub none : text ≡ [] → rest ≡ []
  pub bare : Begins (outside (codes "*")) text → rest ≡ text

-- the digits of a magnitude; none stand for 1
abbrev pub IsMagnitudeText : List ℕ → ℕ → Type 0
IsMagnitudeText digits n = ((digits ≡ []) × (n ≡ 1)) ⊎ (digits ≡ decimal n)

-- monomials in k alone, with numbers within bounds and falling powers below the bound
abbrev pub AreFalling : ℕ → List Monomial → Type 0
AreFalling bound [] = Unit {0}
AreFalling bound (m ∷ ms) =
    (m ≡ monomial_in_k m.coefficient m.k_power) × IsNumber m.coefficient × (m.k_power < bound) × AreFalling m.k_power ms

-- monomials as a text, the first one in front or later, and the others later
abbrev pub rest_text : Bool → List Monomial → List ℕ
rest_text first [] = []
rest_text first (m ∷ ms) = placed_text first m ++ flat_map later_text ms

-- the number at an index of a list of numbers, 0 beyond its end
abbrev pub value_in : List Whole → ℕ → ℤ
value_in [] k = pos 0
value_in (w ∷ ws) zero = w.value
value_in (w ∷ ws) (suc k) = value_in ws k

-- the coefficient of the power k that monomials in falling powers have, 0 where none has it
abbrev pub coefficient_of : List Monomial → ℕ → ℤ
coefficient_of [] k = pos 0
coefficient_of (m ∷ ms) k = if nat_eq m.k_power k then m.coefficient else coefficient_of ms k

-- one more where the byte is a newline
abbrev pub counted : ℕ → ℕ → ℕ
counted x n = if nat_eq x 10 then suc n else n

-- a field is what stands behind a word and in front of a stop, and the rest is what follows it
abbrev pub IsField : List ℕ → List ℕ → List ℕ → List ℕ → List ℕ → Type 0
IsField text word stops field rest = (front back : List ℕ) → Only (outside stops) front → Stops (outside stops) back
    → text ≡ word ++ (front ++ back) → (field ≡ front) × (rest ≡ back)

-- The tests of the claim of a polynomial in k, and the verdict that they give.
use Rattle.std.specs.Prelude.{◌≡◌, ◌≢◌, ◌↔◌, ℕ, Bool, IsTrue, ℤ, pos, ◌+ℤ◌, ◌-ℤ◌, ◌*ℤ◌, [], ◌∷◌, Result, Ok, Err}
use Rattle.ring_laws.specs.Meaning.{Meaning, items}
use Rattle.ring_laws.specs.Algebra.{SumInBounds, ProductInBounds}
use Rattle.ring_laws.specs.Answer.{OnFault}
use Rattle.ring_laws.specs.declared.faults.RingFault.{RingFault}
use Rattle.ring_laws.specs.declared.faults.RingFault.TheVariants as ring
use Rattle.poly_laws.specs.Shift.{poly_shift, ListShiftInBounds}
use Rattle.poly_laws.specs.Values.{value_at, level}
use Rattle.hypergeometric.specs.ProperTerm.{proper_value}
use Rattle.hypergeometric.specs.Telescopes.{Telescopes}
use Rattle.cert_text.specs.Readable.{Contents, document_of}
use Rattle.documents.specs.declared.faults.EngineFault.{EngineFault}
use Rattle.documents.specs.declared.faults.EngineFault.TheVariants as engine
use Rattle.documents.specs.declared.faults.Place.TheVariants.{Claim}
use Rattle.cert_checker.specs.declared.verdicts.Verdict.{Verdict}
use Rattle.cert_checker.specs.declared.verdicts.Verdict.TheVariants.{Accepted, Rejected}
use Rattle.cert_checker.specs.declared.verdicts.Reason.{Reason}
use Rattle.cert_checker.specs.declared.verdicts.Reason.TheVariants.{Shape, Normal, Carrier, Zero, Poles, Equation, Case, Same, Sums}

-- Y(k + 1)
abbrev pub next_y : Contents → Meaning
next_y d = poly_shift (level 0).ops (pos 1) d.y

-- Y(k + 1) - Y(k)
abbrev pub difference : Contents → Meaning
difference d = (level 1).ops.sum (next_y d) ((level 1).ops.neg d.y)

-- the multiplier times the polynomial of the term
abbrev pub multiple : Contents → Meaning
multiple d = (level 1).ops.product ((level 1).ops.whole d.multiplier) d.poly

-- the first test: the carrier has the scale of the term
abbrev pub HasCarrier : Contents → Type 0
HasCarrier d = d.scale ≡ d.carrier_scale

-- the second test: the multiplier isn't 0
abbrev pub HasMultiplier : Contents → Type 0
HasMultiplier d = d.multiplier ≢ pos 0

-- the third test: Y(k + 1) - Y(k) is the multiplier times the polynomial of the term
abbrev pub HasEquation : Contents → Type 0
HasEquation d = difference d ≡ multiple d

-- the shift of Y, the difference and the product are in bounds
pub record AreInBounds (d : Contents) : Type 0 where
  pub shift : ListShiftInBounds (level 0) ((level 0).ops.whole (pos 1)) (items d.y)
  pub sum : SumInBounds (level 1) (next_y d) d.y
  pub product : ProductInBounds (level 1) ((level 1).ops.whole d.multiplier) d.poly

-- what the computation of the two sides answers
abbrev pub GivesSides : {T : Type 0} → (T → Meaning) → Contents → Result (T × T) RingFault → Type 0
GivesSides meaning d (Ok sides) = AreInBounds d × (meaning sides.0 ≡ difference d) × (meaning sides.1 ≡ multiple d)
GivesSides meaning d (Err fault) = OnFault (¬ AreInBounds d) fault

-- what the test of the equation answers
abbrev pub TestsEquation : Contents → Result Bool RingFault → Type 0
TestsEquation d (Ok holds) = AreInBounds d × (IsTrue holds ↔ HasEquation d)
TestsEquation d (Err fault) = OnFault (¬ AreInBounds d) fault

-- a fault of the arithmetic of a claim
abbrev pub claim_fault : ℕ → RingFault → EngineFault
claim_fault claim ring.TooLarge = engine.TooLarge (Claim claim)
claim_fault claim ring.Memory = engine.Memory

-- the test is the first that fails
abbrev pub IsFirstFailed : Contents → Reason → Type 0
IsFirstFailed d Shape = ⊥
IsFirstFailed d Normal = ⊥
IsFirstFailed d Carrier = ¬ HasCarrier d
IsFirstFailed d Zero = HasCarrier d × (¬ HasMultiplier d)
IsFirstFailed d Poles = ⊥
IsFirstFailed d Equation = HasCarrier d × HasMultiplier d × (¬ HasEquation d)
IsFirstFailed d Case = ⊥
IsFirstFailed d Same = ⊥
IsFirstFailed d Sums = ⊥

-- accepted where all three hold, and rejected where one fails
abbrev pub IsVerdictOf : Contents → Verdict → Type 0
IsVerdictOf d (Accepted unchecked) = HasCarrier d × HasMultiplier d × HasEquation d × (unchecked.items ≡ [])
IsVerdictOf d (Rejected claim reason) = (claim ≡ 0) × IsFirstFailed d reason

-- the verdict accepts the document
abbrev pub IsAccepted : Verdict → Type 0
IsAccepted (Accepted unchecked) = Unit {0}
IsAccepted (Rejected claim reason) = ⊥

-- at every whole k: multiplier * P(k) = Y(k + 1) - Y(k)
abbrev pub HasIdentity : Contents → Type 0
HasIdentity d = (k : ℤ) → d.multiplier *ℤ value_at (k ∷ []) d.poly ≡ value_at ((k +ℤ pos 1) ∷ []) d.y -ℤ value_at (k ∷ []) d.y

-- the claim of the document telescopes the term of the document
abbrev pub ClaimTelescopes : Contents → Type 0
ClaimTelescopes d = Telescopes (proper_value (document_of d).term) (document_of d).term.poly (document_of d).found.claim

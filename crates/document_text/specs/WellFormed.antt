-- Which documents are well formed: the bounds that a document keeps.
use Rattle.std.specs.Prelude.{◌≡◌, ◌≢◌, ◌+◌, ◌^◌, ◌≤◌, ◌<◌, pos, List, [], Option, Some, None}
use Rattle.std.specs.List.{AllByRecursion}
use Rattle.hypergeometric.specs.LinearForm.{LinearForm, Factor, FactorList}
use Rattle.hypergeometric.specs.FormOrder.{IsForm, IsPrimitive, IsFactor, IsSorted}
use Rattle.hypergeometric.specs.ProperTerm.{ProperTerm}
use Rattle.hypergeometric.specs.TermFacts.{IsNumber, IsPolynomial, total_power, IsProper, IsPlain}
use Rattle.hypergeometric.specs.Match.{Match}
use Rattle.document_text.specs.Document.{Found, Document}

-- primitive forms, in their order
pub record ArePrimitiveFactors (xs : List Factor) : Type 0 where
  pub each : AllByRecursion IsFactor xs
  pub primitive : AllByRecursion (λ x. IsPrimitive x.form) xs
  pub sorted : IsSorted xs

-- a scale below 2^127 in magnitude that isn't 0, and primitive forms in their order
pub record IsFactorList (l : FactorList) : Type 0 where
  pub scale : IsNumber l.scale
  pub not_zero : l.scale ≢ pos 0
  pub factors : ArePrimitiveFactors l.factors

-- a carrier has at most 168 factors
pub record IsCarrier (f : ProperTerm) : Type 0 where
  pub proper : IsProper f
  pub few : total_power f.up + total_power f.down + total_power f.over + total_power f.guard ≤ 168

-- a form within bounds, a shift below 2^64, and a power from 1 to 2^32 - 1
pub record IsMatch (m : Match) : Type 0 where
  pub form : IsForm m.form
  pub shift : m.shift < 2 ^ 64
  pub some : 1 ≤ m.power
  pub few : m.power < 2 ^ 32

-- the two ends of a range, where there is one, are forms within bounds
abbrev pub IsRange : Option (LinearForm × LinearForm) → Type 0
IsRange None = Unit {0}
IsRange (Some ends) = IsForm ends.0 × IsForm ends.1

-- a found claim with at least one multiplier, and with its matches, lists, polynomials, carrier and range within bounds
pub record IsFound (f : Found) : Type 0 where
  pub matches : AllByRecursion IsMatch f.matches
  pub q : IsFactorList f.q
  pub r : IsFactorList f.r
  pub some_multiplier : f.claim.multipliers ≢ []
  pub multipliers : AllByRecursion (IsPolynomial 1) f.claim.multipliers
  pub carrier : IsCarrier f.claim.carrier
  pub y : IsPolynomial 2 f.claim.y
  pub poles : ArePrimitiveFactors f.claim.poles
  pub ratio_top : IsFactorList f.claim.ratio_top
  pub ratio_bottom : IsFactorList f.claim.ratio_bottom
  pub range : IsRange f.range

-- The subject of gosper is a plain term, and its one claim has order 0.
pub record IsWellFormed (d : Document) : Type 0 where
  pub term : IsPlain d.term
  pub order : d.found.order ≡ 0
  pub found : IsFound d.found

-- Which documents are well formed: the bounds that a document keeps, and the claims that belong to its command.
-- The version is that of the document's text. Of gosper, ct and zeil there are well-formed documents; of the other commands there are none yet.
use Rattle.std.specs.Prelude.{◌≡◌, ◌≢◌, ℕ, suc, ◌≤◌, pos, List, [], ◌∷◌}
use Rattle.std.specs.List.{AllByRecursion}
use Rattle.hypergeometric.specs.ProperTerm.{ProperTerm}
use Rattle.hypergeometric.specs.TermFacts.{IsPolynomial, IsPlain}
use Rattle.document_text.specs.WellFormed.{ArePrimitiveFactors, IsFactorList, IsCarrier, IsMatch, IsRange}
use Rattle.documents.specs.Documents.{Form, Found, Evidence, unsought, no_number, at_number, Empty}
use Rattle.documents.specs.Documents.{Claim, found, empty}
use Rattle.documents.specs.Documents.{Command, gosper, ct, zeil, wz, companion, hyper, Subject, of_term, of_recurrence, Document}
use Rattle.documents.specs.declared.documents.Version.{Version}
use Rattle.documents.specs.declared.documents.Version.TheVariants.{One}

-- the order of a recurrence is at most 6
abbrev pub IsOrder : ℕ → Type 0
IsOrder order = order ≤ 6

-- a carrier has at most 168 factors in version 1
abbrev pub IsCarrierIn : Version → ProperTerm → Type 0
IsCarrierIn One f = IsCarrier f

-- forms with their shifts and powers, and lists of primitive forms in their order with scales other than 0, all within bounds
pub record IsWrittenForm (f : Form) : Type 0 where
  pub matches : AllByRecursion IsMatch f.matches
  pub q : IsFactorList f.q
  pub r : IsFactorList f.r

-- an order of at most 6, at least one multiplier, and polynomials, carrier, lists and range within bounds; the scale of the poles is 1
pub record IsFound (version : Version) (f : Found) : Type 0 where
  pub order : IsOrder f.order
  pub form : IsWrittenForm f.form
  pub some_multiplier : f.multipliers ≢ []
  pub multipliers : AllByRecursion (IsPolynomial 1) f.multipliers
  pub carrier : IsCarrierIn version f.carrier
  pub y : IsPolynomial 2 f.y
  pub poles_scale : f.poles.scale ≡ pos 1
  pub poles : ArePrimitiveFactors f.poles.factors
  pub ratio_top : IsFactorList f.ratio_top
  pub ratio_bottom : IsFactorList f.ratio_bottom
  pub range : IsRange f.range

-- a number that shows an order empty is at most 255
abbrev pub IsEvidence : Evidence → Type 0
IsEvidence unsought = Unit {0}
IsEvidence no_number = Unit {0}
IsEvidence (at_number n) = n ≤ 255

-- an order of at most 6, and its form and evidence within bounds
pub record IsEmpty (e : Empty) : Type 0 where
  pub order : IsOrder e.order
  pub form : IsWrittenForm e.form
  pub evidence : IsEvidence e.evidence

-- Claims of the orders from one on, with so many more: each says that its order is empty, up to the first that is found, or up to the last.
pub data AreOfOrders (version : Version) : ℕ → ℕ → List Claim → Type 0 where
  ends : {order more : ℕ} {f : Found} → f.order ≡ order → IsFound version f → AreOfOrders version order more (found f ∷ [])
  runs_out : {order : ℕ} {e : Empty} → e.order ≡ order → IsEmpty e → AreOfOrders version order 0 (empty e ∷ [])
  goes_on : {order more : ℕ} {e : Empty} {claims : List Claim} → e.order ≡ order → IsEmpty e → AreOfOrders version (suc order) more claims
      → AreOfOrders version order (suc more) (empty e ∷ claims)

-- the claims that belong to a command: one of the order 0 for gosper, one of the order J for ct J, those from the order 0 on for zeil J
abbrev pub AreClaimsOf : Version → Command → List Claim → Type 0
AreClaimsOf version gosper claims = AreOfOrders version 0 0 claims
AreClaimsOf version (ct order) claims = IsOrder order × AreOfOrders version order 0 claims
AreClaimsOf version (zeil most) claims = IsOrder most × AreOfOrders version 0 most claims
AreClaimsOf version wz claims = ⊥
AreClaimsOf version (companion b) claims = ⊥
AreClaimsOf version hyper claims = ⊥

-- gosper, ct and zeil speak of a plain term
abbrev pub IsSubject : Subject → Type 0
IsSubject (of_term t) = IsPlain t
IsSubject (of_recurrence ps) = ⊥

-- the subject and the claims are those that belong to the command, within bounds
pub record IsWellFormed (version : Version) (d : Document) : Type 0 where
  pub subject : IsSubject d.subject
  pub claims : AreClaimsOf version d.command d.claims

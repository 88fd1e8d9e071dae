-- What documents say: a command, its subject, and claims of it.
use Rattle.std.specs.Prelude.{ℕ, ℤ, List, Option}
use Rattle.ring_laws.specs.Meaning.{Meaning}
use Rattle.hypergeometric.specs.Fraction.{Fraction}
use Rattle.hypergeometric.specs.LinearForm.{LinearForm, FactorList}
use Rattle.hypergeometric.specs.Match.{Match}
use Rattle.hypergeometric.specs.ProperTerm.{ProperTerm}
use Rattle.hypergeometric.specs.Claim as telescoping

-- Gosper's normal form as it is written: the matches, and the lists q and r
pub record Form : Type 0 where
  pub matches : List Match
  pub q : FactorList
  pub r : FactorList

-- a recurrence of an order with its certificate, and the ends of the sum over k, where there are any
pub record Found : Type 0 where
  pub order : ℕ
  pub form : Form
  pub multipliers : List Meaning
  pub carrier : ProperTerm
  pub y : Meaning
  pub poles : FactorList
  pub ratio_top : FactorList
  pub ratio_bottom : FactorList
  pub range : Option (LinearForm × LinearForm)

-- what it says of the term: the multipliers, and G = K Y / D with its ratio
abbrev pub claim_of : Found → telescoping.Claim
claim_of f = record {
  multipliers = f.multipliers;
  carrier = f.carrier;
  y = f.y;
  poles = f.poles.factors;
  ratio_top = f.ratio_top;
  ratio_bottom = f.ratio_bottom;
}

-- what shows that an order is empty: nothing was sought, no number shows it, or the key equation has no solution at this n
pub data Evidence : Type 0 where
  unsought : Evidence
  no_number : Evidence
  at_number : ℕ → Evidence

-- an order without a recurrence
pub record Empty : Type 0 where
  pub order : ℕ
  pub form : Form
  pub evidence : Evidence

-- the companion identity over a box: both sums, or the first point at which something is undefined
pub data Sums : Type 0 where
  sides : (left right : Fraction) → Sums
  undefined_at : (n k : ℤ) → Sums

-- a case of Hyper: the factors above and below, and the root, where there is one
pub record Case : Type 0 where
  pub above : FactorList
  pub below : FactorList
  pub root : Option Fraction

-- a hypergeometric solution: its case, its first n, and the polynomial c
pub record HyperSolution : Type 0 where
  pub case : Case
  pub start : ℕ
  pub c : Meaning

-- a solution with the quotient of the claim of this number
pub record HyperAgain : Type 0 where
  pub case : Case
  pub earlier : ℕ
  pub c : Meaning

-- a claim of a document
pub data Claim : Type 0 where
  -- an order with a recurrence, and one without
  found : Found → Claim
  empty : Empty → Claim
  -- a WZ pair, and that there is none
  pair : Found → Claim
  no_pair : Empty → Claim
  -- the companion identity of the pair before
  sums : Sums → Claim
  -- cases of Hyper without a root, and without a polynomial
  no_root : Case → Claim
  barren : Case → Claim
  -- a solution of a recurrence, and one that is there already
  solution : HyperSolution → Claim
  again : HyperAgain → Claim

-- a box: n from n0 to n1, k from k0 to k1
pub record Box : Type 0 where
  pub n0 : ℤ
  pub n1 : ℤ
  pub k0 : ℤ
  pub k1 : ℤ

-- the command that a document answers; ct has an order, zeil the greatest order, and companion a box
pub data Command : Type 0 where
  gosper : Command
  ct : (order : ℕ) → Command
  zeil : (most : ℕ) → Command
  wz : Command
  companion : Box → Command
  hyper : Command

-- what a document speaks of: a term, or the polynomials of a recurrence
pub data Subject : Type 0 where
  of_term : ProperTerm → Subject
  of_recurrence : List Meaning → Subject

-- what was asked, of what, and the claims
pub record Document : Type 0 where
  pub command : Command
  pub subject : Subject
  pub claims : List Claim

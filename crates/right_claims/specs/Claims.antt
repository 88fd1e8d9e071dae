-- The claims that a document of a term lists: what a found order or a pair says, and what is said of an order or a pair that has no solution.
use Rattle.std.specs.Prelude.{ℕ, List, Option}
use Rattle.hypergeometric.specs.LinearForm.{LinearForm, FactorList}
use Rattle.hypergeometric.specs.Claim.{Claim}
use Rattle.hypergeometric.specs.Match.{Match}
use Rattle.term_pieces.specs.NormalForm.{Normal}

-- Gosper's normal form as it is printed: the matches, and q and r
pub record PrintedForm : Type 0 where
  pub matches : List Match
  pub q : FactorList
  pub r : FactorList

-- what is printed of a normal form
abbrev pub printed : Normal → PrintedForm
printed normal = record { matches = normal.matches; q = normal.q; r = normal.r }

-- the ends of a range of k, two forms in n, where there is one
abbrev pub Range : Type 0
Range = Option (LinearForm × LinearForm)

-- a claim of a document
pub data TermClaim : Type 0 where
  -- the recurrence of an order with its certificate, and the range over which the sums of the term satisfy it
  found : (order : ℕ) (form : PrintedForm) (claim : Claim) (range : Range) → TermClaim
  -- the order has no solution
  empty : (order : ℕ) (form : PrintedForm) → TermClaim
  -- a pair with its certificate; its claim has one multiplier
  pair : (form : PrintedForm) (claim : Claim) (range : Range) → TermClaim
  -- there is no pair
  no_pair : (form : PrintedForm) → TermClaim

-- Which lists have a normal form within the bounds of forms: that of the quotient of a term is so; and the lists of a normal form.
use Rattle.std.specs.Prelude.{◌≡◌, ◌≢◌, ℕ, suc, ◌+◌, ◌≤◌, List, [], ◌∷◌, ◌++◌}
use Rattle.std.specs.List.{AllByRecursion}
use Rattle.hypergeometric.specs.LinearForm.{LinearForm, Factor, FactorList}
use Rattle.hypergeometric.specs.FormOrder.{IsForm, IsPrimitive, IsSorted}
use Rattle.hypergeometric.specs.FactorLists.{power_of}
use Rattle.hypergeometric.specs.Match.{Match}
use Rattle.term_pieces.specs.NormalForm.{at_earlier_k, forms_before}

-- The forms of q0 are primitive, and so their shifts are. The forms of r0 are within bounds at k - 1 too, where chains end.
pub record IsFormQuotient (q0 r0 : FactorList) : Type 0 where
  pub primitive : AllByRecursion (λ x. IsPrimitive x.form) q0.factors
  pub earlier : AllByRecursion (λ x. IsForm (at_earlier_k x.form 1)) r0.factors

-- the forms of the chain of a match are primitive and within bounds
pub record HasChain (m : Match) : Type 0 where
  pub some : m.power ≢ 0
  pub primitive : IsPrimitive m.form
  pub within : (j : ℕ) → j ≤ suc m.shift → IsForm (at_earlier_k m.form j)

-- s(k-1) .. s(k-h-further) over the matches of s at h
abbrev pub forms_further : ℕ → List Match → List Factor
forms_further further [] = []
forms_further further (m ∷ ms) = forms_before m.form (further + m.shift) m.power ++ forms_further further ms

-- a list without what is taken from it: the same scale, sorted, no form with the power 0
pub record IsLeftOf (l whole : FactorList) (taken : List Factor) : Type 0 where
  pub scale : l.scale ≡ whole.scale
  pub sorted : IsSorted l.factors
  pub some : AllByRecursion (λ x. x.power ≢ 0) l.factors
  pub powers : (f : LinearForm) → power_of f l.factors + power_of f taken ≡ power_of f whole.factors

-- The quotient of the leads, from the whole number that the code finds.
use Rattle.std.specs.Prelude.{◌≡◌, ℕ, suc, ◌+◌, ℤ, pos, negsuc, ◌+ℤ◌, [], ◌∷◌, Option, Some, None, Result, Ok, Err, ◌≤ℤ◌, unsigned_abs, refl}
use Rattle.std.specs.Result.{OkIff, result_ok}
use Rattle.std.proofs.Common.{ap, sym, ◌∙◌, subst, arith}
use Rattle.std.proofs.lemmas.Int.{ints}
use Rattle.ring_laws.specs.Meaning.{Meaning}
use Rattle.ring_laws.specs.Algebra.{Ops, Algebra, Passing, within, Laws, same_passing}
use Rattle.ring_laws.specs.Division.{DomainLaws, IsTimes}
use Rattle.poly_laws.specs.PolyAlgebra.{poly_algebra}
use Rattle.division_laws.specs.Polynomials.{coefficient_of}
use Rattle.key_laws.specs.DegreeBounds.{IsGreatestDegree, Agree}
use Rattle.key_laws.proofs.FindingBounds.{IsLeadQuotient, one_whole, lead_difference, no_lead}

-- a number as one of at least 0
abbrev pub IsNatural : ℤ → Option ℕ → Type 0
IsNatural c (Some n) = c ≡ pos n
IsNatural c None = (n : ℕ) → ¬ (c ≡ pos n)

-- the conversion of a number to one of at least 0
pub natural_of : {E : Type 0} (c : ℤ) (r : Result ℕ E) → OkIff r (pos 0 ≤ℤ c) (unsigned_abs c) → IsNatural c (result_ok r)
natural_of (pos n) (Ok x) h = ap pos (sym h.1)
natural_of (negsuc n) (Ok x) h = absurd (omega (arith, ints, h.0))
natural_of c (Err e) h = λ n p. h (omega (arith, ints, p))

-- the leads that agree aren't zero
pub lead_some : (o : Ops Meaning) (q b : Meaning) (m : ℕ) → IsGreatestDegree o (q ∷ b ∷ []) m → Agree o q b m → ¬ (coefficient_of o q m ≡ o.nought)
lead_some o q b m h same e = h.lead (e, (sym same ∙ e, tt))

module _ (a : Algebra) (l : Laws a) (d : DomainLaws a) where
  abbrev base : Ops (Passing a)
  base = within a l.closed

  -- no number below 0 stands for one of at least 0
  below_apart : (n i : ℕ) → ¬ (base.whole (negsuc n) ≡ base.whole (pos i))
  below_apart n i e =
      let left : negsuc n +ℤ pos (suc n) ≡ pos 0 = omega (arith, ints) in
      let right : pos i +ℤ pos (suc n) ≡ pos (i + suc n) = omega (arith, ints) in
      let same : base.whole (pos 0) ≡ base.whole (pos (i + suc n)) =
      sym (ap base.whole left) ∙ l.ring.whole_sum (negsuc n) (pos (suc n)) ∙ ap (λ t. base.sum t (base.whole (pos (suc n)))) e
      ∙ sym (l.ring.whole_sum (pos i) (pos (suc n))) ∙ ap base.whole right in
      let none : 0 ≡ i + suc n = one_whole a l d 0 (i + suc n) same in
      absurd (omega (arith, none))

  natural_apart : (c : ℤ) → IsNatural c None → (i : ℕ) → ¬ (base.whole c ≡ base.whole (pos i))
  natural_apart (pos n) h i e = h n refl
  natural_apart (negsuc n) h i e = below_apart n i e

  -- the whole number that times the lead is the difference
  pub quotient_is : (q b : Passing (poly_algebra a)) (m : ℕ) (c : ℤ) (found : Option ℕ) (some : ¬ (coefficient_of a.ops q.0 m ≡ a.ops.nought))
      → IsTimes a c (coefficient_of a.ops q.0 m) (lead_difference a l d q b m some) → IsNatural c found → IsLeadQuotient a.ops q.0 b.0 m found
  quotient_is q b m c (Some n) some h e = subst (λ t. IsTimes a t (coefficient_of a.ops q.0 m) (lead_difference a l d q b m some)) e h
  quotient_is q b m c None some h e =
      no_lead a l d q b m some (base.whole c) h
      (λ i k. natural_apart c e i (same_passing a (base.whole c) (base.whole (pos i)) k))

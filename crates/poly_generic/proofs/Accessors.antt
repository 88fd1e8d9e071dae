-- What the calls that read one coefficient answer, from what the slice's calls answer.
use Rattle.std.proofs.Common.{◌≡◌, ℕ, ◌<◌, ◌≤◌, ◌-◌, refl, List, [], ◌∷◌, map, length, get_or, sym, ap, ◌∙◌, arith, Option, Some, None, MatchOption, Bor}
use Rattle.std.specs.Prelude.{◌≢◌}
use Rattle.std.specs.Option.{IfSome}
use Rattle.std.proofs.lemmas.List.{length-map}
use Rattle.poly_laws.specs.Lists.{coefficient_at}
use Rattle.ring_laws.specs.Algebra.{Ops}
use Rattle.ring_laws.specs.Meaning.{Meaning, listed, items, parted-joined}
use Rattle.poly_generic.proofs.ListLemmas.{at_item}

module _ {T : Type 0} (o : Ops Meaning) (meaning : T → Meaning) (slice xs : List T) (e : slice ≡ xs) where
  abbrev coefficients_of : List Meaning
  coefficients_of = items (listed (map meaning xs))

  are : coefficients_of ≡ map meaning xs
  are = parted-joined (map meaning xs)

  -- there are as many coefficients as items
  pub count : length coefficients_of ≡ length xs
  count = ap length are ∙ length-map xs meaning

  item : (power : ℕ) (x : Bor T) → power < length xs → x.now ≡ get_or slice power x.now → meaning x.now ≡ coefficient_at o coefficients_of power
  item power x below is =
      sym (at_item o meaning xs power x.now below (is ∙ ap (λ t. get_or t power x.now) e)) ∙ ap (λ t. coefficient_at o t power) (sym are)

  -- `get` at a power
  pub coefficient_given : (F : Bor T → Type 0) (power : ℕ) (r : Option (Bor T))
      → MatchOption r (length slice ≤ power) (λ x. (power < length slice) × F x) → IfSome r (λ x. x.now ≡ get_or slice power x.now)
      → MatchOption r (length coefficients_of ≤ power) (λ x. (power < length coefficients_of)
      × (meaning x.now ≡ coefficient_at o coefficients_of power))
  coefficient_given F power None range is = omega (arith, range, count, ap length e)
  coefficient_given F power (Some x) range is = (omega (arith, range.0, count, ap length e), item power x (omega (arith, range.0, ap length e)) is)

  -- `last`, at the greatest power
  pub lead_given : (F : Bor T → Type 0) (r : Option (Bor T))
      → MatchOption r (length slice ≤ 0) (λ x. (0 < length slice) × F x) → IfSome r (λ x. x.now ≡ get_or slice (length slice - 1) x.now)
      → MatchOption r (coefficients_of ≡ [])
      (λ x. (coefficients_of ≢ []) × (meaning x.now ≡ coefficient_at o coefficients_of (length coefficients_of - 1)))
  lead_given F None range is = none coefficients_of (omega (arith, range, count, ap length e))
    where
      none : (ms : List Meaning) → length ms ≡ 0 → ms ≡ []
      none [] n = refl
      none (m ∷ ms) n = absurd (omega arith)
  lead_given F (Some x) range is = (
    (λ n. absurd (omega (arith, range.0, count, ap length e, ap length n))),
    item (length slice - 1) x (omega (arith, range.0, ap length e)) is ∙ ap (λ k. coefficient_at o coefficients_of (k - 1)) (ap length e ∙ sym count),
  )

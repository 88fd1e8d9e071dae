-- The steps of reading a list with a scale.
use Rattle.std.specs.Prelude.{◌≡◌, ◌≢◌, ℤ, pos, Option, Some, None, IfSome}
use Rattle.std.specs.Option.{MatchOption}
use Rattle.std.proofs.Common.{ap, sym, subst, ◌∙◌}
use Rattle.hypergeometric.specs.LinearForm.{FactorList}
use Rattle.document_text.specs.WellFormed.{IsFactorList}
use Rattle.form_lines.specs.Factors.{scaled_parts, parts_of_list}

-- the list with this scale and the factors of that one
abbrev pub scaled : ℤ → FactorList → FactorList
scaled s l = record { scale = s; factors = l.factors }

module _ {T : Type 0} (list_of : T → FactorList) (s : ℤ) (fs : FactorList) where
  -- what is made of a scale and a list
  abbrev Made : Option T → Type 0
  Made found = MatchOption found (s ≡ pos 0) (λ l. (list_of l ≡ scaled s fs) × (s ≢ pos 0))

  -- of the parts of a list the list is found
  pub found_scaled : (found : Option T) (v : FactorList) → (s, fs) ≡ parts_of_list v → v.scale ≢ pos 0 → Made found → MatchOption found ⊥ (λ l. list_of l ≡ v)
  found_scaled None v e some made = some (sym (ap (λ p. p.0) e) ∙ made)
  found_scaled (Some l) v e some made = made.0 ∙ λ i. record { scale = (e i).0; factors = (e i).1.factors }

  -- and what is found has a text
  pub scaled_has : (found : Option T) → scaled_parts.Has (s, fs) → Made found → IfSome found (λ l. IsFactorList (list_of l))
  scaled_has None has made = tt
  scaled_has (Some l) has made =
      subst IsFactorList (sym made.0) (record { scale = has.0; not_zero = made.1; factors = has.1.1 })

-- The polynomial of the fields of a term is within bounds, and told from zero by its list.
use Rattle.std.proofs.Common.{◌≡◌, ◌≤◌, refl, ap, List, [], ◌∷◌, map, length, IsTrue, ◌↔◌}
use Rattle.ring_laws.specs.Meaning.{Meaning, number, listed, items}
use Rattle.ring_laws.specs.WholeLaws.{whole_laws}
use Rattle.ring_laws.specs.Wholes.{whole_algebra}
use Rattle.ring_laws.specs.declared.wholes.Whole.{Whole}
use Rattle.ring_laws.specs.contracts.wholes.WholeRing.TheImpl.{ghosts}
use Rattle.poly_laws.specs.Lists.{is_trimmed}
use Rattle.poly_laws.specs.PolyAlgebra.{is_empty}
use Rattle.poly_laws.specs.Values.{level}
use Rattle.poly_laws.proofs.Belonging.{value_passes, value_fits}
use Rattle.poly_laws.proofs.Equal.{level_laws}
use Rattle.poly_generic.specs.declared.polys.Poly.{Poly}
use Rattle.hypergeometric.specs.TermFacts.{IsPolynomial}

abbrev pub coefficient : Poly Whole ghosts → Meaning
coefficient c = listed (map (λ (w : Whole). number w.value) c.list.items)

pub polynomial_kept : (cs : List (Poly Whole ghosts)) → IsTrue (is_trimmed (level 1).ops (map coefficient cs)) → length cs ≤ 256
    → IsPolynomial 2 (listed (map coefficient cs))
polynomial_kept cs ended short = record {
  passes = value_passes (level 1) coefficient (λ c. value_passes whole_algebra (λ (w : Whole). number w.value)
      (λ w. refl) c.list.items c.ended) cs ended;
  fits = value_fits (level 1) (level_laws 1) coefficient
      (λ c. value_fits whole_algebra whole_laws (λ (w : Whole). number w.value) (λ w. w.small) c.list.items c.short) cs short;
}

-- only the zero polynomial has no coefficients
pub nought_test : (ms : List Meaning) → IsTrue (is_empty (items (listed ms))) ↔ (listed ms ≡ listed [])
nought_test [] = (λ e. refl, λ e. refl)
nought_test (m ∷ ms) = (λ e. absurd (differ e), λ e. ap (λ t. is_empty (items t)) e)
  where
    differ : IsTrue (is_empty (items (listed (m ∷ ms)))) → ⊥
    differ e = cc

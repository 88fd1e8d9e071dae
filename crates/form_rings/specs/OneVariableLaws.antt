-- The laws of the polynomials in n.
-- These are lemmas: they stand here, and not in proofs/, since the ring of forms of `Zn` names the last of them.
use Rattle.std.specs.Prelude.{◌≡◌, ℤ, pos, ◌+ℤ◌, ◌*ℤ◌, IsTrue, List, [], ◌∷◌, length, refl}
use Rattle.std.proofs.Common.{ap, ◌∙◌, arith}
use Rattle.std.proofs.Math.IntN.{*ℤ-zero, zero-*ℤ, *ℤ_comm}
use Rattle.std.proofs.lemmas.Int.{ints}
use Rattle.ring_laws.specs.Meaning.{number}
use Rattle.ring_laws.specs.Algebra.{Passing}
use Rattle.ring_laws.specs.Wholes.{number_of, whole_algebra}
use Rattle.ring_laws.specs.WholeLaws.{whole_laws}
use Rattle.ring_solver.proofs.Integers.{*ℤ_distrib}
use Rattle.poly_laws.specs.Lists.{trimmed}
use Rattle.poly_laws.specs.Values.{value_at, level}
use Rattle.poly_laws.proofs.Coefficients.{meanings-trimmed, trimmed_passes, poly_closed}
use Rattle.poly_laws.proofs.Equal.{same_values}
use Rattle.poly_laws.proofs.Keeps.{value_at_keeps, of_list, whole_keeps}
use Rattle.form_rings.specs.Forms.{FormLaws}
use Rattle.form_rings.specs.OneVariable.{part_in_n, forms_in_n}
use Rattle.form_rings.specs.OneVariableLeads.{whole_lead, zero_lead}
use Rattle.form_rings.specs.OneVariableProducts.{product_lead}

part_is_in : (u v : ℤ) → IsTrue ((level 1).passes (part_in_n u v))
part_is_in u v =
    let list : List (Passing whole_algebra) = (number v, refl) ∷ (number u, refl) ∷ [] in
    trimmed_passes whole_algebra whole_laws.closed list (trimmed whole_algebra.ops (number v ∷ number u ∷ []))
    (meanings-trimmed whole_algebra whole_laws.closed list)

plain : (u n : ℤ) → u +ℤ n *ℤ pos 0 ≡ u
plain u n = omega (arith, ints, *ℤ-zero n)

value_of_part : (n x u w v : ℤ) → w ≡ pos 0 → value_at (n ∷ []) (part_in_n u v) ≡ u *ℤ n +ℤ w *ℤ x +ℤ v
value_of_part n x u w v e =
    of_list whole_algebra.ops number_of whole_keeps n (number v ∷ number u ∷ [])
    ∙ omega (arith, ints, *ℤ-zero n, *ℤ_comm n u, ap (λ z. n *ℤ z) (plain u n), ap (λ z. z *ℤ x) e, zero-*ℤ x)

sum_of_parts : (u v s c : ℤ) → part_in_n (u +ℤ s) (v +ℤ c) ≡ (level 1).ops.sum (part_in_n u v) (part_in_n s c)
sum_of_parts u v s c =
    ap (λ (t : Passing (level 1)). t.0)
    (same_values 1 (part_in_n (u +ℤ s) (v +ℤ c), part_is_in (u +ℤ s) (v +ℤ c)) (
      (level 1).ops.sum (part_in_n u v) (part_in_n s c),
      (poly_closed whole_algebra whole_laws.closed).sum (part_in_n u v, part_is_in u v) (part_in_n s c, part_is_in s c),
    )
    at)
  where
    at : (point : List ℤ) → length point ≡ 1
        → value_at point (part_in_n (u +ℤ s) (v +ℤ c)) ≡ value_at point ((level 1).ops.sum (part_in_n u v) (part_in_n s c))
    at [] e = absurd (omega arith)
    at (n ∷ m ∷ rest) e = absurd (omega arith)
    at (n ∷ []) e =
        let parts = (value_at_keeps (n ∷ [])).sum (part_in_n u v) (part_in_n s c) in
        let whole = value_of_part n (pos 0) (u +ℤ s) (pos 0) (v +ℤ c) refl in
        let left = value_of_part n (pos 0) u (pos 0) v refl in
        let right = value_of_part n (pos 0) s (pos 0) c refl in
        omega (arith, ints, parts, whole, left, right, *ℤ_comm n (u +ℤ s), *ℤ_comm n u, *ℤ_comm n s, *ℤ_distrib n u s)

whole_part : (w : ℤ) → part_in_n (pos 0) w ≡ (level 1).ops.whole w
whole_part w = refl

-- the polynomials in n keep the laws of such a ring
pub laws_in_n : FormLaws (level 1) forms_in_n
laws_in_n = record {
  value_whole = λ n x w. (value_at_keeps (n ∷ [])).whole w;
  value_sum = λ n x f g. (value_at_keeps (n ∷ [])).sum f.0 g.0;
  value_product = λ n x f g. (value_at_keeps (n ∷ [])).product f.0 g.0;
  part_passes = λ u w v. part_is_in u v;
  part_value = λ n x u w v h. value_of_part n x u w v (h (λ t. cc));
  part_sum = λ u w v s t c h k. sum_of_parts u v s c;
  part_whole = whole_part;
  of_n_passes = λ f. f.1;
  of_n_sum = λ f g. refl;
  of_n_product = λ f g. refl;
  of_n_whole = λ w. refl;
  of_n_variable = refl;
  lead_whole = whole_lead;
  lead_product = product_lead;
  lead_zero = zero_lead;
}

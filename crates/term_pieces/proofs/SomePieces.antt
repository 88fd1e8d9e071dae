-- There is a list for each product of forms, and so a term has pieces at each order.
use Rattle.std.proofs.Common.{◌≡◌, ◌≢◌, ℕ, zero, suc, ◌<◌, Bool, true, false, List, [], ◌∷◌, refl, ap, sym, subst, arith, inl, inr}
use Rattle.std.specs.Prelude.{ℤ, ◌+◌, ◌*ℤ◌, cond, map, length}
use Rattle.hypergeometric.specs.LinearForm.{LinearForm, Factor, FactorList}
use Rattle.hypergeometric.specs.ProperTerm.{ProperTerm}
use Rattle.hypergeometric.specs.FactorLists.{same_form}
use Rattle.hypergeometric.specs.PrimitiveForm.{primitive_form}
use Rattle.hypergeometric.proofs.Lookups.{same_form_found}
use Rattle.term_pieces.specs.Products.{power_among, contents_of, IsProductOf}
use Rattle.term_pieces.specs.Pieces.{Top, Pieces, top_in, ArePiecesOf, top_number, top_forms, q_forms, r_forms, poly_at_later_n, carrier_of}
use Rattle.term_pieces.proofs.PowerLists.{powers_listed, IsAmong, listed_some, listed_sorted, listed_power}

abbrev primitives : List Factor → List LinearForm
primitives xs = map (λ x. primitive_form x.form) xs

primitive_among : (f : LinearForm) (xs : List Factor) → power_among f xs ≢ 0 → IsAmong f (primitives xs)
primitive_among f [] some = absurd (some refl)
primitive_among f (x ∷ xs) some = by (same_form f (primitive_form x.form)) refl some (primitive_among f xs)
  where
    by : (b : Bool) → same_form f (primitive_form x.form) ≡ b → cond b x.power 0 + power_among f xs ≢ 0
        → (power_among f xs ≢ 0 → IsAmong f (primitives xs)) → IsAmong f (primitives (x ∷ xs))
    by true e has rest = inl (same_form_found f (primitive_form x.form) e)
    by false e has rest = inr (rest (λ z. has (omega (arith, z))))

-- the product of a number and of forms
abbrev pub product_list : ℤ → List Factor → FactorList
product_list number forms = record {
  scale = number *ℤ contents_of forms;
  factors = powers_listed (λ f. power_among f forms) (primitives forms);
}

pub is_product : (number : ℤ) (forms : List Factor) → IsProductOf (product_list number forms) number forms
is_product number forms = record {
  scale = refl;
  sorted = listed_sorted (λ f. power_among f forms) (primitives forms);
  some = listed_some (λ f. power_among f forms) (primitives forms);
  powers = λ f. listed_power (λ g. power_among g forms) f (primitives forms) (primitive_among f forms);
}

pub some_product : (number : ℤ) (forms : List Factor) → (l : FactorList) × IsProductOf l number forms
some_product number forms = (product_list number forms, is_product number forms)

abbrev tops_from : (ℕ → Top) → ℕ → List Top
tops_from g zero = []
tops_from g (suc count) = g 0 ∷ tops_from (λ j. g (suc j)) count

tops_counted : (g : ℕ → Top) (count : ℕ) → length (tops_from g count) ≡ count
tops_counted g zero = refl
tops_counted g (suc count) = ap suc (tops_counted (λ j. g (suc j)) count)

tops_found : (g : ℕ → Top) (count j : ℕ) → j < count → top_in (tops_from g count) j ≡ g j
tops_found g zero j l = absurd (omega (arith, l))
tops_found g (suc count) zero l = refl
tops_found g (suc count) (suc j) l = tops_found (λ i. g (suc i)) count j (omega (arith, l))

abbrev top_of : ProperTerm → ℕ → ℕ → Top
top_of f order j = record { poly = poly_at_later_n f.poly j; factors = product_list (top_number f order j) (top_forms f order j) }

abbrev pub pieces_of : ProperTerm → ℕ → Pieces
pieces_of f order = record {
  tops = tops_from (top_of f order) (suc order);
  q0 = product_list f.k_base.top (q_forms f order);
  r0 = product_list f.k_base.bottom (r_forms f order);
  carrier = carrier_of f order;
}

pub some_pieces : (f : ProperTerm) (order : ℕ) → (pieces : Pieces) × ArePiecesOf pieces f order
some_pieces f order = (
  pieces_of f order,
  record {
    count = tops_counted (top_of f order) (suc order);
    poly = λ j l. ap (λ (t : Top). t.poly) (tops_found (top_of f order) (suc order) j (omega (arith, l)));
    factors = λ j l. subst (λ (t : Top). IsProductOf t.factors (top_number f order j) (top_forms f order j))
        (sym (tops_found (top_of f order) (suc order) j (omega (arith, l)))) (is_product (top_number f order j) (top_forms f order j));
    q0 = is_product f.k_base.top (q_forms f order);
    r0 = is_product f.k_base.bottom (r_forms f order);
    carrier = refl;
  },
)

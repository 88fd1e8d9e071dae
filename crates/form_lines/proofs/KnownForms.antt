-- Texts of forms, lists and matches as known, and what has none.
use Rattle.std.specs.Prelude.{◌≡◌, ◌^◌, pos, negsuc, codes, refl, [], ◌∷◌}
use Rattle.std.specs.Fmt.{digits}
use Rattle.std.proofs.Common.{arith, inl, inr}
use Rattle.hypergeometric.specs.FormOrder.{IsBefore}
use Rattle.std.proofs.lemmas.Int.{ints}
use Rattle.hypergeometric.specs.Forms.{form_with}
use Rattle.hypergeometric.specs.FactorLists.{factor_with}
use Rattle.document_text.specs.TermText.{form_text}
use Rattle.form_lines.specs.Forms.{forms, forms_in_x}
use Rattle.form_lines.specs.Factors.{factors, primitive_factors, factor_lists}
use Rattle.form_lines.specs.Matches.{matches}

-- k before n before x before the number
known_form : forms.text (form_with (negsuc 0) (pos 2) (pos 7)) ≡ codes "2*k-n+7"
unfolding digits
known_form = refl

known_zero : forms.text (form_with (pos 0) (pos 0) (pos 0)) ≡ codes "0"
unfolding digits
known_zero = refl

known_form_in_x : forms_in_x.text (record { n_slope = pos 1; k_slope = pos 1; x_slope = negsuc 1; offset = negsuc 2 }) ≡ codes "k+n-2*x-3"
unfolding digits
known_form_in_x = refl

-- the text of the form in documents
same_text : forms.text (form_with (negsuc 0) (pos 2) (pos 7)) ≡ form_text (form_with (negsuc 0) (pos 2) (pos 7))
unfolding form_text digits
same_text = refl

known_factors : factors.text (record {
  scale = pos 1;
  factors = factor_with (form_with (pos 1) (pos 0) (pos 0)) 1 ∷ factor_with (form_with (pos 0) (pos 1) (pos 1)) 2 ∷ [];
}) ≡ codes "n, k+1 x2"
unfolding digits
known_factors = refl

known_list : factor_lists.text (record { scale = negsuc 5; factors = [] }) ≡ codes "-6; -"
unfolding digits
known_list = refl

known_match : matches.text (record { form = form_with (pos 0) (pos 2) (pos 4); shift = 3; power = 2 }) ≡ codes "2*k+4 by 3 x2"
unfolding digits
known_match = refl

-- no form has the slope 65, no list the scale 0, no match the shift 2^64
wide_form : ¬ forms.Has (form_with (pos 0) (pos 65) (pos 0))
wide_form has = omega (arith, has.k_slope)

scale_of_nought : ¬ factor_lists.Has (record { scale = pos 0; factors = [] })
scale_of_nought has = has.not_zero refl

far_match : ¬ matches.Has (record { form = form_with (pos 0) (pos 1) (pos 0); shift = 2 ^ 64; power = 1 })
far_match has = omega (arith, has.shift)

-- k+1 in front of k isn't in order
wrong_order : ¬ primitive_factors.Has (record {
  scale = pos 1;
  factors = factor_with (form_with (pos 0) (pos 1) (pos 1)) 1 ∷ factor_with (form_with (pos 0) (pos 1) (pos 0)) 1 ∷ [];
})
wrong_order has = by has.1.sorted.0.0
  where
    by : IsBefore (form_with (pos 0) (pos 1) (pos 1)) (form_with (pos 0) (pos 1) (pos 0)) → ⊥
    by (inl a) = omega (arith, ints, a)
    by (inr (inl a)) = omega (arith, ints, a.1)
    by (inr (inr a)) = omega (arith, ints, a.2)

-- Known values: forms that stand for whole numbers are divided out of 12, and of 0.
use Rattle.std.specs.Prelude.{◌≡◌, pos, ◌*ℤ◌, [], ◌∷◌, refl}
use Rattle.std.proofs.Common.{ap, arith, inl, inr}
use Rattle.std.proofs.lemmas.Int.{ints}
use Rattle.ring_laws.specs.Meaning.{Meaning, number}
use Rattle.ring_laws.specs.Wholes.{number_of, whole_algebra}
use Rattle.kernel_laws.specs.RowSteps.{HasQuotient}
use Rattle.hypergeometric.specs.LinearForm.{LinearForm}
use Rattle.hypergeometric.specs.Forms.{form_with}
use Rattle.hypergeometric.specs.FactorLists.{factor_with}
use Rattle.key_equation.specs.Cancelling.{all_done, next_form, LeavesInOrder, of_zero, of_nonzero}

-- each form as its offset
abbrev as_number : LinearForm → Meaning
as_number f = number f.offset

two : LinearForm
two = form_with (pos 0) (pos 0) (pos 2)

three : LinearForm
three = form_with (pos 0) (pos 0) (pos 3)

two_not_three : ¬ (HasQuotient whole_algebra (number (pos 2)) (number (pos 3)))
two_not_three q = let half : number_of q.quotient.0 *ℤ pos 2 ≡ pos 3 = ap number_of q.is in omega (arith, ints, half)

-- 12 is 3 * 2^2: of two to the third one power stays, and three goes
twelve : LeavesInOrder whole_algebra as_number (factor_with two 3 ∷ factor_with three 1 ∷ []) (number (pos 12)) (number (pos 1))
    (factor_with two 1 ∷ [])
unfolding two three
twelve =
    of_nonzero (λ e. let none : pos 12 ≡ pos 0 = ap number_of e in omega (arith, ints, none))
    (next_form (number (pos 3), refl) 2 (record { within = omega arith; is = refl; most = inr two_not_three })
    (next_form (number (pos 1), refl) 1 (record { within = omega arith; is = refl; most = inl refl }) all_done))

-- of 0 no form stays
zero : LeavesInOrder whole_algebra as_number (factor_with two 3 ∷ []) (number (pos 0)) (number (pos 0)) []
zero = of_zero refl

-- What a fault of the tests says, and the sides as those of the order.
use Rattle.std.specs.Prelude.{◌≡◌, ℕ, suc, List, [], ◌∷◌, map, length, Result, Ok, Err, IfErr, refl}
use Rattle.std.proofs.Common.{ap, sym, ◌∙◌, subst, arith, IsErrAnd}
use Rattle.ring_laws.specs.Meaning.{Meaning}
use Rattle.ring_laws.specs.Algebra.{Algebra}
use Rattle.poly_laws.specs.Values.{level}
use Rattle.steps.specs.declared.faults.StepFault.{StepFault}
use Rattle.steps.specs.declared.faults.StepFault.TheVariants.{Limit, TooLarge, Memory}
use Rattle.steps.specs.declared.limits.LimitName.TheVariants.{Degree}
use Rattle.steps.specs.Operations.{Operation, HasTooLarge}
use Rattle.steps.specs.Steps.{Refusal, limited, after}
use Rattle.steps.specs.Answers.{HasCause}
use Rattle.steps.specs.StepFaults.{step_cause}
use Rattle.hypergeometric.specs.Products.{list_polynomial}
use Rattle.term_pieces.specs.Pieces.{Top, Pieces}
use Rattle.term_pieces.specs.Tops.{top_polynomial}
use Rattle.term_pieces.specs.NormalForm.{Normal}
use Rattle.pole_laws.specs.Orders.{tops_of, sides_of}
use Rattle.gosper_form.specs.PieceSteps.{each_within}
use Rattle.form_rings.specs.Forms.{Forms}
use Rattle.key_sides.specs.Lifted.{lifted}
use Rattle.key_sides.specs.Sides.{OnSideFault}
use Rattle.key_sides.proofs.SideLists.{listed_tops}

-- tests do no operation
no_operations : (counts : List ℕ) → (each_within counts).operations ≡ []
no_operations [] = refl
no_operations (count ∷ counts) = by (no_operations counts) (limited {R = ⊥} Degree count (tt {0}))
  where
    by : (each_within counts).operations ≡ [] → (r : Result (Unit {0}) (Refusal ⊥)) → (after r [] (λ _. each_within counts)).operations ≡ []
    by rest (Ok x) = rest
    by rest (Err r) = refl

none_too_large : (operations : List (Operation (Unit {0}))) → operations ≡ [] → HasTooLarge operations tt → ⊥
none_too_large operations e h = absurd (omega (arith, h.2, ap length e))

on_fault : (counts : List ℕ) (InBounds : Type 0) (fault : StepFault) → HasCause (each_within counts) (step_cause fault) → OnSideFault counts InBounds fault
on_fault counts InBounds (Limit name counted) h = h
on_fault counts InBounds TooLarge h = absurd (none_too_large (each_within counts).operations (no_operations counts) h)
on_fault counts InBounds Memory h = tt

-- a fault of the tests that is passed on
pub tests_fault : {T : Type 0} (counts : List ℕ) (InBounds : Type 0) (r : Result T StepFault) (fault : StepFault) → IsErrAnd r (λ e. e ≡ fault)
    → HasCause (each_within counts) (step_cause fault) → IfErr r (OnSideFault counts InBounds)
tests_fault counts InBounds (Ok x) fault e h = absurd e
tests_fault counts InBounds (Err y) fault e h = subst (OnSideFault counts InBounds) (sym e) (on_fault counts InBounds fault h)

each_side : (a : Algebra) (forms : Forms) (normal : Normal) (tops : List Top)
    → map (λ top. lifted a forms ((level 2).ops.product (list_polynomial normal.g) (top_polynomial top))) tops
    ≡ map (lifted a forms) (sides_of normal (map top_polynomial tops))
each_side a forms normal [] = refl
each_side a forms normal (t ∷ ts) =
    ap (λ xs. lifted a forms ((level 2).ops.product (list_polynomial normal.g) (top_polynomial t)) ∷ xs) (each_side a forms normal ts)

-- the sides are those of the order
pub order_sides : (a : Algebra) (forms : Forms) (normal : Normal) (pieces : Pieces) (found : List Meaning)
    → found ≡ map (λ top. lifted a forms ((level 2).ops.product (list_polynomial normal.g) (top_polynomial top))) pieces.tops
    → (order : ℕ) → length pieces.tops ≡ suc order → found ≡ map (lifted a forms) (sides_of normal (tops_of pieces order))
order_sides a forms normal pieces found e order h =
    e ∙ each_side a forms normal pieces.tops
    ∙ ap (λ ps. map (lifted a forms) (sides_of normal ps)) (sym (listed_tops top_polynomial pieces.tops (suc order) h))

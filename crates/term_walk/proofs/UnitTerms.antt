-- The term 1 by its fields.
use Rattle.std.proofs.Common.{◌≡◌, ℕ, sym}
use Rattle.std.specs.Prelude.{pos, Ok}
use Rattle.ring_laws.specs.Meaning.{Meaning}
use Rattle.poly_laws.specs.TwoVariables.{in_n_and_k}
use Rattle.steps.specs.TermFaults.{Improper}
use Rattle.steps.specs.Steps.{gives}
use Rattle.steps.proofs.StepLaws.{same_Ok}
use Rattle.hypergeometric.specs.Fraction.{Fraction, of_whole}
use Rattle.hypergeometric.specs.ProperTerm.{ProperTerm}
use Rattle.term_classes.specs.Walk.{unit_term, with_poly, with_scale, with_n_base, with_k_base}

-- the term 1 has no factor, the polynomial 1, and the number 1 as scale and bases
pub unit_given : (f : ProperTerm) (p : Meaning) (s b c : Fraction) → (gives {P = ℕ} {R = Improper} unit_term).outcome ≡ Ok f
    → p ≡ in_n_and_k.unit → s ≡ of_whole (pos 1) → b ≡ of_whole (pos 1) → c ≡ of_whole (pos 1)
    → (gives {P = ℕ} {R = Improper} unit_term).outcome ≡ Ok (with_poly p (with_scale s (with_n_base b (with_k_base c f))))
unit_given f p s b c e hp hs hb hc = λ i. Ok (with_poly (sym hp i) (with_scale (sym hs i) (with_n_base (sym hb i) (with_k_base (sym hc i)
    (same_Ok unit_term f e i)))))

-- The scale of a carrier, and how often its forms stand there in all.
use Rattle.std.proofs.Common.{◌≡◌, ◌≢◌, ℕ, ◌+◌, ◌*◌, ◌≤◌, [], ap, sym, subst, arith}
use Rattle.std.proofs.lemmas.Int.{ints}
use Rattle.std.specs.Prelude.{ℤ, pos, neg_ℤ, ◌*ℤ◌, ◌<ℤ◌}
use lib.IntN.{pow}
use Rattle.hypergeometric.specs.Fraction.{Fraction}
use Rattle.hypergeometric.specs.ProperTerm.{ProperTerm}
use Rattle.hypergeometric.specs.TermFacts.{IsNumber, IsLowest, IsProper, IsPlain, total_power}
use Rattle.hypergeometric.proofs.FractionLaws.{product_not_zero, pow_not_zero}
use Rattle.hypergeometric.proofs.ReducedFractions.{IsReduced, reduced_lowest, lowest_reduced}
use Rattle.term_pieces.specs.ItemForms.{negative_part, positive_part, from_each, kept_over}
use Rattle.term_pieces.specs.Pieces.{carrier_of}
use Rattle.gosper_form.proofs.CarrierForms.{moved_total}
use Rattle.gosper_form.proofs.GatheredForms.{gathered_total}
use Rattle.gosper_form.proofs.ShareTotals.{all_kept_total}

positive : (b : ℤ) → pos 0 <ℤ b → b ≢ pos 0
positive b h z = omega (arith, ints, h, z)

pub carrier_scale_lowest : (f : ProperTerm) (order : ℕ) (s : Fraction) → IsProper f → s ≡ (carrier_of f order).scale → IsNumber s.top → IsNumber s.bottom
    → IsLowest s
carrier_scale_lowest f order s proper e top bottom = reduced_lowest s (subst IsReduced (sym e) (lowest_reduced _ (record {
  top = product_not_zero f.scale.top f.k_base.bottom proper.scale.not_zero (positive f.k_base.bottom proper.k_base.positive);
  bottom = product_not_zero f.scale.bottom (pow f.n_base.bottom order) (positive f.scale.bottom proper.scale.positive)
      (pow_not_zero f.n_base.bottom order (positive f.n_base.bottom proper.n_base.positive));
}))) top bottom

-- at most 7 times as often as in a plain term
pub carrier_total : (f k : ProperTerm) (order : ℕ) → order ≤ 6 → IsPlain f → k ≡ carrier_of f order
    → total_power k.up + total_power k.down + total_power k.over ≤ 168
carrier_total f k order low plain e =
    let up = moved_total (λ s. negative_part s *ℤ pos order) (λ s. neg_ℤ (negative_part s)) f.up in
    let down = moved_total (λ s. positive_part s *ℤ pos order) (λ s. neg_ℤ (positive_part s)) f.down in
    let over = gathered_total [] (from_each (kept_over order) f.over) in
    let kept = all_kept_total order f.over low in
    let same = ap (λ (g : ProperTerm). total_power g.up + total_power g.down + total_power g.over) e in
    omega (arith, same, up, down, over, kept, plain.few)

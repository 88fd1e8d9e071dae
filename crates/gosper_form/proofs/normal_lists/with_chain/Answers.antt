use Rattle.std.proofs.Common.{◌≡◌, ◌≤◌, ◌<◌, ◌^◌, ◌+◌, ℕ, ap, sym, ◌∙◌, subst, arith, refl, to_z, of_z, w64}
use Rattle.std.proofs.lemmas.Int.{ints}
use Rattle.std.specs.Prelude.{pos, negsuc, neg_ℤ, ◌+ℤ◌, ◌-ℤ◌, ◌*ℤ◌, unsigned_abs}
use Rattle.hypergeometric.specs.FactorLists.{power_of}
use Rattle.term_pieces.specs.NormalForm.{at_earlier_k, forms_before, power_within}
use Rattle.lin_form.specs.Forms.{form_of}
use Rattle.lin_form.specs.ListOf.{list_of}
use Rattle.gosper_form.proofs.NormalChains.{chain_form, chain_step, chain_room}
use Rattle.gosper_form.proofs.normal_lists.with_chain.Goals as goal

pub loop-step-init : goal.loop-step-init
loop-step-init c = record { scale = refl; powers = λ f. omega arith }

-- the number of the code is the shift
by_is : (step : ℕ) → step < 2 ^ 32 → to_z w64 (of_z w64 (negsuc 0 -ℤ to_z w64 step)) ≡ neg_ℤ (pos (step + 1))
by_is step l = omega (arith, ints, l)

pub shift_k-form-requires : goal.shift_k-form-requires
shift_k-form-requires c =
    let s = form_of c.args.entry.now.form in
    let i = c.loop-step.step in
    record {
      in_bounds = subst (λ z. unsigned_abs (s.offset +ℤ s.k_slope *ℤ z) ≤ 2 ^ 40)
          (sym (by_is i (omega (arith, c.loop-step-test.true, c.requires.short))))
          (c.requires.within (i + 1) (omega (arith, c.loop-step-test.true))).offset;
    }

pub multiply-requires-clause-fits : goal.multiply-requires-clause-fits
multiply-requires-clause-fits c =
    let f = form_of c.shift_k-form.result in
    chain_room f (form_of c.args.entry.now.form) c.loop-step.step c.args.length c.args.entry.now.power (list_of c.loop-step.product).factors
    (list_of c.args.product).factors c.loop-step-test.true (c.loop-step.invariant.powers f) (c.requires.fits f)

pub loop-step-preserved : goal.loop-step-preserved
loop-step-preserved c =
    let s = form_of c.args.entry.now.form in
    let g = form_of c.shift_k-form.result in
    let i = c.loop-step.step in
    let is : g ≡ at_earlier_k s (i + 1) = chain_form s g _ i c.shift_k-form.ensures.slopes c.shift_k-form.ensures.offset
    (by_is i (omega (arith, c.loop-step-test.true, c.requires.short))) in
    record {
      scale = c.in_ok-multiply.ensures.scale ∙ c.loop-step.invariant.scale;
      powers = λ f.
          ap (power_of f) c.in_ok-multiply.ensures.factors
          ∙ chain_step f s g i c.args.entry.now.power (list_of c.loop-step.product).factors (list_of c.args.product).factors is
          (c.loop-step.invariant.powers f);
    }

pub returns-clause-powers : goal.returns-clause-powers
returns-clause-powers c = λ f.
    let last : c.loop-step.step ≡ c.args.length = omega (arith, c.loop-step.auto.step-end, c.loop-step-test.false) in
    c.loop-step.invariant.powers f
    ∙ ap (λ i. power_of f (list_of c.args.product).factors
    + power_within f (forms_before (form_of c.args.entry.now.form) i c.args.entry.now.power)) last

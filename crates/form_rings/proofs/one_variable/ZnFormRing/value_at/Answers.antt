use Rattle.std.proofs.Common.{map}
use Rattle.ring_laws.specs.Meaning.{number, listed, items}
use Rattle.ring_laws.specs.Wholes.{whole_algebra}
use Rattle.poly_laws.specs.Evaluation.{ValueInBounds}
use Rattle.form_rings.proofs.WholeValues.{value_given}
use Rattle.form_rings.proofs.one_variable.ZnFormRing.value_at.Goals as goal

pub returns : goal.returns
returns c = record {
  gives =
      let ms = items (listed (map (λ w. number w.value) c.args.self.now.list.items)) in
      value_given c.args.n.value ms (ValueInBounds whole_algebra (number c.args.n.value) ms) c.eval.result c.eval.ensures.gives;
}

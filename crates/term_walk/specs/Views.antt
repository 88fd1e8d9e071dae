-- What the values of a walk stand for.
use Rattle.std.specs.Prelude.{[]}
use Rattle.ring_laws.specs.Meaning.{number, listed}
use Rattle.poly_fraction.specs.FractionOf.{fraction_of}
use Rattle.hypergeometric.specs.LinearForm.{LinearForm}
use Rattle.hypergeometric.specs.ProperTerm.{ProperTerm}
use Rattle.hypergeometric.specs.Forms.{form_with}
use Rattle.lin_form.specs.ListOf.{list_of}
use Rattle.lin_form.proofs.Items.{each_of}
use Rattle.term_classes.specs.Walk.{with_lists}
use Rattle.proper_term.specs.Fields.{number_fraction_of}
use Rattle.term_walk.specs.declared.factors.Factors.{Factors}
use Rattle.term_walk.specs.declared.gathered.Gathered.{Gathered}
use Rattle.term_walk.specs.declared.wide_forms.WideForm.{WideForm}

-- the linear form that a form with numbers of 127 bits stands for
abbrev pub wide_form_of : WideForm → LinearForm
wide_form_of form = form_with form.n_slope.value form.k_slope.value form.offset.value

-- a term with other factorials and denominators
abbrev pub with_factors : ProperTerm → Factors → ProperTerm
with_factors f factors = with_lists (list_of factors.up).factors (list_of factors.down).factors (list_of factors.over).factors f.guard f

-- the term of what was gathered, with no guard
abbrev pub gathered_of : Gathered → ProperTerm
gathered_of g = record {
  poly = listed (each_of g.poly.list.items (λ coefficient. listed (each_of coefficient.list.items (λ whole. number whole.value))));
  scale = number_fraction_of (fraction_of g.scale);
  n_base = number_fraction_of (fraction_of g.n_base);
  k_base = number_fraction_of (fraction_of g.k_base);
  up = (list_of g.factors.up).factors;
  down = (list_of g.factors.down).factors;
  over = (list_of g.factors.over).factors;
  guard = [];
}

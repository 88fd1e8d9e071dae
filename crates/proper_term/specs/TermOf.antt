-- What a term of the code stands for.
use Rattle.ring_laws.specs.Meaning.{number, listed}
use Rattle.poly_fraction.specs.FractionOf.{fraction_of}
use Rattle.hypergeometric.specs.ProperTerm.{ProperTerm}
use Rattle.lin_form.specs.ListOf.{list_of}
use Rattle.lin_form.proofs.Items.{each_of}
use Rattle.proper_term.specs.Fields.{term_with, number_fraction_of}
use Rattle.proper_term.specs.declared.proper.Proper.{Proper}

-- the term of its fields, the polynomial as the list of its coefficients
abbrev pub term_of : Proper → ProperTerm
term_of term =
    term_with (listed (each_of term.poly.list.items (λ coefficient. listed (each_of coefficient.list.items (λ whole. number whole.value)))))
    (number_fraction_of (fraction_of term.scale)) (number_fraction_of (fraction_of term.n_base)) (number_fraction_of (fraction_of term.k_base))
    (list_of term.up) (list_of term.down) (list_of term.over) (list_of term.guard)

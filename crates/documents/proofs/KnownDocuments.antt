-- Documents that are known to be well formed, and some that aren't, each by one past its bound. So the laws on well-formed documents speak of
-- something.
use Rattle.std.specs.Prelude.{ℕ, ◌<◌, pos, List, [], ◌∷◌, None}
use Rattle.std.proofs.Common.{refl, arith}
use Rattle.std.proofs.lemmas.Int.{ints}
use Rattle.hypergeometric.specs.PlainTerm.{unit_list}
use Rattle.document_text.specs.WellFormed.{ArePrimitiveFactors, IsFactorList}
use Rattle.documents.specs.Documents.{Form, Found, Evidence, unsought, at_number, Empty, Claim, found, empty, Command, gosper, zeil, wz, of_term, Document}
use Rattle.documents.specs.WellFormed.{IsWrittenForm, IsFound, IsEvidence, ends, runs_out, goes_on, IsWellFormed}
use Rattle.documents.specs.declared.documents.Version.TheVariants.{One}
use Rattle.documents.proofs.OneTerm.{one_in_n, one_in_n_k, one_term, one_fits, one_is_polynomial, one_is_proper, one_is_plain}

no_primitive_factors : ArePrimitiveFactors []
no_primitive_factors = record { each = tt; primitive = tt; sorted = tt }

one_is_list : IsFactorList unit_list
one_is_list = record { scale = omega arith; not_zero = λ e. cc; factors = no_primitive_factors }

abbrev bare : Form
bare = record { matches = []; q = unit_list; r = unit_list }

bare_is_form : IsWrittenForm bare
bare_is_form = record { matches = tt; q = one_is_list; r = one_is_list }

-- a recurrence and an empty order, with nothing but ones
abbrev some_found : ℕ → Found
some_found order = record {
  order = order;
  form = bare;
  multipliers = one_in_n ∷ [];
  carrier = one_term;
  y = one_in_n_k;
  poles = unit_list;
  ratio_top = unit_list;
  ratio_bottom = unit_list;
  range = None;
}

abbrev some_empty : ℕ → Evidence → Empty
some_empty order evidence = record { order = order; form = bare; evidence = evidence }

found_is_written : (order : ℕ) → order < 7 → IsFound One (some_found order)
found_is_written order h = record {
  order = omega (arith, h);
  form = bare_is_form;
  some_multiplier = λ e. cc;
  multipliers = (record { passes = refl; fits = one_fits }, tt);
  carrier = record { proper = one_is_proper; few = omega arith };
  y = one_is_polynomial;
  poles_scale = refl;
  poles = no_primitive_factors;
  ratio_top = one_is_list;
  ratio_bottom = one_is_list;
  range = tt;
}

abbrev document_with : Command → List Claim → Document
document_with command claims = record { command = command; subject = of_term one_term; claims = claims }

-- gosper with a recurrence, zeil with an order that is empty and the next that isn't, and with empty orders alone
of_gosper : IsWellFormed One (document_with gosper (found (some_found 0) ∷ []))
of_gosper = record { subject = one_is_plain; claims = ends refl (found_is_written 0 (omega arith)) }

of_zeil : IsWellFormed One (document_with (zeil 4) (empty (some_empty 0 unsought) ∷ found (some_found 1) ∷ []))
of_zeil = record {
  subject = one_is_plain;
  claims = (
    omega arith,
    goes_on refl (record { order = omega arith; form = bare_is_form; evidence = tt }) (ends refl (found_is_written 1 (omega arith))),
  );
}

of_empty_zeil : IsWellFormed One (document_with (zeil 0) (empty (some_empty 0 (at_number 255)) ∷ []))
of_empty_zeil = record {
  subject = one_is_plain;
  claims = (omega arith, runs_out refl (record { order = omega arith; form = bare_is_form; evidence = omega arith }));
}

-- no document of a pair yet, no order 7, no number 256 to show an order empty, and no pole with another scale
no_pair_yet : (claims : List Claim) → ¬ (IsWellFormed One (document_with wz claims))
no_pair_yet claims h = h.claims

order_out : ¬ (IsFound One (some_found 7))
order_out h = omega (arith, h.order)

number_out : ¬ (IsEvidence (at_number 256))
number_out h = omega (arith, h)

scale_out : ¬ (IsFound One (record (some_found 0) { poles = record { scale = pos 2; factors = [] } }))
scale_out h = absurd (omega (arith, ints, h.poles_scale))

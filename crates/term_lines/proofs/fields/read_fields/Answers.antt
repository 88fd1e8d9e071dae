use Rattle.std.specs.Prelude.{codes}
use Rattle.std.proofs.Common.{refl}
use Rattle.term_lines.specs.FieldLaws.{poly_without, fraction_without}
use Rattle.term_lines.proofs.fields.read_fields.Goals as goal

pub invariant_of-read-2 : goal.invariant_of-read-2
invariant_of-read-2 c = record { without = fraction_without (codes "kbase ") refl }

pub invariant_of-read-5 : goal.invariant_of-read-5
invariant_of-read-5 c = record { without = poly_without }

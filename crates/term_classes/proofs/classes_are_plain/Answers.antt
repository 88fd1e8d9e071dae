use Rattle.term_classes.proofs.PlainClasses.{class_is_plain, class_of_quotient_is_plain}
use Rattle.term_classes.proofs.classes_are_plain.Goals as goal

pub returns : goal.returns
returns c = record { tree = class_is_plain; quotient = class_of_quotient_is_plain }

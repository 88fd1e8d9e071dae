use Rattle.term_classes.proofs.ClassesHaveValues.{class_has_the_value, class_of_quotient_has_the_value}
use Rattle.term_classes.proofs.classes_have_the_values.Goals as goal

pub returns : goal.returns
returns c = record { tree = class_has_the_value; quotient = class_of_quotient_has_the_value }

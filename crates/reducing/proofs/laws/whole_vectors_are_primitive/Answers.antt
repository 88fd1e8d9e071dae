use Rattle.reducing.proofs.WholeVectors.{primitive_vector, primitive_basis}
use Rattle.reducing.proofs.laws.whole_vectors_are_primitive.Goals as goal

pub returns : goal.returns
returns c = record { vector = primitive_vector; basis = primitive_basis }

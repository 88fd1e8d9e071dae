-- A ring by its laws, as a ring whose identities the solver proves.
use Rattle.std.proofs.Common.{ap, sym, ◌∙◌, List, pos}
use Rattle.ring_laws.specs.Algebra.{Ops, RingLaws}
use Rattle.ring_solver.specs.Rings.{CommRing}
use Rattle.ring_solver.proofs.Read.{Reads}
use Rattle.ring_solver.proofs.Solve.{con}

abbrev pub solvable : {A : Type 0} (o : Ops A) → RingLaws o → CommRing
solvable {A} o l = record {
  carrier = A;
  add = o.sum;
  mul = o.product;
  neg = o.neg;
  int = o.whole;
  add_assoc = l.sum_assoc;
  add_comm = l.sum_comm;
  add_zero = λ a. ap (o.sum a) l.whole_zero ∙ l.sum_comm a o.nought ∙ l.nought_sum a;
  add_neg = λ a. l.sum_neg a ∙ sym l.whole_zero;
  mul_assoc = l.product_assoc;
  mul_comm = l.product_comm;
  mul_one = λ a. ap (o.product a) l.whole_one ∙ l.product_comm a o.unit ∙ l.unit_product a;
  distrib = l.distributes;
  int_add = l.whole_sum;
  int_mul = l.whole_product;
}

abbrev pub read_nought : {A : Type 0} (o : Ops A) (l : RingLaws o) (xs : List A) → Reads (solvable o l) xs o.nought
read_nought o l xs = record { expr = con (pos 0); is = l.whole_zero }

abbrev pub read_unit : {A : Type 0} (o : Ops A) (l : RingLaws o) (xs : List A) → Reads (solvable o l) xs o.unit
read_unit o l xs = record { expr = con (pos 1); is = l.whole_one }

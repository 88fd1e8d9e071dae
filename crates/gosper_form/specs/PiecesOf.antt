-- What pieces of the code stand for.
use Rattle.std.specs.Prelude.{List, map}
use Rattle.ring_laws.specs.Meaning.{number, listed}
use Rattle.lin_form.specs.ListOf.{list_of}
use Rattle.lin_form.proofs.Items.{each_of}
use Rattle.proper_term.specs.TermOf.{term_of}
use Rattle.term_pieces.specs.Pieces.{Top, Pieces}
use Rattle.gosper_form.specs.declared.tops.Top.{Top as TopOfCode}
use Rattle.gosper_form.specs.declared.pieces.Pieces.{Pieces as PiecesOfCode}

-- the numerator that one of the code stands for
abbrev pub top_of : TopOfCode → Top
top_of top = record {
  poly = listed (each_of top.poly.list.items (λ coefficient. listed (each_of coefficient.list.items (λ whole. number whole.value))));
  factors = list_of top.factors;
}

-- the pieces that those of the code stand for
abbrev pub pieces_held : PiecesOfCode → Pieces
pieces_held pieces = record {
  tops = each_of pieces.tops.items top_of;
  q0 = list_of pieces.q0;
  r0 = list_of pieces.r0;
  carrier = term_of pieces.carrier;
}

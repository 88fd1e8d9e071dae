use Rattle.gosper_form.specs.PiecesOf.{top_of}
use Rattle.gosper_form.proofs.TopLists.{top_given}
use Rattle.gosper_form.proofs.pieces.Pieces.top.Goals as goal

pub returns : goal.returns
returns c = record {
  top = top_given top_of c.deref.result.now c.args.self.now.tops.items c.deref.ensures.value _ c.args.j c.get.result c.get.ensures.lookup.3
      c.get.ensures.lookup.1;
}

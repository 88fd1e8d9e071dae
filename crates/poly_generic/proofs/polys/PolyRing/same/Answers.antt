use Rattle.std.proofs.Common.{map, ◌≡◌, ◌↔◌, IsTrue}
use Rattle.poly_generic.proofs.PolyAnswers.{two, same_iff}
use Rattle.poly_generic.proofs.polys.PolyRing.same.Goals as goal

pub returns : goal.returns
returns g c =
    record {
      test =
          same_iff c.same_lists.result (map g.R.Ring.meaning c.args.self.now.list.items) (map g.R.Ring.meaning c.args.other.now.list.items)
          (two (λ s t. IsTrue c.same_lists.result
          ↔ (map g.R.Ring.meaning s ≡ map g.R.Ring.meaning t)) _ _ _ _ c.deref.ensures.value c.deref-2.ensures.value c.same_lists.ensures);
    }

use Rattle.std.proofs.Common.{◌≡◌, map, length, vec_len, nat_eq, ap, sym, ◌∙◌, arith}
use Rattle.std.proofs.lemmas.List.{length-map}
use Rattle.poly_generic.proofs.PolyAnswers.{empty_is, same_truth}
use Rattle.poly_generic.proofs.polys.PolyRing.is_zero.Goals as goal

pub returns : goal.returns
returns g c =
    let n : vec_len c.args.self.now.list ≡ length (map g.R.Ring.meaning c.args.self.now.list.items) =
    omega (arith, length-map c.args.self.now.list.items g.R.Ring.meaning) in
    record {
      test =
          same_truth _ _ (c.is_empty.ensures ∙ ap (λ k. nat_eq k 0) n ∙ sym (empty_is (map g.R.Ring.meaning c.args.self.now.list.items)));
    }

use Rattle.std.proofs.Common.{◌≡◌, ◌+◌, ◌-◌, map, drop, subst, arith}
use Rattle.ring_laws.specs.Meaning.{number, listed}
use Rattle.poly_divide.specs.Content.{row_sizes, IsContent}
use Rattle.poly_divide.proofs.Contents.{row_step, row_seen}
use Rattle.poly_divide.proofs.content.whole_content.Goals as goal

-- the polynomial at the place comes in front
pub loop-at-preserved : goal.loop-at-preserved
loop-at-preserved c =
    let n : c.loop-at.at ≡ c.loop-at.at - 1 + 1 = omega (arith, c.loop-at-test.true) in
    record {
      within = omega (arith, c.loop-at.invariant.within);
      made =
          row_step (λ f. listed (map (λ w. number w.value) f.list.items)) c.args.row.now
          (c.loop-at.at - 1) c.index-row-at.result c.content_of.result c.loop-at.content
          c.gcd_whole-content.result (omega (arith, c.loop-at.invariant.within, c.loop-at-test.true)) c.index-row-at.is c.content_of.ensures
          (subst (λ k. IsContent
          (row_sizes (map (λ f. listed (map (λ w. number w.value) f.list.items))
          (drop k c.args.row.now))) c.loop-at.content) n c.loop-at.invariant.made)
          c.gcd_whole-content.ensures.greatest;
    }

-- a content of 1 stays
pub returns-else-content-ne1 : goal.returns-else-content-ne1
returns-else-content-ne1 c = record {
  content =
      row_seen (λ f. listed (map (λ w. number w.value) f.list.items)) c.args.row.now c.loop-at.at c.loop-at.content
      (omega (arith, c.if-content-ne1.false)) c.loop-at.invariant.made;
}

use Rattle.whole_roots.proofs.Faults.{ok_gives}
use Rattle.whole_roots.proofs.RootBounds.{are_roots}
use Rattle.whole_roots.proofs.roots.whole_roots.Goals as goal

-- the roots of 127 bits are all
pub returns-clause-roots : goal.returns-clause-roots
returns-clause-roots c =
    ok_gives c.roots_from.result (λ roots h. are_roots c.args.f.now.list.items roots.items c.args.f.now.ended c.requires.not_zero h)
    c.roots_from.ensures.roots

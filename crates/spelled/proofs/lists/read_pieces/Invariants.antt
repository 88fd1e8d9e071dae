use Rattle.std.proofs.Common.{◌≡◌, List, ◌++◌, map, drop}
use Rattle.std.specs.List.{AllByRecursion}
use Rattle.spelled.proofs.lists.read_pieces.Given as goal

-- the items so far are those of the pieces so far
abbrev pub invariant-loop-piece : goal.invariant-loop-piece
invariant-loop-piece g l =
    let F = g.S.Spelling.format l.each in
    let values = map g.S.Spelling.value_of l.items.items in
    record {
      has : AllByRecursion F.Has values;
      read : (vs : List g.S.Spelling.Value) → AllByRecursion F.Has vs → map (λ p. p.now) l.pieces ≡ map F.text vs
          → values ++ drop l.piece-index vs ≡ vs;
    }

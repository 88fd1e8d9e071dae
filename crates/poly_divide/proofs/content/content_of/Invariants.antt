use Rattle.std.proofs.Common.{◌≤◌, map, drop, length}
use Rattle.ring_laws.specs.Meaning.{number, listed, items}
use Rattle.poly_divide.specs.Content.{sizes_of, IsContent}
use Rattle.poly_divide.proofs.content.content_of.Given as goal

-- the content of the coefficients from the power on
abbrev pub invariant-loop-power : goal.invariant-loop-power
invariant-loop-power l = record {
  within : l.power ≤ length (items (listed (map (λ w. number w.value) l.f.list.items)));
  made : IsContent (drop l.power (sizes_of (listed (map (λ w. number w.value) l.f.list.items)))) l.content;
}

abbrev pub decreases-loop-power : goal.decreases-loop-power
decreases-loop-power l = l.power

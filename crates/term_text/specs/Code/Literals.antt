-- The number of a literal as the code has it.
use Rattle.std.specs.Prelude.{◌≡◌, ℕ, ◌^◌, Bool, true, false, nat_lt, pos, refl}
use Rattle.std.proofs.Common.{lit<}
use Rattle.std.proofs.lemmas.Bool.{ltb-true}
use Rattle.ring_laws.specs.declared.wholes.Whole.{Whole}

-- 0 stands for a number of 2^127 or more, which no token has
abbrev pub whole_where : (value : ℕ) (is_small : Bool) → nat_lt value (2 ^ 127) ≡ is_small → Whole
whole_where value true small = record { value = pos value; small = ltb-true value (2 ^ 127) small }
whole_where value false large = record { value = pos 0; small = lit< tt }

-- the number of a literal as a whole number of the code
abbrev pub whole_of : ℕ → Whole
whole_of value = whole_where value (nat_lt value (2 ^ 127)) refl

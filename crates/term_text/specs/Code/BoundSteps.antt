-- How a reader of bounds changes with a token.
use Rattle.std.specs.Prelude.{List, [], ◌∷◌, ◌++◌, ℤ, neg_ℤ, Option, Some, None, length, nat_lt, ◌==◌, if◌then◌else◌}
use Rattle.term_text.specs.declared.state.Token.{Token}
use Rattle.term_text.specs.declared.state.Token.TheVariants as token
use Rattle.term_text.specs.declared.bounds.Stage.{Stage}
use Rattle.term_text.specs.declared.bounds.Stage.TheVariants as stage
use Rattle.term_text.specs.declared.bounds.Bounds.{Bounds}

-- the state in which the first bound is to begin
abbrev pub no_bounds : Bounds
no_bounds = record { values = []; stage = stage.Begin }

-- the state behind one more bound
abbrev pub with_bound : List ℤ → ℤ → Bounds
with_bound values value = record { values = values ++ value ∷ []; stage = stage.End }

-- the state behind a comma: a bound may follow where there are fewer than four
abbrev pub next_bound : List ℤ → Option Bounds
next_bound values = if nat_lt (length values) 4 then Some (record { values = values; stage = stage.Begin }) else None

-- the state behind a token, by where in a bound it stands
abbrev pub step_at : Stage → List ℤ → Token → Option Bounds
step_at stage.Begin values (token.Digits w) = Some (with_bound values w.value)
step_at stage.Begin values token.Minus = Some (record { values = values; stage = stage.Minus })
step_at stage.Minus values (token.Digits w) = Some (with_bound values (neg_ℤ w.value))
step_at stage.End values token.Comma = next_bound values
step_at _ values _ = None

-- the state behind a token
abbrev pub step_bounds : Bounds → Token → Option Bounds
step_bounds b t = step_at b.stage b.values t

-- four bounds, where the last one is whole
abbrev pub whole_at : Stage → List ℤ → Option (List ℤ)
whole_at stage.End values = if length values == 4 then Some values else None
whole_at _ values = None

-- all the bounds, where the text may end here
abbrev pub whole_bounds : Bounds → Option (List ℤ)
whole_bounds b = whole_at b.stage b.values

-- The matches and the normal form that values of the code stand for.
use Rattle.std.specs.Prelude.{List, map}
use Rattle.hypergeometric.specs.Match.{Match}
use Rattle.term_pieces.specs.NormalForm.{Normal}
use Rattle.lin_form.specs.Forms.{form_of}
use Rattle.lin_form.specs.ListOf.{list_of}
use Rattle.gosper_form.specs.declared.normal.Match.{Match as MatchOfCode}
use Rattle.gosper_form.specs.declared.normal.Normal.{Normal as NormalOfCode}

-- the match that one of the code stands for
abbrev pub match_of : MatchOfCode → Match
match_of m = record { form = form_of m.form; shift = m.shift; power = m.power }

-- the matches that those of the code stand for
abbrev pub matches_of : List MatchOfCode → List Match
matches_of ms = map match_of ms

-- the normal form that one of the code stands for
abbrev pub normal_of : NormalOfCode → Normal
normal_of normal = record {
  matches = matches_of normal.matches.items;
  q = list_of normal.q;
  r = list_of normal.r;
  g = list_of normal.g;
  poles = list_of normal.poles;
}

-- First bad lines that are known, so that a wrong definition of them does not check.
-- The format is that of two lines, `a ` with a number and then `b ` with a number.
use Rattle.std.specs.Prelude.{◌≡◌, ◌≢◌, ℕ, suc, codes, List, [], ◌∷◌, ◌++◌, get_or, drop}
use Rattle.std.specs.Fmt.{digits}
use Rattle.std.proofs.Common.{refl, ap, sym, subst, arith, lit<, ◌∙◌}
use Rattle.exact_texts.specs.Formats.{Format, line_of, in_turn}
use Rattle.std.proofs.lemmas.Bool.{false≢true}
use Rattle.std.proofs.lemmas.List.{append_cancel_right}
use Rattle.exact_texts.specs.Texts.{Only}
use Rattle.exact_texts.specs.Lines.{StopsAt, AreLineTexts}
use Rattle.exact_texts.specs.FirstBadLine.{newlines, IsFirstBadLine}
use Rattle.exact_texts.specs.Numbers.{naturals}
use Rattle.exact_texts.proofs.Cuts.{among}
use Rattle.exact_texts.proofs.Numerals.{digit_bytes, only_decimal, naturals_within_line}
use Rattle.exact_texts.proofs.Formats.{stops_behind, line_texts_in_turn}
use Rattle.exact_texts.proofs.OneLine.{one_line_texts, stops_at_line}
use Rattle.exact_texts.proofs.FirstBad.{bad_where_stopped, bad_behind}

abbrev two_lines : Format (ℕ × ℕ)
two_lines = in_turn (line_of (codes "a ") naturals) (λ _. line_of (codes "b ") naturals)

two_line_texts : AreLineTexts two_lines
two_line_texts = line_texts_in_turn (line_of (codes "a ") naturals) (λ _. line_of (codes "b ") naturals)
    (one_line_texts naturals (codes "a ") refl naturals_within_line) (λ _ _. one_line_texts naturals (codes "b ") refl naturals_within_line)

-- the first bytes of a text that begins with a line, and of one that begins with this line too, are the same
first_bytes : (b c : ℕ) (xs ys line behind more : List ℕ) → b ∷ xs ≡ line ++ 10 ∷ behind → c ∷ ys ≡ (line ++ 10 ∷ []) ++ more → b ≡ c
first_bytes b c xs ys [] behind more e f = ap (λ t. get_or t 0 0) e ∙ sym (ap (λ t. get_or t 0 0) f)
first_bytes b c xs ys (x ∷ line) behind more e f = ap (λ t. get_or t 0 0) e ∙ sym (ap (λ t. get_or t 0 0) f)

-- no number stands behind an `a ` in the first line
bad_first : IsFirstBadLine two_lines (codes "c 1\nb 2\n") 1
bad_first = record {
  refused = λ v h e. omega (arith, ap (λ t. get_or t 0 0) e);
  front = [];
  rest = codes "c 1\nb 2\n";
  parted = refl;
  whole = ([], refl);
  number = refl;
  before = record { value = (0, 0); has = (lit< tt, lit< tt); more = two_lines.text (0, 0); begun = refl };
  here = λ line behind one e again. omega (arith, first_bytes 99 97 _ _ line behind again.more e again.begun);
}

no_line : (line behind : List ℕ) → [] ≢ line ++ 10 ∷ behind
no_line [] behind e = cc
no_line (x ∷ line) behind e = cc

-- the second line is missing
cut_short : IsFirstBadLine two_lines (codes "a 1\n") 2
unfolding digits
cut_short = record {
  refused = λ v h e.
      let rest = ((one_line_texts naturals (codes "a ") refl naturals_within_line).exact 1 v.0 [] _ (lit< tt) h.0 e).1 in
      omega (arith, ap (λ t. get_or t 0 0) rest);
  front = codes "a 1\n";
  rest = [];
  parted = refl;
  whole = (codes "\na 1", refl);
  number = refl;
  before = record { value = (1, 0); has = (lit< tt, lit< tt); more = (line_of (codes "b ") naturals).text 0; begun = refl };
  here = λ line behind one e again. no_line line behind e;
}

-- the first line is right, and reading stops in front of the second, where no number stands
stops_at_second : StopsAt two_lines (codes "a 1\nb x\n") (codes "b x\n")
unfolding digits
stops_at_second = stops_behind (line_of (codes "a ") naturals) (λ _. line_of (codes "b ") naturals) (codes "a 1\nb x\n") (codes "b x\n") (codes "b x\n") 1
    (one_line_texts naturals (codes "a ") refl naturals_within_line) (record { has = lit< tt; parted = refl })
    (stops_at_line naturals (codes "b ") refl naturals_within_line (codes "b x\n") (codes "b x") [] refl refl
    (λ v h e. false≢true (subst (Only (among digit_bytes)) (sym (ap (drop 2) e)) (only_decimal v h))))

-- what stands in front of it is the first line
front_of_second : codes "a 1\n" ≡ stops_at_second.front
front_of_second = append_cancel_right (codes "a 1\n") stops_at_second.front (codes "b x\n") stops_at_second.parted

bad_second : IsFirstBadLine two_lines (codes "a 1\nb x\n") 2
bad_second = bad_where_stopped two_lines two_line_texts (codes "a 1\nb x\n") (codes "b x\n") 2 stops_at_second
    (ap (λ t. suc (newlines t)) front_of_second)

-- a third line follows
one_too_many : IsFirstBadLine two_lines (codes "a 1\nb 2\nb 3\n") 3
unfolding digits
one_too_many = bad_behind two_lines two_line_texts (codes "a 1\nb 2\nb 3\n") (1, 2) (codes "b 3\n") 3
    (record { has = (lit< tt, lit< tt); parted = refl }) (λ e. cc) refl

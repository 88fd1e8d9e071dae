-- The literals of a text are below 2^127, those of its tokens and so those of its derivation.
use Rattle.std.proofs.Common.{◌≡◌, ℕ, ◌+◌, ◌<◌, ◌^◌, Bool, true, false, List, [], ◌∷◌, length, refl, subst, take_while, drop, ltb-true}
use Rattle.std.specs.Prelude.{if◌then◌else◌, nat_lt, ◌==◌, codes, bytes_eq}
use Rattle.std.specs.Char.{is_ascii_digit, is_ascii_alphabetic, is_ascii_alphanumeric}
use Rattle.std.specs.Str.{byte}
use Rattle.std.specs.Str.Parse.{digits_value}
use Rattle.grammar.specs.Token.{Token, digits, semicolon, Placed, name_binomial, caret, bang, closing, comma, sum_sign, product_sign}
use Rattle.grammar.specs.Tokens.{Front, token, flawed, strange, not_ascii, unknown_name, literal_too_large, number_token, name_token, symbol_token, front, past_spaces, HasTokens}
use Rattle.grammar.specs.Bounds.{Bound, plain_bound, minus_bound, Bounds, bound_alone, bound_more, bound_text, bounds_text}
use Rattle.grammar.specs.Several.{Terms, term_alone, term_more, terms_text}
use Rattle.grammar.specs.Grammar.{Sum, product_alone, minus_product, product_more, Product, power_alone, power_more, Power, postfix_alone, raised, Postfix, atom_alone, factorial_at, Atom, number, the_n, the_k, bracket, choose, sum_text, product_text, power_text, postfix_text, atom_text}

abbrev pub IsSmall : Token → Type 0
IsSmall (digits value) = value < 2 ^ 127
IsSmall _ = Unit {0}

abbrev pub AreSmall : List Placed → Type 0
AreSmall [] = Unit {0}
AreSmall (t ∷ ts) = IsSmall t.1 × AreSmall ts

-- what stands at the front of bytes
abbrev IsSmallFront : Front → Type 0
IsSmallFront (token t len) = IsSmall t
IsSmallFront _ = Unit {0}

small_either : (test : Bool) (x y : Front) → IsSmallFront x → IsSmallFront y → IsSmallFront (if test then x else y)
small_either true x y p q = p
small_either false x y p q = q

small_number : (ds : List ℕ) → IsSmallFront (number_token ds)
small_number ds = go (nat_lt (digits_value 10 ds) (2 ^ 127)) refl
  where
    go : (test : Bool) → nat_lt (digits_value 10 ds) (2 ^ 127) ≡ test →
        IsSmallFront (if test then token (digits (digits_value 10 ds)) (length ds) else flawed literal_too_large)
    go true e = ltb-true (digits_value 10 ds) (2 ^ 127) e
    go false e = tt

small_name : (name : List ℕ) → IsSmallFront (name_token name)
small_name name =
    small_either (bytes_eq name (codes "n")) _ _ tt
    (small_either (bytes_eq name (codes "k")) _ _ tt (small_either (bytes_eq name (codes "binomial")) (token name_binomial (length name)) (flawed unknown_name) tt tt))

small_symbol : (c : ℕ) → IsSmallFront (symbol_token c)
small_symbol c =
    small_either (c == byte "+") _ _ tt
    (small_either (c == byte "-") _ _ tt
    (small_either (c == byte "*") _ _ tt
    (small_either (c == byte "/") _ _ tt
    (small_either (c == byte "^") _ _ tt
    (small_either (c == byte "!") _ _ tt
    (small_either (c == byte "(") _ _ tt
    (small_either (c == byte ")") _ _ tt
    (small_either (c == byte ",") _ _ tt
    (small_either (c == byte ";") _ _ tt
    (small_either (nat_lt c 128) (flawed strange) (flawed not_ascii) tt tt))))))))))

small_front : (text : List ℕ) → IsSmallFront (front text)
small_front [] = tt
small_front (c ∷ cs) =
    small_either (is_ascii_digit c) _ _ (small_number (take_while is_ascii_digit (c ∷ cs)))
    (small_either (is_ascii_alphabetic c) _ _ (small_name (take_while is_ascii_alphanumeric (c ∷ cs))) (small_symbol c))

pub small_tokens : (text : List ℕ) (from : ℕ) (ts : List Placed) (end : ℕ) → HasTokens text from ts end → AreSmall ts
small_tokens text from [] end h = tt
small_tokens text from (t ∷ ts) end h =
    (subst IsSmallFront h.2 (small_front (drop (past_spaces text from) text)), small_tokens text (t.0 + h.0) ts end h.3)

-- what stands behind a derivation's text
mutual
  pub past_sum : (s : Sum) (rest : List Placed) → AreSmall (sum_text s rest) → AreSmall rest
  past_sum (product_alone p) rest h = past_product p rest h
  past_sum (minus_product at p) rest h = past_product p rest h.1
  past_sum (product_more s turned at p) rest h = past_product p rest (past_sum s ((at, sum_sign turned) ∷ product_text p rest) h).1

  pub past_product : (p : Product) (rest : List Placed) → AreSmall (product_text p rest) → AreSmall rest
  past_product (power_alone w) rest h = past_power w rest h
  past_product (power_more p turned at w) rest h = past_power w rest (past_product p ((at, product_sign turned) ∷ power_text w rest) h).1

  pub past_power : (w : Power) (rest : List Placed) → AreSmall (power_text w rest) → AreSmall rest
  past_power (postfix_alone q) rest h = past_postfix q rest h
  past_power (raised q at a) rest h = past_atom a rest (past_postfix q ((at, caret) ∷ atom_text a rest) h).1

  pub past_postfix : (q : Postfix) (rest : List Placed) → AreSmall (postfix_text q rest) → AreSmall rest
  past_postfix (atom_alone a) rest h = past_atom a rest h
  past_postfix (factorial_at a at) rest h = (past_atom a ((at, bang) ∷ rest) h).1

  past_atom : (a : Atom) (rest : List Placed) → AreSmall (atom_text a rest) → AreSmall rest
  past_atom (number at value) rest h = h.1
  past_atom (the_n at) rest h = h.1
  past_atom (the_k at) rest h = h.1
  past_atom (bracket at s close) rest h = (past_sum s ((close, closing) ∷ rest) h.1).1
  past_atom (choose at o upper c lower close) rest h =
      (past_sum lower ((close, closing) ∷ rest) (past_sum upper ((c, comma) ∷ sum_text lower ((close, closing) ∷ rest)) h.1.1).1).1

pub past_terms : (ts : Terms) (rest : List Placed) → AreSmall (terms_text ts rest) → AreSmall rest
past_terms (term_alone s) rest h = past_sum s rest h
past_terms (term_more ts at s) rest h = past_sum s rest (past_terms ts ((at, semicolon) ∷ sum_text s rest) h).1

past_bound : (b : Bound) (rest : List Placed) → AreSmall (bound_text b rest) → AreSmall rest
past_bound (plain_bound at value) rest h = h.1
past_bound (minus_bound minus_at at value) rest h = h.1.1

pub past_bounds : (bs : Bounds) (rest : List Placed) → AreSmall (bounds_text bs rest) → AreSmall rest
past_bounds (bound_alone b) rest h = past_bound b rest h
past_bounds (bound_more bs at b) rest h = past_bound b rest (past_bounds bs ((at, comma) ∷ bound_text b rest) h).1

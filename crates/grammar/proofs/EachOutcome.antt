-- Each text of a kind has an outcome: it is read token by token, and where no token fits there is its end or its first fault.
use Rattle.std.proofs.Common.{◌≡◌, ℕ, zero, suc, ◌+◌, ◌<◌, ◌≤◌, Bool, true, false, List, [], ◌∷◌, ◌++◌, ◌⊎◌, Option, Some, None, refl, ap, sym, ◌∙◌, subst, inl, inr, length, drop, take_while, cond, arith}
use Rattle.std.specs.Prelude.{ℤ, if◌then◌else◌, nat_lt, ◌==◌, ◌||◌, codes, bytes_eq}
use Rattle.std.specs.Int.{is_in_range}
use Rattle.std.specs.Char.{is_ascii_digit, is_ascii_alphabetic, is_ascii_alphanumeric}
use Rattle.std.specs.Str.{byte}
use Rattle.std.specs.Str.Parse.{digits_value}
use Rattle.std.proofs.lemmas.Bool.{eqb-true, eqb-false}
use Rattle.std.proofs.lemmas.List.{drop_all}
use Rattle.std.proofs.lemmas.List.Sums.{take_while-cons}
use Rattle.grammar.specs.Tree.{Tree}
use Rattle.grammar.specs.Token.{Token, digits, name_n, name_k, name_binomial, opening, Placed, open_parentheses, IsOver64}
use Rattle.grammar.specs.Tokens.{Front, at_end, token, flawed, strange, not_ascii, unknown_name, literal_too_large, number_token, name_token, symbol_token, front, past_spaces, next_front}
use Rattle.grammar.specs.Several.{Derivation, derivation_trees, derivation_bounds, Kind}
use Rattle.grammar.specs.Reading.{Fault, AreFitting, IsFirstFault, HasContents}
use Rattle.grammar.proofs.States.{States, start, step_terms, run_terms, finished_terms}
use Rattle.grammar.proofs.Fitting.{run_snoc, fitting_start, fitting_more, fault_flawed, fault_nesting, fault_unexpected, fault_end, contents_at_end}

-- a token has a byte at least
abbrev IsLong : Front → Type 0
IsLong (token t len) = 1 ≤ len
IsLong _ = Unit {0}

long_if : (test : Bool) (x y : Front) → (test ≡ true → IsLong x) → IsLong y → IsLong (if test then x else y)
long_if true x y p q = p refl
long_if false x y p q = q

one : 1 ≤ 1
one = omega arith

some_taken : (p : ℕ → Bool) (c : ℕ) (cs : List ℕ) → p c ≡ true → 1 ≤ length (take_while p (c ∷ cs))
some_taken p c cs e = subst (λ xs. 1 ≤ length xs) (sym (take_while-cons p c cs ∙ ap (λ b. cond b (c ∷ take_while p cs) []) e)) (omega arith)

long_number : (ds : List ℕ) → 1 ≤ length ds → IsLong (number_token ds)
long_number ds h = long_if (nat_lt (digits_value 10 ds) _) (token (digits (digits_value 10 ds)) (length ds)) (flawed literal_too_large) (λ _. h) tt

long_name : (name : List ℕ) → 1 ≤ length name → IsLong (name_token name)
long_name name h =
    long_if (bytes_eq name (codes "n")) (token name_n (length name)) _ (λ _. h)
    (long_if (bytes_eq name (codes "k")) (token name_k (length name)) _ (λ _. h)
    (long_if (bytes_eq name (codes "binomial")) (token name_binomial (length name)) (flawed unknown_name) (λ _. h) tt))

long_symbol : (c : ℕ) → IsLong (symbol_token c)
long_symbol c =
    long_if (c == byte "+") _ _ (λ _. one)
    (long_if (c == byte "-") _ _ (λ _. one)
    (long_if (c == byte "*") _ _ (λ _. one)
    (long_if (c == byte "/") _ _ (λ _. one)
    (long_if (c == byte "^") _ _ (λ _. one)
    (long_if (c == byte "!") _ _ (λ _. one)
    (long_if (c == byte "(") _ _ (λ _. one)
    (long_if (c == byte ")") _ _ (λ _. one)
    (long_if (c == byte ",") _ _ (λ _. one)
    (long_if (c == byte ";") _ _ (λ _. one)
    (long_if (nat_lt c 128) (flawed strange) (flawed not_ascii) (λ _. tt) tt))))))))))

-- a letter is a letter or a digit
either : (d a b : Bool) → (a || b) ≡ true → ((d || a) || b) ≡ true
either true a b e = refl
either false a b e = e

long_front : (text : List ℕ) → IsLong (front text)
long_front [] = tt
long_front (c ∷ cs) =
    long_if (is_ascii_digit c) _ _ (λ e. long_number (take_while is_ascii_digit (c ∷ cs)) (some_taken is_ascii_digit c cs e))
    (long_if (is_ascii_alphabetic c) _ _
    (λ e. long_name (take_while is_ascii_alphanumeric (c ∷ cs)) (some_taken is_ascii_alphanumeric c cs (either (is_in_range 48 57 c) (is_in_range 65 90 c) (is_in_range 97 122 c) e))) (long_symbol c))

-- nothing stands past the end
ends_past : (text : List ℕ) (from : ℕ) → length text ≤ from → next_front text from ≡ at_end
ends_past text from h = ap front (drop_all (past_spaces text from) text (omega (arith, h)))

over64 : (places : List ℕ) (t : Token) → (IsOver64 places t) ⊎ (¬ (IsOver64 places t))
over64 places opening = by (length places == 64) refl
  where
    by : (test : Bool) → (length places == 64) ≡ test → (IsOver64 places opening) ⊎ (¬ (IsOver64 places opening))
    by true e = inl (refl, eqb-true (length places) 64 e)
    by false e = inr (λ h. eqb-false (length places) 64 e h.1)
over64 places t = inr (λ h. let e = h.0 in cc)

abbrev HasOutcome : Kind → List ℕ → Type 0
HasOutcome kind text = ((trees : List Tree) × (bounds : List ℤ) × HasContents kind text trees bounds) ⊎ ((fault : Fault) × IsFirstFault kind text fault)

-- what is so once one more token was read
abbrev GoesOn : Kind → List ℕ → ℕ → Type 0
GoesOn kind text end = (ts : List Placed) (later : ℕ) (s : States) (t : Token) (len : ℕ) → AreFitting kind text ts later → run_terms kind start ts ≡ Some s
    → next_front text end ≡ token t len → end < later → HasOutcome kind text

turn : (kind : Kind) (text : List ℕ) (ts : List Placed) (end : ℕ) (s : States) → AreFitting kind text ts end → run_terms kind start ts ≡ Some s
    → GoesOn kind text end → HasOutcome kind text
turn kind text ts end s fit r go_on = by (next_front text end) refl
  where
    ended : next_front text end ≡ at_end → (o : Option Derivation) → finished_terms kind s ≡ o → HasOutcome kind text
    ended f (Some d) e = inl (derivation_trees d, derivation_bounds d, contents_at_end kind text ts end s d fit r f e)
    ended f None e = inr (_, fault_end kind text ts end s fit r f e)

    stepped : (t : Token) (len : ℕ) → next_front text end ≡ token t len → ¬ (IsOver64 (open_parentheses [] ts) t)
        → (o : Option States) → step_terms kind s (past_spaces text end) t ≡ o → HasOutcome kind text
    stepped t len f n (Some next) e =
        let long : 1 ≤ len = subst IsLong f (long_front (drop (past_spaces text end) text)) in
        go_on (ts ++ (past_spaces text end, t) ∷ []) (past_spaces text end + len) next t len
        (fitting_more kind text ts end (past_spaces text end) len t s next fit r refl f n e)
        (run_snoc kind start ts s (past_spaces text end, t) r ∙ e) f (omega (arith, long))
    stepped t len f n None e = inr (_, fault_unexpected kind text ts end (past_spaces text end) len t s fit r refl f n e)

    nested : (t : Token) (len : ℕ) → next_front text end ≡ token t len → (IsOver64 (open_parentheses [] ts) t) ⊎ (¬ (IsOver64 (open_parentheses [] ts) t)) → HasOutcome kind text
    nested t len f (inl over) = inr (_, fault_nesting kind text ts end (past_spaces text end) len t fit refl f over)
    nested t len f (inr n) = stepped t len f n (step_terms kind s (past_spaces text end) t) refl

    by : (x : Front) → next_front text end ≡ x → HasOutcome kind text
    by at_end f = ended f (finished_terms kind s) refl
    by (flawed flaw) f = inr (_, fault_flawed kind text ts end (past_spaces text end) flaw fit refl f)
    by (token t len) f = nested t len f (over64 (open_parentheses [] ts) t)

-- as often as there are bytes
read_on : (left : ℕ) (kind : Kind) (text : List ℕ) (ts : List Placed) (end : ℕ) (s : States) → AreFitting kind text ts end → run_terms kind start ts ≡ Some s
    → length text ≤ end + left → HasOutcome kind text
read_on zero kind text ts end s fit r few =
    turn kind text ts end s fit r (λ more later next t len fit2 r2 f grown. absurd (differ t len (sym (ends_past text end (omega (arith, few))) ∙ f)))
  where
    differ : (t : Token) (len : ℕ) → at_end ≡ token t len → ⊥
    differ t len d = cc
read_on (suc left) kind text ts end s fit r few =
    turn kind text ts end s fit r (λ more later next t len fit2 r2 f grown. read_on left kind text more later next fit2 r2 (omega (arith, few, grown)))

pub some_outcome : (kind : Kind) (text : List ℕ)
    → ((trees : List Tree) × (bounds : List ℤ) × HasContents kind text trees bounds) ⊎ ((fault : Fault) × IsFirstFault kind text fault)
some_outcome kind text = read_on (length text) kind text [] 0 start (fitting_start kind text) refl (omega arith)

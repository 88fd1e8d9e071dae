-- The steps of writing a form.
use Rattle.std.specs.Prelude.{◌≡◌, ◌≢◌, ℕ, zero, suc, Bool, true, false, ℤ, pos, negsuc, List, [], ◌∷◌, ◌++◌, codes, if◌then◌else◌, Result, Ok, Err}
use Rattle.std.specs.List.{flat_map}
use Rattle.std.specs.Result.{OnOk, is_ok}
use Rattle.std.proofs.Common.{refl, ap, sym, ◌∙◌, append_assoc}
use Rattle.exact_texts.specs.Sums.{Monomial, signed_text, sum_text}
use Rattle.exact_texts.specs.SumWriting.{placed_text}
use Rattle.exact_texts.proofs.SumPieces.{first_placed}
use Rattle.form_lines.specs.Forms.{FormParts, unless_zero, parts_monomials, placed_sum}

abbrev pub kept : Monomial → List Monomial
kept m = unless_zero m.coefficient m.n_power m.k_power m.x_power

later : (ms : List Monomial) → placed_sum false ms ≡ flat_map signed_text ms
later [] = refl
later (m ∷ ms) = refl

front : (first : Bool) (m : Monomial) (ms : List Monomial) → placed_sum first (m ∷ ms) ≡ placed_text first m ++ flat_map signed_text ms
front true m ms = refl
front false m ms = refl

pub whole_sum : (ms : List Monomial) → placed_sum true ms ≡ sum_text ms
whole_sum [] = refl
whole_sum (m ∷ ms) = first_placed m ms

kept_some : (c : ℤ) (i j l : ℕ) → c ≢ pos 0 → unless_zero c i j l ≡ record { coefficient = c; n_power = i; k_power = j; x_power = l } ∷ []
kept_some (pos zero) i j l h = absurd (h refl)
kept_some (pos (suc c)) i j l h = refl
kept_some (negsuc c) i j l h = refl

-- nothing is written
pub left_out : (old : List ℕ) (first : Bool) (m : Monomial) (ms : List Monomial) → m.coefficient ≡ pos 0
    → old ++ placed_sum first ms ≡ old ++ placed_sum first (kept m ++ ms)
left_out old first m ms e = ap (λ c. old ++ placed_sum first (unless_zero c m.n_power m.k_power m.x_power ++ ms)) (sym e)

-- a monomial is written
pub written : (old new : List ℕ) (first : Bool) (m : Monomial) (ms : List Monomial) → m.coefficient ≢ pos 0 → new ≡ old ++ placed_text first m
    → new ++ placed_sum false ms ≡ old ++ placed_sum first (kept m ++ ms)
written old new first m ms h e =
    ap (λ t. t ++ placed_sum false ms) e ∙ append_assoc old (placed_text first m) (placed_sum false ms)
    ∙ ap (λ t. old ++ (placed_text first m ++ t)) (later ms) ∙ ap (λ t. old ++ t) (sym (front first m ms))
    ∙ ap (λ t. old ++ placed_sum first (t ++ ms)) (sym (kept_some m.coefficient m.n_power m.k_power m.x_power h))

-- The four monomials of a form are written one after another.
pub form_written : (f : FormParts) (old t1 t2 t3 t4 : List ℕ) (b1 b2 b3 b4 : Bool) (k n x o : Monomial)
    → k ≡ record { coefficient = f.k_slope; n_power = 0; k_power = 1; x_power = 0 }
    → n ≡ record { coefficient = f.n_slope; n_power = 1; k_power = 0; x_power = 0 }
    → x ≡ record { coefficient = f.x_slope; n_power = 0; k_power = 0; x_power = 1 }
    → o ≡ record { coefficient = f.offset; n_power = 0; k_power = 0; x_power = 0 }
    → ((ms : List Monomial) → t1 ++ placed_sum b1 ms ≡ old ++ placed_sum true (kept k ++ ms))
    → ((ms : List Monomial) → t2 ++ placed_sum b2 ms ≡ t1 ++ placed_sum b1 (kept n ++ ms))
    → ((ms : List Monomial) → t3 ++ placed_sum b3 ms ≡ t2 ++ placed_sum b2 (kept x ++ ms))
    → ((ms : List Monomial) → t4 ++ placed_sum b4 ms ≡ t3 ++ placed_sum b3 (kept o ++ ms))
    → t4 ++ placed_sum b4 [] ≡ old ++ sum_text (parts_monomials f)
form_written f old t1 t2 t3 t4 b1 b2 b3 b4 k n x o ek en ex eo first second third fourth =
    fourth [] ∙ third (kept o ++ []) ∙ second (kept x ++ (kept o ++ [])) ∙ first (kept n ++ (kept x ++ (kept o ++ [])))
    ∙ (λ i. old ++ placed_sum true (kept (ek i) ++ (kept (en i) ++ (kept (ex i) ++ (kept (eo i) ++ [])))))
    ∙ ap (λ t. old ++ t) (whole_sum (parts_monomials f))

-- where no monomial is written, a nought is
pub zero_written : {T E : Type 0} (r : Result T E) (old now new whole : List ℕ) → new ≡ (if is_ok r then (now ++ codes "0") else now)
    → now ++ placed_sum true [] ≡ old ++ whole → OnOk r (new ≡ old ++ whole)
zero_written (Ok x) old now new whole e w = e ∙ w
zero_written (Err x) old now new whole e w = tt

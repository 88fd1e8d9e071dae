-- The steps of the code over bounds and the grammar's.
use Rattle.std.proofs.Common.{◌≡◌, ℕ, ◌+◌, Bool, true, false, List, [], ◌∷◌, ◌++◌, Some, None, refl, ap, ◌∙◌, length}
use Rattle.std.specs.Prelude.{if◌then◌else◌, nat_lt, ◌==◌, neg_ℤ}
use Rattle.std.proofs.lemmas.List.{length-append}
use Rattle.grammar.specs.Token as t
use Rattle.grammar.specs.Bounds.{Bound, plain_bound, minus_bound, Bounds, bound_alone, bound_more, bound_text, bounds_text, bound_value, bounds_values, count}
use Rattle.grammar.specs.Several.{Terms, with_bounds}
use Rattle.grammar.proofs.States as m
use Rattle.grammar.proofs.SmallLiterals.{AreSmall, past_bounds}
use Rattle.term_text.specs.Code.BoundSteps.{step_bounds, next_bound, whole_bounds}
use Rattle.term_text.specs.Code.SeveralSteps.{in_bounds, boxed_terms}
use Rattle.term_text.specs.Code.Image.{token_image}
use Rattle.term_text.specs.Code.SeveralImage.{terms_asts, bound_number, bounds_numbers, before_numbers, bounds_image, several_image_of, contents_of}
use Rattle.term_text.proofs.Literals.{whole_value}

count_is : (bs : Bounds) → length (bounds_numbers bs) ≡ count bs
count_is (bound_alone b) = refl
count_is (bound_more bs at b) = length-append (bounds_numbers bs) (bound_number b ∷ []) ∙ ap (λ n. n + 1) (count_is bs)

last_numbers : (b : m.BeforeBound) (x : Bound) → before_numbers b ++ bound_number x ∷ [] ≡ bounds_numbers (m.with_bound b x)
last_numbers None x = refl
last_numbers (Some b) x = refl

last_count : (b : m.BeforeBound) (x : Bound) → length (before_numbers b ++ bound_number x ∷ []) ≡ count (m.with_bound b x)
last_count b x = ap length (last_numbers b x) ∙ count_is (m.with_bound b x)

comma_step : (ts : Terms) (c : ℕ) (b : m.BeforeBound) (x : Bound) (at : ℕ) →
    in_bounds (terms_asts ts) (next_bound (before_numbers b ++ bound_number x ∷ [])) ≡ several_image_of (m.at_comma ts c (m.with_bound b x) at)
comma_step ts c b x at =
    ap (λ l. in_bounds (terms_asts ts) (next_bound l)) (last_numbers b x)
    ∙ ap (λ n. in_bounds (terms_asts ts) (if nat_lt n 4 then Some (bounds_image (Some (m.with_bound b x, at)) m.wants_bound) else None)) (count_is (m.with_bound b x))
    ∙ go (nat_lt (count (m.with_bound b x)) 4)
  where
    go : (o : Bool) → in_bounds (terms_asts ts) (if o then Some (bounds_image (Some (m.with_bound b x, at)) m.wants_bound) else None)
        ≡ several_image_of (if o then Some (m.in_bounds ts c (Some (m.with_bound b x, at)) m.wants_bound) else None)
    go true = refl
    go false = refl

pub bounds_step : (ts : Terms) (c : ℕ) (b : m.BeforeBound) (x : m.BoundState) (at : ℕ) (y : t.Token) →
    in_bounds (terms_asts ts) (step_bounds (bounds_image b x) (token_image y)) ≡ several_image_of (m.step_bounds ts c b x at y)
bounds_step ts c b m.wants_bound at (t.digits v) = refl
bounds_step ts c b m.wants_bound at t.minus = refl
bounds_step ts c b m.wants_bound at _ = refl
bounds_step ts c b (m.wants_digits d) at (t.digits v) = refl
bounds_step ts c b (m.wants_digits d) at _ = refl
bounds_step ts c b (m.has_bound x) at t.comma = comma_step ts c b x at
bounds_step ts c b (m.has_bound x) at _ = refl

-- the end of a box
pub four_image : (ts : Terms) (c : ℕ) (b : m.BeforeBound) (x : Bound) →
    boxed_terms (terms_asts ts) (whole_bounds (bounds_image b (m.has_bound x)))
    ≡ contents_of (if count (m.with_bound b x) == 4 then Some (with_bounds ts c (m.with_bound b x)) else None)
four_image ts c b x =
    ap (λ l. boxed_terms (terms_asts ts) (if length l == 4 then Some l else None)) (last_numbers b x)
    ∙ ap (λ n. boxed_terms (terms_asts ts) (if n == 4 then Some (bounds_numbers (m.with_bound b x)) else None)) (count_is (m.with_bound b x))
    ∙ go (count (m.with_bound b x) == 4)
  where
    go : (o : Bool) → boxed_terms (terms_asts ts) (if o then Some (bounds_numbers (m.with_bound b x)) else None)
        ≡ contents_of (if o then Some (with_bounds ts c (m.with_bound b x)) else None)
    go true = refl
    go false = refl

-- the numbers of the bounds
number_is : (b : Bound) (rest : List t.Placed) → AreSmall (bound_text b rest) → bound_number b ≡ bound_value b
number_is (plain_bound at value) rest h = whole_value value h.0
number_is (minus_bound minus_at at value) rest h = ap neg_ℤ (whole_value value h.1.0)

pub numbers_are : (bs : Bounds) (rest : List t.Placed) → AreSmall (bounds_text bs rest) → bounds_numbers bs ≡ bounds_values bs
numbers_are (bound_alone b) rest h = ap (λ z. z ∷ []) (number_is b rest h)
numbers_are (bound_more bs at b) rest h =
    ap (λ l. l ++ bound_number b ∷ []) (numbers_are bs ((at, t.comma) ∷ bound_text b rest) h)
    ∙ ap (λ z. bounds_values bs ++ z ∷ []) (number_is b rest (past_bounds bs ((at, t.comma) ∷ bound_text b rest) h).1)

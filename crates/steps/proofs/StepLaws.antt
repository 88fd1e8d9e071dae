-- What steps that gave something say of the steps that they are made of.
use Rattle.std.proofs.Common.{◌≡◌, ℕ, ◌+◌, ◌≤◌, ◌<◌, Bool, true, false, List, ◌++◌, length, refl, ap, sym, ◌∙◌, subst, arith, length-append, append_assoc}
use Rattle.std.proofs.lemmas.Bool.{le-leb, lt-leb, leb-true}
use Rattle.std.proofs.lemmas.List.{get_or_append_left, get_or-append-add}
use Rattle.std.specs.Prelude.{nat_le, if◌then◌else◌, Result, Ok, Err, Any}
use Rattle.std.specs.Result.{result_ok}
use Rattle.std.proofs.lemmas.Option.{same_Some}
use Rattle.steps.specs.declared.limits.LimitName.{LimitName}
use Rattle.steps.specs.declared.limits.LimitName.TheVariants.{Factors, Slope, Offset, Exponent, Order, Degree, MatchShifts, Columns, HyperPairs, BoxSide}
use Rattle.steps.specs.Limits.{greatest_count, capped}
use Rattle.steps.specs.Operations.{Operation, IsInBounds}
use Rattle.steps.specs.Steps.{Steps, Refusal, limit, IsTooLargeAt, after, limited, ◌then◌}

-- the first steps gave a value, and what follows from it gave y
pub record Gave {P R A B : Type 0} (s : Steps P R A) (f : A → Steps P R B) (y : B) : Type 0 where
  pub value : A
  pub first : s.outcome ≡ Ok value
  pub second : (f value).outcome ≡ Ok y

pub not_refused : {R A : Type 0} (r : Refusal R) (y : A) → Err r ≡ Ok y → ⊥
not_refused r y e = cc

any_left : {X : Type 0} (P : X → Type 0) (xs ys : List X) → Any P xs → Any P (xs ++ ys)
any_left P xs ys h = (h.0, h.1, omega (arith, h.2, length-append xs ys), get_or_append_left xs ys h.1 h.0 h.2 ∙ h.3, h.4)

any_right : {X : Type 0} (P : X → Type 0) (xs ys : List X) → Any P ys → Any P (xs ++ ys)
any_right P xs ys h = (length xs + h.0, h.1, omega (arith, h.2, length-append xs ys), get_or-append-add xs ys h.0 h.1 ∙ h.3, h.4)

pub same_Ok : {R A : Type 0} (x y : A) → ◌≡◌ {A = Result A (Refusal R)} (Ok x) (Ok y) → x ≡ y
same_Ok x y e = same_Some x y (ap result_ok e)

pub then_gave : {P R A B : Type 0} (s : Steps P R A) (f : A → Steps P R B) (y : B) → (s then f).outcome ≡ Ok y → Gave s f y
then_gave {P} {R} {A} {B} s f y e = by s.outcome refl e
  where
    by : (r : Result A (Refusal R)) → s.outcome ≡ r → (after r s.operations f).outcome ≡ Ok y → Gave s f y
    by (Ok x) h e = record { value = x; first = h; second = e }
    by (Err r) h e = absurd (not_refused r y e)

-- what is within its limit is given
pub record Within (name : LimitName) (count : ℕ) {A : Type 0} (x y : A) : Type 0 where
  pub few : count ≤ greatest_count name
  pub same : x ≡ y

pub limit_gave : {R A : Type 0} (name : LimitName) (count : ℕ) (x y : A) → limited {R = R} name count x ≡ Ok y → Within name count x y
limit_gave {R} {A} name count x y e = by (nat_le count (greatest_count name)) refl e
  where
    by : (b : Bool) → nat_le count (greatest_count name) ≡ b → ◌≡◌ {A = Result A (Refusal R)} (if b then Ok x else Err (limit name (capped count)))
        (Ok y)
        → Within name count x y
    by true h e = record { few = leb-true count (greatest_count name) h; same = same_Ok x y e }
    by false h e = absurd (not_refused {R = R} (limit name (capped count)) y e)

-- where the first steps give x, what follows from x decides; where they are refused, that is the answer
pub then_outcome : {P R A B : Type 0} (s : Steps P R A) (f : A → Steps P R B) (x : A) → s.outcome ≡ Ok x → (s then f).outcome ≡ (f x).outcome
then_outcome s f x e = ap (λ r. (after r s.operations f).outcome) e

pub then_refused : {P R A B : Type 0} (s : Steps P R A) (f : A → Steps P R B) (r : Refusal R) → s.outcome ≡ Err r → (s then f).outcome ≡ Err r
then_refused s f r e = ap (λ r. (after r s.operations f).outcome) e

-- an operation of the first steps that isn't in bounds is one of all steps, and so is one of those that follow
pub too_large_first : {P R A B : Type 0} (s : Steps P R A) (f : A → Steps P R B) (at : P) → IsTooLargeAt s at → IsTooLargeAt (s then f) at
too_large_first {P} {R} {A} s f at h = by s.outcome
  where
    by : (r : Result A (Refusal R)) → IsTooLargeAt (after r s.operations f) at
    by (Ok x) = any_left (λ o. (o.place ≡ at) × ¬ IsInBounds o.counterpart) s.operations (f x).operations h
    by (Err r) = h

pub too_large_later : {P R A B : Type 0} (s : Steps P R A) (f : A → Steps P R B) (x : A) (at : P) → s.outcome ≡ Ok x → IsTooLargeAt (f x) at
    → IsTooLargeAt (s then f) at
too_large_later s f x at e h = subst (λ r. IsTooLargeAt (after r s.operations f) at) (sym e)
    (any_right (λ o. (o.place ≡ at) × ¬ IsInBounds o.counterpart) s.operations (f x).operations h)

-- within its limit, or the limit that is passed
pub limit_kept : {R A : Type 0} (name : LimitName) (count : ℕ) (x : A) → count ≤ greatest_count name → limited {R = R} name count x ≡ Ok x
limit_kept {R} {A} name count x h = ap by (le-leb count (greatest_count name) h)
  where
    by : Bool → Result A (Refusal R)
    by b = if b then Ok x else Err (limit name (capped count))

pub limit_passed : {R A : Type 0} (name : LimitName) (count : ℕ) (x : A) → greatest_count name < count
    → limited {R = R} name count x ≡ Err (limit name (capped count))
limit_passed {R} {A} name count x h = ap by (lt-leb count (greatest_count name) h)
  where
    by : Bool → Result A (Refusal R)
    by b = if b then Ok x else Err (limit name (capped count))

-- each limit is far below what a number of the machine has
pub limits_are_small : (name : LimitName) → greatest_count name ≤ 1000000
limits_are_small Factors = omega arith
limits_are_small Slope = omega arith
limits_are_small Offset = omega arith
limits_are_small Exponent = omega arith
limits_are_small Order = omega arith
limits_are_small Degree = omega arith
limits_are_small MatchShifts = omega arith
limits_are_small Columns = omega arith
limits_are_small HyperPairs = omega arith
limits_are_small BoxSide = omega arith

-- steps that follow one another may be taken together from the second on
pub then_assoc : {P R A B C : Type 0} (s : Steps P R A) (f : A → Steps P R B) (g : B → Steps P R C)
    → ((s then f) then g) ≡ (s then (λ x. f x then g))
then_assoc {P} {R} {A} {B} {C} s f g = by s.outcome
  where
    joined : (done : List (Operation P)) (o : Result B (Refusal R)) (more : List (Operation P)) → after o (done ++ more) g
        ≡ record { outcome = (after o more g).outcome; operations = done ++ (after o more g).operations }
    joined done (Ok y) more = ap (λ (os : List (Operation P)). record { outcome = (g y).outcome; operations = os })
        (append_assoc done more (g y).operations)
    joined done (Err r) more = refl

    by : (o : Result A (Refusal R)) → ((after o s.operations f) then g) ≡ after o s.operations (λ x. f x then g)
    by (Ok x) = joined s.operations (f x).outcome (f x).operations
    by (Err r) = refl

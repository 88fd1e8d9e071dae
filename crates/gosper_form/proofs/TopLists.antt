-- The products p_0, .., p_J, one after the other.
use Rattle.std.proofs.Common.{◌≡◌, ℕ, zero, suc, ◌+◌, ◌≤◌, ◌<◌, List, [], ◌∷◌, ◌++◌, map, length, refl, ap, sym, ◌∙◌, arith, subst, length-append, ⊎_elim, get_or, Option, Some, None, MatchOption, Bor}
use Rattle.std.proofs.lemmas.Bool.{cases_lt}
use Rattle.std.proofs.lemmas.List.{length-map}
use Rattle.std.specs.Option.{IfSome}
use Rattle.hypergeometric.specs.ProperTerm.{ProperTerm}
use Rattle.term_pieces.specs.Pieces.{Top, top_in}
use Rattle.gosper_form.specs.TopsOf.{IsTopOf, AreTopsOf}

-- p_0 to p_(j - 1)
pub record TopsReached (tops : List Top) (f : ProperTerm) (order j : ℕ) : Type 0 where
  pub count : length tops ≡ j
  pub each : (i : ℕ) → i < j → IsTopOf (top_in tops i) f order i

pub tops_start : (tops : List Top) (f : ProperTerm) (order : ℕ) → tops ≡ [] → TopsReached tops f order 0
tops_start tops f order e = record { count = ap length e; each = λ i h. absurd (omega (arith, h)) }

earlier_top : (tops : List Top) (top : Top) (i : ℕ) → i < length tops → top_in (tops ++ top ∷ []) i ≡ top_in tops i
earlier_top [] top i h = absurd (omega (arith, h))
earlier_top (t ∷ tops) top zero h = refl
earlier_top (t ∷ tops) top (suc i) h = earlier_top tops top i (omega (arith, h))

last_top : (tops : List Top) (top : Top) → top_in (tops ++ top ∷ []) (length tops) ≡ top
last_top [] top = refl
last_top (t ∷ tops) top = last_top tops top

pub tops_step : (tops new : List Top) (top : Top) (f : ProperTerm) (order j : ℕ) → TopsReached tops f order j → IsTopOf top f order j
    → new ≡ tops ++ top ∷ [] → TopsReached new f order (j + 1)
tops_step tops new top f order j r is e = record {
  count = ap length e ∙ length-append tops (top ∷ []) ∙ ap (λ n. n + 1) r.count;
  each = λ i h. subst (λ t. IsTopOf t f order i) (ap (λ ts. top_in ts i) (sym e)) (⊎_elim
      (λ less. subst (λ t. IsTopOf t f order i) (sym (earlier_top tops top i (omega (arith, less, r.count)))) (r.each i less))
      (λ more.
      let same : i ≡ j = omega (arith, more, h) in
      subst (λ m. IsTopOf (top_in (tops ++ top ∷ []) m) f order m) (sym same)
      (subst (λ t. IsTopOf t f order j) (sym (ap (top_in (tops ++ top ∷ [])) (sym r.count) ∙ last_top tops top)) is)) (cases_lt i j));
}

pub tops_end : (tops : List Top) (f : ProperTerm) (order j : ℕ) → j ≡ order + 1 → TopsReached tops f order j → AreTopsOf tops f order
tops_end tops f order j e r = record {
  count = r.count ∙ e ∙ one_more order;
  each = λ i h. r.each i (omega (arith, h, e));
}
  where
    one_more : (order : ℕ) → order + 1 ≡ suc order
    one_more order = omega arith

top_mapped : {T : Type 0} (view : T → Top) (xs : List T) (j : ℕ) (d : T) → j < length xs → view (get_or xs j d) ≡ top_in (map view xs) j
top_mapped view [] j d h = absurd (omega (arith, h))
top_mapped view (x ∷ xs) zero d h = refl
top_mapped view (x ∷ xs) (suc j) d h = top_mapped view xs j d (omega (arith, h))

-- what a look-up of the code finds
pub top_given : {T : Type 0} (view : T → Top) (slice xs : List T) → slice ≡ xs → (F : Bor T → Type 0) (j : ℕ) (r : Option (Bor T))
    → MatchOption r (length slice ≤ j) (λ x. (j < length slice) × F x) → IfSome r (λ x. x.now ≡ get_or slice j x.now)
    → MatchOption r (length (map view xs) ≤ j) (λ x. (j < length (map view xs)) × (view x.now ≡ top_in (map view xs) j))
top_given view slice xs e F j None range is = omega (arith, range, ap length e, length-map xs view)
top_given view slice xs e F j (Some x) range is = (
  omega (arith, range.0, ap length e, length-map xs view),
  ap view (is ∙ ap (λ ys. get_or ys j x.now) e) ∙ top_mapped view xs j x.now (omega (arith, range.0, ap length e)),
)

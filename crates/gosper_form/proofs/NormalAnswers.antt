-- What the code's answers say: values that are passed on, and an item with what stands behind it.
use Rattle.std.proofs.Common.{◌≡◌, ℕ, ◌+◌, ◌<◌, List, ◌∷◌, length, get_or, drop, sym, ◌∙◌, subst, add-one, true, true≢false, IsErrAnd, MatchResult}
use Rattle.std.specs.Prelude.{Result, Ok, Err, IfOk, IfErr}
use Rattle.std.specs.Result.{is_ok}
use Rattle.std.specs.List.{AllByRecursion}
use Rattle.std.proofs.Math.Seq.{drop-cons}
use Rattle.std.proofs.lemmas.List.Elements.{All-from_recursion}

-- what is said of an answer, of the value that is passed on with another fault
pub answered : {T E : Type 0} (D : Type 0) (P : T → Type 0) (r : Result T E) (Q : E → Type 0) (x : T) → MatchResult r (λ y. ◌≡◌ {A = Result T D} (Ok x) (Ok y)) Q
    → true ≡ is_ok r → IfOk r P → P x
answered D P (Ok y) Q x e is h =
    let same : y ≡ x = cc in
    subst P same h
answered D P (Err y) Q x e is h = absurd (true≢false is)

-- a fault that is passed on
pub fault_passed : {T E : Type 0} (P : E → Type 0) (r : Result T E) (x : E) → IsErrAnd r (λ y. y ≡ x) → P x → IfErr r P
fault_passed P (Ok t) x e h = tt
fault_passed P (Err y) x e h = subst P (sym e) h

-- the items from an index on are the item there and those behind it
pub item_behind : {A : Type 0} (xs : List A) (i : ℕ) (x : A) → i < length xs → x ≡ get_or xs i x → drop i xs ≡ x ∷ drop (i + 1) xs
item_behind xs i x l is = drop-cons xs i x l ∙ (λ j. sym is j ∷ drop (sym (add-one i) j) xs)

pub all_at_item : {A : Type 0} (P : A → Type 0) (xs : List A) (i : ℕ) (x : A) → i < length xs → x ≡ get_or xs i x → AllByRecursion P xs → P x
all_at_item P xs i x l is all = subst P (sym is) (All-from_recursion P xs all i x l)

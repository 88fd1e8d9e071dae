-- What the calls of a polynomial answer, from what the functions over its list answer: what needs no law.
use Rattle.std.proofs.Common.{◌≡◌, ℕ, suc, ◌+◌, ◌<◌, ◌≤◌, Bool, IsTrue, ◌↔◌, List, [], ◌∷◌, map, length, get_or, take, refl, sym, ap, ◌∙◌, subst, arith, Result, Ok, Err, IsErrAnd, nat_eq}
use Rattle.std.proofs.lemmas.List.{get_or-map, map_more}
use Rattle.std.proofs.lemmas.Bool.{ne_eqb}
use Rattle.ring_laws.specs.declared.faults.RingFault.{RingFault}
use Rattle.poly_laws.specs.Lists.{trimmed}
use Rattle.poly_laws.specs.PolyAlgebra.{is_empty}
use Rattle.ring_laws.specs.Algebra.{Ops}
use Rattle.ring_laws.specs.Answer.{OnFault, Gives, GivesInBounds, fault_weaker}
use Rattle.ring_laws.specs.Meaning.{Meaning, joined, parted, listed, items, parted-joined}
use Rattle.poly_laws.proofs.Trimming.{length-trimmed}

pub gives_same : {Q : Type 0} (mean : Q → Meaning) (m n : Meaning) (r : Result Q RingFault) → m ≡ n → Gives mean m r → Gives mean n r
gives_same mean m n (Ok q) e h = h ∙ e
gives_same mean m n (Err fault) e h = h

pub in_bounds_same : {Q : Type 0} (mean : Q → Meaning) (InBounds : Type 0) (m n : Meaning) (r : Result Q RingFault) → m ≡ n
    → GivesInBounds mean InBounds m r → GivesInBounds mean InBounds n r
in_bounds_same mean InBounds m n (Ok q) e h = (h.0, h.1 ∙ e)
in_bounds_same mean InBounds m n (Err fault) e h = h

-- what `from_coefficients` gives of a short list
pub given_trimmed : {Q : Type 0} (o : Ops Meaning) (mean : Q → Meaning) (zs ms : List Meaning) (r : Result Q RingFault) → length zs ≤ 256 → zs ≡ ms
    → GivesInBounds mean (length (trimmed o zs) ≤ 256) (listed (trimmed o zs)) r → Gives mean (listed (trimmed o ms)) r
given_trimmed o mean zs ms (Ok q) b e h = h.1 ∙ ap (λ t. listed (trimmed o t)) e
given_trimmed o mean zs ms (Err fault) b e h = fault_weaker fault (λ n. n (omega (arith, length-trimmed o zs))) h

-- what the exit of a `?` returns
pub fault_poly : {Q : Type 0} (mean : Q → Meaning) (InBounds : Type 0) (m : Meaning) (r : Result Q RingFault) (fault : RingFault)
    → IsErrAnd r (λ e. e ≡ fault) → OnFault (¬ InBounds) fault → GivesInBounds mean InBounds m r
fault_poly mean InBounds m (Ok v) fault e h = absurd e
fault_poly mean InBounds m (Err d) fault e h = subst (OnFault (¬ InBounds)) (sym e) h

pub empty_is : (ms : List Meaning) → is_empty (parted (joined ms)) ≡ nat_eq (length ms) 0
empty_is [] = refl
empty_is (m ∷ ms) = sym (ne_eqb (suc (length ms)) 0 (λ e. absurd (omega arith)))

pub same_truth : (b c : Bool) → b ≡ c → IsTrue b ↔ IsTrue c
same_truth b c e = ((λ h. sym e ∙ h), (λ h. e ∙ h))

pub listed_same : (ms ns : List Meaning) → listed ms ≡ listed ns → ms ≡ ns
listed_same ms ns e = sym (parted-joined ms) ∙ ap items e ∙ parted-joined ns

pub two : {T : Type 0} (F : List T → List T → Type 0) (ls xs rs ys : List T) → ls ≡ xs → rs ≡ ys → F ls rs → F xs ys
two F ls xs rs ys e f h = subst (λ t. F xs t) f (subst (λ t. F t rs) e h)

pub same_iff : (b : Bool) (ms ns : List Meaning) → (IsTrue b ↔ (ms ≡ ns)) → (IsTrue b ↔ (listed ms ≡ listed ns))
same_iff b ms ns h = ((λ t. ap listed (h.0 t)), (λ e. h.1 (listed_same ms ns e)))

-- two lists with one place at which they differ, and two that agree as far as they go
pub apart : {T : Type 0} (f g : T → Meaning) (xs ys : List T) (i : ℕ) (x y : T) → i < length xs → i < length ys → x ≡ get_or xs i x
    → y ≡ get_or ys i y → ¬ (f x ≡ g y) → ¬ (map f xs ≡ map g ys)
apart f g xs ys i x y p q e h n is =
    n (ap f e ∙ sym (get_or-map f xs i x (f x) p) ∙ ap (λ t. get_or t i (f x)) is ∙ get_or-map g ys i y (f x) q ∙ sym (ap g h))

pub one_more : {T : Type 0} (f g : T → Meaning) (xs ys : List T) (i : ℕ) (x y : T) → i < length xs → i < length ys → x ≡ get_or xs i x
    → y ≡ get_or ys i y → f x ≡ g y → map f (take i xs) ≡ map g (take i ys) → map f (take (i + 1) xs) ≡ map g (take (i + 1) ys)
one_more f g xs ys i x y p q e h s is = cc (map_more f xs i x p, map_more g ys i y q, ap f e, ap g h, s, is)

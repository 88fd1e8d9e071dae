-- The steps of writing a sum.
use Rattle.std.specs.Prelude.{◌≡◌, ℕ, ◌+◌, ◌<◌, Bool, true, not, nat_eq, ◌||◌, if◌then◌else◌, unsigned_abs, List, [], ◌∷◌, ◌++◌, map, drop, length}
use Rattle.std.specs.List.{flat_map}
use Rattle.std.specs.Fmt.{decimal}
use Rattle.std.specs.Str.{byte}
use Rattle.std.proofs.Common.{ap, sym, ◌∙◌, append_assoc, add-one, get_or}
use Rattle.std.proofs.Math.Seq.{drop-cons}
use Rattle.exact_texts.specs.Sums.{power_factor, body_text, signed_text, sum_text}
use Rattle.exact_texts.specs.SumWriting.{starred, shows_magnitude, placed_text}
use Rattle.exact_texts.proofs.SumPieces.{body_pieces, body_written, first_placed}
use Rattle.spelled.specs.Monomials.{MonomialValue, monomial_of}
use Rattle.spelled.specs.declared.monomials.Monomial as declared

pub body_joined : (m : MonomialValue) (magnitude : ℕ) (shown behind_n behind_k : Bool) (t0 t1 t2 t3 : List ℕ) → magnitude ≡ unsigned_abs m.coefficient
    → shown ≡ shows_magnitude m
    → behind_n ≡ (shown || not (nat_eq m.n_power 0)) → behind_k ≡ (behind_n || not (nat_eq m.k_power 0))
    → t1 ≡ t0 ++ (if shown then decimal magnitude else []) → t2 ≡ t1 ++ starred shown (power_factor (byte "n") m.n_power)
    → t3 ≡ t2 ++ starred behind_n (power_factor (byte "k") m.k_power)
    → t3 ++ starred behind_k (power_factor (byte "x") m.x_power) ≡ t0 ++ body_text m
body_joined m magnitude shown behind_n behind_k t0 t1 t2 t3 c s bn bk e1 e2 e3 =
    let a = if shown then decimal (unsigned_abs m.coefficient) else [] in
    let n = starred shown (power_factor (byte "n") m.n_power) in
    let k = starred behind_n (power_factor (byte "k") m.k_power) in
    let x = starred behind_k (power_factor (byte "x") m.x_power) in
    ap (λ t. t ++ x) (e3 ∙ ap (λ t. t ++ k) (e2 ∙ ap (λ t. t ++ n) (e1 ∙ ap (λ v. t0 ++ (if shown then decimal v else [])) c)))
    ∙ append_assoc ((t0 ++ a) ++ n) k x ∙ append_assoc (t0 ++ a) n (k ++ x) ∙ append_assoc t0 a (n ++ (k ++ x))
    ∙ ap (λ t. t0 ++ t) (ap (λ t. a ++ (n ++ t)) (ap (λ b. k ++ starred b (power_factor (byte "x") m.x_power)) bk
    ∙ ap (λ b. starred b (power_factor (byte "k") m.k_power) ++ starred (b || not (nat_eq m.k_power 0)) (power_factor (byte "x") m.x_power)) bn)
    ∙ ap (λ b. body_pieces b m) s ∙ body_written m)

pub sum_begun : (old new : List ℕ) (xs others : List declared.Monomial) (x : declared.Monomial) → new ≡ old ++ placed_text true (monomial_of x)
    → xs ≡ x ∷ others
    → new ++ flat_map signed_text (map monomial_of others) ≡ old ++ sum_text (map monomial_of xs)
sum_begun old new xs others x n e =
    ap (λ t. t ++ flat_map signed_text (map monomial_of others)) n
    ∙ append_assoc old (placed_text true (monomial_of x)) (flat_map signed_text (map monomial_of others))
    ∙ ap (λ t. old ++ t) (first_placed (monomial_of x) (map monomial_of others) ∙ ap (λ t. sum_text (map monomial_of t)) (sym e))

pub sum_more : (text new whole : List ℕ) (xs : List declared.Monomial) (i : ℕ) (d : declared.Monomial)
    → new ≡ text ++ signed_text (monomial_of (get_or xs i d))
    → i < length xs → text ++ flat_map signed_text (map monomial_of (drop i xs)) ≡ whole
    → new ++ flat_map signed_text (map monomial_of (drop (i + 1) xs)) ≡ whole
sum_more text new whole xs i d n h e =
    let x = get_or xs i d in
    ap (λ t. t ++ flat_map signed_text (map monomial_of (drop (i + 1) xs))) n
    ∙ append_assoc text (signed_text (monomial_of x)) (flat_map signed_text (map monomial_of (drop (i + 1) xs)))
    ∙ ap (λ j. text ++ flat_map signed_text (map monomial_of (x ∷ drop j xs))) (add-one i)
    ∙ ap (λ t. text ++ flat_map signed_text (map monomial_of t)) (sym (drop-cons xs i d h)) ∙ e

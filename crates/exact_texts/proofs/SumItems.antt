-- The text of a sum is within a line, and can stand in a list.
use Rattle.std.specs.Prelude.{◌≡◌, ◌≢◌, ℕ, Bool, true, false, nat_eq, ℤ, pos, negsuc, List, [], ◌∷◌, codes, drop}
use Rattle.std.specs.List.{AllByRecursion, list_all, flat_map}
use Rattle.std.proofs.Common.{refl, ap, arith, get_or, cond}
use Rattle.std.proofs.lemmas.Bool.{and_parts}
use Rattle.exact_texts.specs.Texts.{Only, other_than}
use Rattle.exact_texts.specs.Lines.{AreWithinLine}
use Rattle.exact_texts.specs.Lists.{AreItems}
use Rattle.exact_texts.specs.Sums.{Monomial, body_text, sign_of, signed_text, without_plus, sum_text, IsMonomial, sums}
use Rattle.exact_texts.proofs.Cuts.{among, only_append, only_more}
use Rattle.exact_texts.proofs.Formats.{front_empty}
use Rattle.exact_texts.proofs.SumTexts.{body_bytes, body_only}
use Rattle.exact_texts.proofs.SumLists.{rest_text, body_some, no_sign, sum_determines}

-- the bytes that occur in a sum
abbrev pub sum_bytes : List ℕ
sum_bytes = codes "0123456789*^nkx+-"

signed_by : (z : ℤ) (xs : List ℕ) → Only (among sum_bytes) xs → Only (among sum_bytes) (sign_of z ∷ xs)
signed_by (pos c) xs h = h
signed_by (negsuc c) xs h = h

signed_only : (ms : List Monomial) → AllByRecursion IsMonomial ms → Only (among sum_bytes) (flat_map signed_text ms)
signed_only [] p = refl
signed_only (m ∷ ms) p = signed_by m.coefficient (rest_text m ms) (only_append (among sum_bytes) (body_text m) (flat_map signed_text ms)
    (only_more body_bytes (among sum_bytes) (body_text m) refl (body_only m p.0)) (signed_only ms p.1))

without_plus_only : (xs : List ℕ) → Only (among sum_bytes) xs → Only (among sum_bytes) (without_plus xs)
without_plus_only [] p = refl
without_plus_only (x ∷ xs) p = go (nat_eq x 43)
  where
    go : (b : Bool) → Only (among sum_bytes) (cond b xs (x ∷ xs))
    go true = (and_parts (among sum_bytes x) (list_all (among sum_bytes) xs) p).1
    go false = p

pub sum_only : (ms : List Monomial) → AllByRecursion IsMonomial ms → Only (among sum_bytes) (sum_text ms)
sum_only [] p = refl
sum_only (m ∷ ms) p = without_plus_only (flat_map signed_text (m ∷ ms)) (signed_only (m ∷ ms) p)

pub sums_within_line : AreWithinLine sums
sums_within_line = record {
  some = ([], tt);
  within = λ ms p. only_more sum_bytes (other_than 10) (sum_text ms) refl (sum_only ms p);
  determined = sum_determines;
}

-- a sum isn't a lone minus
not_minus : (ms : List Monomial) → AllByRecursion IsMonomial ms → sum_text ms ≢ codes "-"
not_minus [] p e = omega (arith, ap (λ t. get_or t 0 0) e)
not_minus (m ∷ ms) p e = go m.coefficient e
  where
    go : (z : ℤ) → without_plus (sign_of z ∷ rest_text m ms) ≡ codes "-" → ⊥
    go (pos a) x = no_sign m ms [] p.0 x
    go (negsuc a) x = body_some m p.0 (front_empty (body_text m) (flat_map signed_text ms) (ap (drop 1) x))

pub sums_are_items : AreItems sums
sums_are_items = record {
  commas = λ ms p. only_more sum_bytes (other_than 44) (sum_text ms) refl (sum_only ms p);
  semicolons = λ ms p. only_more sum_bytes (other_than 59) (sum_text ms) refl (sum_only ms p);
  not_none = not_minus;
}

-- a sum has no space
pub sums_spaceless : (ms : List Monomial) → AllByRecursion IsMonomial ms → Only (other_than 32) (sum_text ms)
sums_spaceless ms p = only_more sum_bytes (other_than 32) (sum_text ms) refl (sum_only ms p)

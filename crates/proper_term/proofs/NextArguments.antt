-- The next argument, over lists that grow at their ends.
use Rattle.std.proofs.Common.{◌≡◌, ℕ, ◌+◌, ◌<◌, ◌≤◌, max, min, ap, sym, ◌∙◌, arith, add-one, List, [], ◌∷◌, ◌++◌, length, map, take, get_or, Option, Some, None}
use Rattle.std.proofs.Math.Seq.{take-suc}
use Rattle.std.proofs.lemmas.List.{map-append}
use Rattle.proper_term.specs.Cancelled.{Argument, counted, at_least, greatest}
use Rattle.proper_term.specs.Cursors.{IsNext, IsNextOf}
use Rattle.proper_term.proofs.CancelledFactorials.{counted_below, counted_above}

-- one more item, under a map
pub taken : {A B : Type 0} (f : A → B) (xs : List A) (i : ℕ) (x : A) → i < length xs → x ≡ get_or xs i x
    → map f (take (i + 1) xs) ≡ map f (take i xs) ++ f x ∷ []
taken f xs i x below is =
    ap (λ j. map f (take j xs)) (add-one i) ∙ ap (map f) (take-suc xs i x below) ∙ map-append f (take i xs) (get_or xs i x ∷ [])
    ∙ ap (λ y. map f (take i xs) ++ f y ∷ []) (sym is)

pub map_ended : {A B : Type 0} (f : A → B) (xs : List A) (x : A) → map f (xs ++ x ∷ []) ≡ map f xs ++ f x ∷ []
map_ended f xs x = map-append f xs (x ∷ [])

pub last_at_least : (xs : List Argument) (x : Argument) (j : ℕ) → at_least (xs ++ x ∷ []) j ≡ at_least xs j + counted x.number x.power j
last_at_least [] x j = omega arith
last_at_least (y ∷ xs) x j =
    let rest = last_at_least xs x j in omega (arith, rest)

last_greatest : (xs : List Argument) (x : Argument) → greatest (xs ++ x ∷ []) ≡ max (greatest xs) x.number
last_greatest [] x = omega arith
last_greatest (y ∷ xs) x = let rest = last_greatest xs x in omega (arith, rest)

module _ (xs : List Argument) (x : Argument) (first : ℕ) where
  -- one that is too small changes nothing
  pub passed : (found : Option ℕ) → x.number < first → IsNextOf found first xs → IsNextOf found first (xs ++ x ∷ [])
  passed None low h = λ j le. let p = last_at_least xs x j in let q = counted_above x.number x.power j (omega arith) in omega (arith, p, q, h j le)
  passed (Some v) low h = record {
    from_on = h.from_on;
    within = let g = last_greatest xs x in omega (arith, g, h.within);
    same = λ j le most. let p = last_at_least xs x j in let q = counted_above x.number x.power j (omega arith) in
        let r = last_at_least xs x first in let s = counted_above x.number x.power first (omega arith) in omega (arith, p, q, r, s, h.same j le most);
  }

  -- the first one that is found
  pub found_first : (found : Option ℕ) → found ≡ None → first ≤ x.number → IsNextOf found first xs → IsNext x.number first (xs ++ x ∷ [])
  found_first (Some v) e le h = cc
  found_first None e le h = record {
    from_on = le;
    within = let g = last_greatest xs x in omega (arith, g);
    same = λ j le most. let p = last_at_least xs x j in let q = counted_below x.number x.power j most in
        let r = last_at_least xs x first in let s = counted_below x.number x.power first (omega arith) in
        omega (arith, p, q, r, s, h j le, h first (omega arith));
  }

  -- the lesser of two
  pub found_lesser : (found : Option ℕ) (v m : ℕ) → found ≡ Some v → min v x.number ≡ m → first ≤ x.number → IsNextOf found first xs
      → IsNext m first (xs ++ x ∷ [])
  found_lesser None v m e least le h = cc
  found_lesser (Some w) v m e least le h =
      let same : w ≡ v = cc in record {
        from_on = let f = h.from_on in omega (arith, f);
        within = let g = last_greatest xs x in omega (arith, g);
        same = λ j le most. let p = last_at_least xs x j in let q = counted_below x.number x.power j (omega arith) in
            let r = last_at_least xs x first in let s = counted_below x.number x.power first (omega arith) in
            let t = h.same j le (omega arith) in omega (arith, p, q, r, s, t);
      }

abbrev pub argument_with : ℕ → ℕ → Argument
argument_with number power = record { number = number; power = power }

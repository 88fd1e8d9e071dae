-- The rest of a long division in the places of the dividend: the coefficients that are still to come, and the rest behind them.
use Rattle.std.proofs.Common.{◌≡◌, ℕ, zero, suc, ◌+◌, ◌<◌, ◌≤◌, List, [], ◌∷◌, ◌++◌, map, length, get_or, take, drop, refl, sym, ap, ◌∙◌, arith, Option, Some, option_to_list}
use Rattle.std.proofs.lemmas.List.{length-map, length-append, get_or-map, get_or-take, map-append, drop_more, drop-append-le, take-append-le, length-take-le}
use Rattle.std.proofs.Math.Seq.{take-append_seam, drop-append_seam}
use Rattle.ring_laws.specs.Meaning.{Meaning}

take_front : {A : Type 0} (i : ℕ) (xs ys : List A) → take (suc i) xs ≡ take (suc i) ys → take i xs ≡ take i ys
take_front zero xs ys e = refl
take_front (suc i) [] [] e = refl
take_front (suc i) [] (y ∷ ys) e = cc
take_front (suc i) (x ∷ xs) [] e = cc
take_front (suc i) (x ∷ xs) (y ∷ ys) e =
    let h : x ≡ y = cc in
    let t : take (suc i) xs ≡ take (suc i) ys = cc in
    cc (h, take_front i xs ys t)

module _ {T : Type 0} (meaning : T → Meaning) where
  abbrev m : List T → List Meaning
  m xs = map meaning xs

  -- an item doesn't hang on what stands for a missing one
  pub chosen : (xs : List T) (i : ℕ) (d e : T) → i < length xs → get_or xs i d ≡ get_or xs i e
  chosen xs i d e b =
      let g : get_or xs i d ∷ drop (i + 1) xs ≡ get_or xs i e ∷ drop (i + 1) xs = sym (drop_more xs i d b) ∙ drop_more xs i e b in
      cc

  -- a list without its last item
  pub last_off : (rest new : List T) (top : T) (last : Option T) → rest ≡ new ++ option_to_list last → last ≡ Some top
      → length rest ≡ length new + 1
  last_off rest new top last f h = ap length (f ∙ ap (λ t. new ++ option_to_list t) h) ∙ length-append new (top ∷ [])

  -- a list with more behind it, up to its end and from there on
  pub padded_front : (xs list : List T) (zs : List Meaning) → map meaning list ≡ map meaning xs ++ zs
      → take (length xs) (map meaning list) ≡ take (length xs) (map meaning xs)
  padded_front xs list zs e = ap (take (length xs)) e ∙ take-append-le (length xs) (m xs) zs (omega (arith, length-map xs meaning))

  pub padded_rest : (xs list : List T) (zs : List Meaning) → map meaning list ≡ map meaning xs ++ zs → drop (length xs) (map meaning list) ≡ zs
  padded_rest xs list zs e =
      ap (drop (length xs)) e ∙ ap (λ k. drop k (m xs ++ zs)) (sym (length-map xs meaning)) ∙ drop-append_seam (m xs) zs

  -- the next coefficient and the rest, of which the last is taken off
  pub tops : (xs rest new : List T) (i : ℕ) (top : T) (last : Option T) → i < length xs → i < length rest → i ≤ length new
      → rest ≡ new ++ option_to_list last → last ≡ Some top → take (i + 1) (map meaning rest) ≡ take (i + 1) (map meaning xs)
      → meaning (get_or xs i top) ∷ drop (i + 1) (map meaning rest) ≡ drop i (map meaning new) ++ meaning top ∷ []
  tops xs rest new i top last p q r f h e =
      let s : m rest ≡ m new ++ meaning top ∷ [] =
      ap m (f ∙ ap (λ t. new ++ option_to_list t) h) ∙ map-append meaning new (top ∷ []) in
      let x : meaning (get_or xs i top) ≡ get_or (m rest) i (meaning top) =
      sym (get_or-map meaning xs i top (meaning top) p)
      ∙ sym (get_or-take (i + 1) (m xs) i (meaning top) (omega arith))
      ∙ ap (λ t. get_or t i (meaning top)) (sym e)
      ∙ get_or-take (i + 1) (m rest) i (meaning top) (omega arith) in
      ap (λ t. t ∷ drop (i + 1) (m rest)) x
      ∙ sym (drop_more (m rest) i (meaning top) (omega (arith, q, length-map rest meaning)))
      ∙ ap (drop i) s
      ∙ drop-append-le i (m new) (meaning top ∷ []) (omega (arith, r, length-map new meaning))

  -- the coefficients before stay, and what is put behind them is the new rest
  pub kept : (xs rest new : List T) (zs less : List Meaning) (i : ℕ) (top : T) (last : Option T) → i ≤ length new
      → rest ≡ new ++ option_to_list last → last ≡ Some top → take (i + 1) (map meaning rest) ≡ take (i + 1) (map meaning xs)
      → zs ≡ take i (map meaning new) ++ less → (take i zs ≡ take i (map meaning xs)) × (drop i zs ≡ less)
  kept xs rest new zs less i top last r f h e is =
      let s : m rest ≡ m new ++ meaning top ∷ [] =
      ap m (f ∙ ap (λ t. new ++ option_to_list t) h) ∙ map-append meaning new (top ∷ []) in
      let n : suc i ≡ i + 1 = omega arith in
      let b : i ≤ length (m new) = omega (arith, r, length-map new meaning) in
      let k : length (take i (m new)) ≡ i = length-take-le i (m new) b in
      let front : take i (m new) ≡ take i (m xs) =
      sym (ap (take i) s ∙ take-append-le i (m new) (meaning top ∷ []) b)
      ∙ take_front i (m rest) (m xs) (ap (λ j. take j (m rest)) n ∙ e ∙ ap (λ j. take j (m xs)) (sym n)) in (
        ap (take i) is ∙ ap (λ j. take j (take i (m new) ++ less)) (sym k) ∙ take-append_seam (take i (m new)) less ∙ front,
        ap (drop i) is ∙ ap (λ j. drop j (take i (m new) ++ less)) (sym k) ∙ drop-append_seam (take i (m new)) less,
      )

-- The steps of the loops over the items of a list.
use Rattle.std.specs.Prelude.{◌≡◌, ℕ, zero, suc, ◌+◌, ◌<◌, List, [], ◌∷◌, ◌++◌, map, length, drop}
use Rattle.std.specs.List.{AllByRecursion, flat_map}
use Rattle.std.proofs.Common.{refl, ap, sym, subst, ◌∙◌, append_assoc, append-nil, add-one, get_or, arith, Bor}
use Rattle.std.proofs.Math.Seq.{drop-cons}
use Rattle.std.proofs.lemmas.List.{map-append}
use Rattle.exact_texts.specs.Texts.{joined}
use Rattle.exact_texts.specs.Formats.{Format}

-- the value that a piece spells
pub record SpelledNext {V : Type 0} (F : Format V) (vs : List V) (i : ℕ) (piece : List ℕ) : Type 0 where
  pub value : V
  pub has : F.Has value
  pub spelled : piece ≡ F.text value
  pub ahead : drop i vs ≡ value ∷ drop (suc i) vs

module _ {V : Type 0} (F : Format V) where
  pub spelled_next : (vs : List V) (pieces : List (Bor (List ℕ))) (i : ℕ) (d : Bor (List ℕ)) → AllByRecursion F.Has vs
      → map (λ p. p.now) pieces ≡ map F.text vs → i < length pieces → SpelledNext F vs i (get_or pieces i d).now
  spelled_next vs [] i d p e h = absurd (omega arith)
  spelled_next [] (q ∷ pieces) i d p e h = absurd cc
  spelled_next (v ∷ vs) (q ∷ pieces) zero d p e h =
      let same : q.now ≡ F.text v = cc in
      record { value = v; has = p.0; spelled = same; ahead = refl }
  spelled_next (v ∷ vs) (q ∷ pieces) (suc i) d p e h =
      let rest : map (λ x. x.now) pieces ≡ map F.text vs = cc in
      let next = spelled_next vs pieces i d p.1 rest (omega arith) in
      record { value = next.value; has = next.has; spelled = next.spelled; ahead = next.ahead }

  all_more : (vs : List V) (v : V) → AllByRecursion F.Has vs → F.Has v → AllByRecursion F.Has (vs ++ v ∷ [])
  all_more [] v p h = (h, tt)
  all_more (w ∷ vs) v p h = (p.0, all_more vs v p.1 h)

module _ {X V : Type 0} (F : Format V) (value_of : X → V) where
  pub has_more : (xs : List X) (x : X) → AllByRecursion F.Has (map value_of xs) → F.Has (value_of x)
      → AllByRecursion F.Has (map value_of (xs ++ x ∷ []))
  has_more xs x p h = subst (AllByRecursion F.Has) (sym (map-append value_of xs (x ∷ []))) (all_more F (map value_of xs) (value_of x) p h)

  pub has_at : (xs : List X) (i : ℕ) (x : X) → AllByRecursion F.Has (map value_of xs) → i < length xs → x ≡ get_or xs i x → F.Has (value_of x)
  has_at [] i x p h r = absurd (omega arith)
  has_at (y ∷ xs) zero x p h r = subst F.Has (ap value_of (sym r)) p.0
  has_at (y ∷ xs) (suc i) x p h r = has_at xs i x p.1 (omega arith) r

  -- one item more is read
  pub read_more : (vs : List V) (xs new : List X) (x : X) (i : ℕ) (piece : List ℕ) → SpelledNext F vs i piece → map value_of xs ++ drop i vs ≡ vs
      → new ≡ xs ++ x ∷ [] → ((v : V) → F.Has v → piece ≡ F.text v → value_of x ≡ v) → map value_of new ++ drop (i + 1) vs ≡ vs
  read_more vs xs new x i piece next e more read =
      let values = map value_of xs in
      let v = next.value in
      ap (λ t. map value_of t ++ drop (i + 1) vs) more ∙ ap (λ t. t ++ drop (i + 1) vs) (map-append value_of xs (x ∷ []))
      ∙ append_assoc values (value_of x ∷ []) (drop (i + 1) vs) ∙ ap (λ y. values ++ y ∷ drop (i + 1) vs) (read v next.has next.spelled)
      ∙ ap (λ j. values ++ v ∷ drop j vs) (add-one i) ∙ ap (λ t. values ++ t) (sym next.ahead) ∙ e

-- items with a separator between them are written
module _ {X V : Type 0} (F : Format V) (value_of : X → V) (separator : List ℕ) where
  -- items behind the first, each behind a separator
  abbrev pub behind_first : List X → List ℕ
  behind_first xs = flat_map (λ x. separator ++ F.text (value_of x)) xs

  pub items_behind : (x : X) (xs : List X) → F.text (value_of x) ++ behind_first xs ≡ joined separator (map F.text (map value_of (x ∷ xs)))
  items_behind x [] = append-nil (F.text (value_of x))
  items_behind x (y ∷ xs) = ap (λ t. F.text (value_of x) ++ t) (append_assoc separator (F.text (value_of y)) (behind_first xs)
      ∙ ap (λ t. separator ++ t) (items_behind y xs))

  -- the first item is written, and one more
  pub written_first : (old new : List ℕ) (xs others : List X) (x : X) → new ≡ old ++ F.text (value_of x) → xs ≡ x ∷ others
      → new ++ behind_first others ≡ old ++ joined separator (map F.text (map value_of xs))
  written_first old new xs others x e f =
      ap (λ t. t ++ behind_first others) e ∙ append_assoc old (F.text (value_of x)) (behind_first others)
      ∙ ap (λ t. old ++ t) (items_behind x others ∙ ap (λ t. joined separator (map F.text (map value_of t))) (sym f))

  pub written_more : (text pushed new whole : List ℕ) (xs : List X) (i : ℕ) (x : X) → pushed ≡ text ++ separator → new ≡ pushed ++ F.text (value_of x)
      → i < length xs → x ≡ get_or xs i x → text ++ behind_first (drop i xs) ≡ whole → new ++ behind_first (drop (i + 1) xs) ≡ whole
  written_more text pushed new whole xs i x p n h r e =
      let behind = behind_first (drop (i + 1) xs) in
      ap (λ t. t ++ behind) (n ∙ ap (λ t. t ++ F.text (value_of x)) p ∙ append_assoc text separator (F.text (value_of x)))
      ∙ append_assoc text (separator ++ F.text (value_of x)) behind
      ∙ ap (λ j. text ++ behind_first (x ∷ drop j xs)) (add-one i)
      ∙ ap (λ t. text ++ behind_first t) (sym (drop-cons xs i x h ∙ ap (λ y. y ∷ drop (suc i) xs) (sym r))) ∙ e

-- The factorials of the carrier: the forms of a list, each moved by a number that its slopes tell. So none stands twice.
use Rattle.std.proofs.Common.{◌≡◌, ◌≢◌, ℕ, ◌+◌, ◌≤◌, ◌<◌, ◌^◌, List, [], ◌∷◌, ◌++◌, map, drop, length, slice_get, Some, refl, ap, sym, ◌∙◌, arith, subst, append_assoc, add-one}
use Rattle.std.proofs.lemmas.Int.{ints}
use Rattle.std.specs.List.{AllByRecursion}
use Rattle.std.specs.Prelude.{ℤ, ◌+ℤ◌}
use Rattle.hypergeometric.specs.LinearForm.{LinearForm, Factor}
use Rattle.hypergeometric.specs.FormOrder.{NoFormTwice}
use Rattle.hypergeometric.specs.Forms.{form_with}
use Rattle.hypergeometric.specs.TermFacts.{total_power}
use Rattle.hypergeometric.specs.FactorLists.{factor_with, power_of, with_factor}
use Rattle.lin_form.proofs.ListProducts.{from_index, all_dropped}
use Rattle.term_pieces.specs.Products.{form_plus}
use Rattle.gosper_form.proofs.Pushes.{append_nothing}
use Rattle.gosper_form.proofs.GatheredForms.{goes_last, not_before}

module _ (a b : ℤ → ℤ) where
  abbrev pub moved_form : LinearForm → LinearForm
  moved_form f = form_plus (form_plus f (a f.n_slope)) (b f.k_slope)

  abbrev pub moved_item : Factor → Factor
  moved_item x = factor_with (moved_form x.form) x.power

  abbrev pub moved_forms : List Factor → List Factor
  moved_forms xs = map (λ x. factor_with (form_plus (form_plus x.form (a x.form.n_slope)) (b x.form.k_slope)) x.power) xs

  only_form : (f g : LinearForm) → moved_form f ≡ moved_form g → f ≡ g
  only_form f g e =
      let n : f.n_slope ≡ g.n_slope = ap (λ (l : LinearForm). l.n_slope) e in
      let k : f.k_slope ≡ g.k_slope = ap (λ (l : LinearForm). l.k_slope) e in
      let o : (f.offset +ℤ a f.n_slope) +ℤ b f.k_slope ≡ (g.offset +ℤ a g.n_slope) +ℤ b g.k_slope = ap (λ (l : LinearForm). l.offset) e in
      let same : f.offset ≡ g.offset = cancelled f.offset (a f.n_slope) (b f.k_slope) g.offset (a g.n_slope) (b g.k_slope) (ap a n) (ap b k) o in
      λ i. form_with (n i) (k i) (same i)
    where
      cancelled : (x s t y u v : ℤ) → s ≡ u → t ≡ v → (x +ℤ s) +ℤ t ≡ (y +ℤ u) +ℤ v → x ≡ y
      cancelled x s t y u v e h g = omega (arith, ints, e, h, g)

  others_differ : (x : Factor) (xs : List Factor) → AllByRecursion (λ y. y.form ≢ x.form) xs
      → AllByRecursion (λ y. y.form ≢ moved_form x.form) (moved_forms xs)
  others_differ x [] h = tt
  others_differ x (y ∷ xs) h = (λ e. h.0 (only_form y.form x.form e), others_differ x xs h.1)

  pub moved_distinct : (xs : List Factor) → NoFormTwice xs → NoFormTwice (moved_forms xs)
  moved_distinct [] h = tt
  moved_distinct (x ∷ xs) h = (others_differ x xs h.0, moved_distinct xs h.1)

  pub moved_total : (xs : List Factor) → total_power (moved_forms xs) ≡ total_power xs
  moved_total [] = refl
  moved_total (x ∷ xs) = ap (λ t. x.power + t) (moved_total xs)

  -- one form more
  module _ (xs done : List Factor) (i : ℕ) (x : Factor) (item : slice_get xs i ≡ Some x) (distinct : NoFormTwice xs)
      (leads : moved_forms xs ≡ done ++ moved_forms (drop i xs))
    where
      abbrev rest : List Factor
      rest = moved_forms (drop (i + 1) xs)

      next : moved_forms xs ≡ done ++ moved_item x ∷ rest
      next = leads ∙ ap (λ ys. done ++ moved_forms ys) (from_index xs i x item)
          ∙ ap (λ m. done ++ moved_item x ∷ moved_forms (drop m xs)) (sym (add-one i))

      whole : NoFormTwice (done ++ moved_item x ∷ rest)
      whole = subst NoFormTwice next (moved_distinct xs distinct)

      pub moved_more : (new : List Factor) → new ≡ with_factor (moved_form x.form) x.power done → moved_forms xs ≡ new ++ rest
      moved_more new e =
          next ∙ sym (append_assoc done (moved_item x ∷ []) rest)
          ∙ ap (λ t. t ++ rest) (sym (goes_last (moved_item x) done rest whole) ∙ sym e)

      pub moved_fits : x.power < 2 ^ 32 → power_of (moved_form x.form) done + x.power < 2 ^ 32
      moved_fits small =
          let none = not_before (moved_item x) done rest whole in
          omega (arith, none, small)

  pub moved_end : (xs done : List Factor) (i : ℕ) → length xs ≤ i → moved_forms xs ≡ done ++ moved_forms (drop i xs) → done ≡ moved_forms xs
  moved_end xs done i end leads = sym (leads ∙ ap (λ ys. done ++ moved_forms ys) (all_dropped xs i end) ∙ append_nothing done)

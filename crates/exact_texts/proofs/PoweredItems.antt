-- Items with powers are within a line, can stand in a list, and tell the item and the power.
use Rattle.std.specs.Prelude.{◌≡◌, ℕ, ◌^◌, ◌<◌, Bool, true, false, nat_eq, codes, List, [], ◌++◌, drop}
use Rattle.std.specs.Fmt.{decimal}
use Rattle.std.proofs.Common.{refl, ap, sym, ◌∙◌, arith, cond, lit<, lit≤}
use Rattle.std.proofs.lemmas.Bool.{eqb-true}
use Rattle.exact_texts.specs.Texts.{◌⧺◌, Only, other_than}
use Rattle.exact_texts.specs.Formats.{Format}
use Rattle.exact_texts.specs.Lines.{AreWithinLine}
use Rattle.exact_texts.specs.Lists.{AreItems}
use Rattle.exact_texts.specs.Beside.{IsWithout}
use Rattle.exact_texts.specs.Powered.{times_text, powered}
use Rattle.exact_texts.proofs.Cuts.{Stops, only_append, only_more, cut}
use Rattle.exact_texts.proofs.Numerals.{digit_bytes, only_decimal, decimal_determines}

times_only : (class : ℕ → Bool) → Only class digit_bytes → Only class (codes " x") → (p : ℕ) → p < 2 ^ 32 → Only class (times_text p)
times_only class d x p h = go (nat_eq p 1)
  where
    go : (b : Bool) → Only class (cond b [] (codes " x" ⧺ decimal p))
    go true = refl
    go false = only_append class (codes " x") (decimal p) x (only_more digit_bytes class (decimal p) d (only_decimal p (omega arith)))

times_stop : (p : ℕ) → Stops (other_than 32) (times_text p)
times_stop p = go (nat_eq p 1)
  where
    go : (b : Bool) → Stops (other_than 32) (cond b [] (codes " x" ⧺ decimal p))
    go true = tt
    go false = refl

times_told : (p q : ℕ) → p < 2 ^ 32 → q < 2 ^ 32 → times_text p ≡ times_text q → p ≡ q
times_told p q h k e = go (nat_eq p 1) refl (nat_eq q 1) refl e
  where
    go : (a : Bool) → nat_eq p 1 ≡ a → (b : Bool) → nat_eq q 1 ≡ b → cond a [] (codes " x" ⧺ decimal p) ≡ cond b [] (codes " x" ⧺ decimal q) → p ≡ q
    go true s true t x = eqb-true p 1 s ∙ sym (eqb-true q 1 t)
    go true s false t x = absurd cc
    go false s true t x = absurd cc
    go false s false t x = decimal_determines p q (omega arith) (omega arith) (ap (drop 2) x)

module _ {A : Type 0} (F : Format A) (spaceless : IsWithout 32 F) (f : AreWithinLine F) where
  powered_only : (class : ℕ → Bool) → Only class digit_bytes → Only class (codes " x") → ((v : A) → F.Has v → Only class (F.text v))
      → (p : A × ℕ) → (powered F).Has p → Only class ((powered F).text p)
  powered_only class d x only p h = only_append class (F.text p.0) (times_text p.1) (only p.0 h.0) (times_only class d x p.1 h.1.1)

  pub powered_within_line : AreWithinLine (powered F)
  powered_within_line = record {
    some = ((f.some.0, 1), (f.some.1, (lit≤ tt, lit< tt)));
    within = powered_only (other_than 10) refl refl f.within;
    determined = λ p q h k e.
        let parts = cut (other_than 32) (F.text p.0) (F.text q.0) (times_text p.1) (times_text q.1) (spaceless p.0 h.0) (spaceless q.0 k.0)
        (times_stop p.1) (times_stop q.1) e in
        let first = f.determined p.0 q.0 h.0 k.0 parts.0 in
        let second = times_told p.1 q.1 h.1.1 k.1.1 parts.1 in
        λ i. (first i, second i);
  }

  -- the item and the power are found
  pub powered_found : (p : A × ℕ) → (powered F).Has p → (text : List ℕ) → text ≡ (powered F).text p
      → (front back : List ℕ) → Only (other_than 32) front
      → Stops (other_than 32) back → text ≡ front ++ back → (front ≡ F.text p.0) × (back ≡ times_text p.1)
  powered_found p h text e front back only stops s =
      cut (other_than 32) front (F.text p.0) back (times_text p.1) only (spaceless p.0 h.0) stops (times_stop p.1) (sym s ∙ e)

  pub powered_are_items : AreItems F → AreItems (powered F)
  powered_are_items g = record {
    commas = powered_only (other_than 44) refl refl g.commas;
    semicolons = powered_only (other_than 59) refl refl g.semicolons;
    not_none = λ p h e.
        let parts = cut (other_than 32) (F.text p.0) (codes "-") (times_text p.1) [] (spaceless p.0 h.0) refl (times_stop p.1) tt e in
        g.not_none p.0 h.0 parts.0;
  }

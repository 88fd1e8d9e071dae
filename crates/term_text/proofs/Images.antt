-- The code's steps and the grammar's.
use Rattle.std.specs.Prelude.{if◌then◌else◌, not, ◌&&◌}
use Rattle.term_text.specs.declared.state.Opened.TheVariants.{Lower}
use Rattle.std.proofs.Common.{◌≡◌, ℕ, Bool, true, false, List, [], ◌∷◌, ◌++◌, Option, Some, None, refl, ap, ◌∙◌}
use Rattle.grammar.specs.Token as t
use Rattle.grammar.specs.Grammar.{Sum, product_alone, minus_product, product_more, sum_place, Product, power_alone, power_more, product_place, Power, postfix_alone, raised, atom_alone, factorial_at, Atom, number, the_n, the_k, bracket, choose}
use Rattle.grammar.proofs.State as g
use Rattle.term_text.specs.declared.ast.Ast.{Ast}
use Rattle.term_text.specs.declared.ast.Part.{Part}
use Rattle.term_text.specs.declared.ast.Node.TheVariants as node
use Rattle.term_text.specs.declared.state.Outer.{Outer}
use Rattle.term_text.specs.declared.state.Level.{Level}
use Rattle.term_text.specs.declared.state.State.{State}
use Rattle.term_text.specs.declared.state.Stage.TheVariants as stage
use Rattle.term_text.specs.Code.Steps.{part_at, is_empty, joined_product, joined_sum, filled, inner, step_atom, more_terms, more_factors, whole_sum, with_first, split_last, close_outer, comma_outer, step_closing, step_comma, step_bang, step_caret, step}
use Rattle.term_text.specs.Code.Image.{sum_ast, sum_part_asts, product_ast, product_part_asts, power_ast, atom_ast, terms_of, sum_at_of, subtracted_of, factors_of, product_at_of, divided_of, level_image, outer_image, stack_image, last_image, image, token_image, image_of}

pub split_last-snoc : (os : List Outer) (o : Outer) → split_last (os ++ o ∷ []) ≡ Some (os, o)
split_last-snoc [] o = refl
split_last-snoc (p ∷ os) o = ap (with_first p) (split_last-snoc os o)

pub snoc_not_empty : {A : Type 0} (xs : List A) (x : A) → is_empty (xs ++ x ∷ []) ≡ false
snoc_not_empty [] x = refl
snoc_not_empty (y ∷ xs) x = refl

sum_has_parts : (s : Sum) → is_empty (sum_part_asts s) ≡ false
sum_has_parts (product_alone p) = refl
sum_has_parts (minus_product at p) = refl
sum_has_parts (product_more s turned at p) = snoc_not_empty (sum_part_asts s) _

product_has_parts : (p : Product) → is_empty (product_part_asts p) ≡ false
product_has_parts (power_alone w) = refl
product_has_parts (power_more p turned at w) = snoc_not_empty (product_part_asts p) _

joined_product_more : (fs : List Part) (at : ℕ) (divided : Bool) (a : Ast) → is_empty fs ≡ false →
    joined_product fs at divided a ≡ record { at = at; node = node.Product (fs ++ part_at divided a) }
joined_product_more [] at divided a e = absurd (differ e)
  where
    differ : true ≡ false → ⊥
    differ d = cc
joined_product_more (f ∷ fs) at divided a e = refl

joined_sum_more : (fs : List Part) (at : ℕ) (subtracted : Bool) (a : Ast) → is_empty fs ≡ false →
    joined_sum fs at subtracted a ≡ record { at = at; node = node.Sum (fs ++ part_at subtracted a) }
joined_sum_more [] at subtracted a e = absurd (differ e)
  where
    differ : true ≡ false → ⊥
    differ d = cc
joined_sum_more (f ∷ fs) at true a e = refl
joined_sum_more (f ∷ fs) at false a e = refl

product_image : (p : g.BeforePower) (w : Power) → joined_product (factors_of p) (product_at_of p) (divided_of p) (power_ast w) ≡ product_ast (g.closed_product p w)
product_image g.at_first w = refl
product_image (g.after_product p turned at) w = joined_product_more (product_part_asts p) (product_place p at) turned (power_ast w) (product_has_parts p)

sum_image : (s : g.BeforeProduct) (p : Product) → joined_sum (terms_of s) (sum_at_of s) (subtracted_of s) (product_ast p) ≡ sum_ast (g.closed_sum s p)
sum_image g.at_start p = refl
sum_image (g.after_minus at) p = refl
sum_image (g.after_sum s turned at) p = joined_sum_more (sum_part_asts s) (sum_place s at) turned (product_ast p) (sum_has_parts s)

pub whole_image : (s : g.BeforeProduct) (p : g.BeforePower) (b : g.BeforeAtom) (w : Power) → whole_sum (level_image s p b) (power_ast w) ≡ sum_ast (g.level_sum s p w)
whole_image s p b w = ap (joined_sum (terms_of s) (sum_at_of s) (subtracted_of s)) (product_image p w) ∙ sum_image s (g.closed_product p w)

filled_image : (l : g.Level) (st : List g.Open) (a : Atom) → filled (level_image l.product l.power l.atom) (stack_image st) (atom_ast a) ≡ image (g.with_atom l st a)
filled_image l st a = go l.atom
  where
    go : (b : g.BeforeAtom) → filled (level_image l.product l.power b) (stack_image st) (atom_ast a) ≡ image (g.has_power l.product l.power (g.power_with b a) st)
    go g.at_base = refl
    go (g.after_base q at) = refl

-- what a sign makes of the parts before it
terms_image : (s : g.BeforeProduct) (p : Product) → terms_of s ++ part_at (subtracted_of s) (product_ast p) ≡ sum_part_asts (g.closed_sum s p)
terms_image g.at_start p = refl
terms_image (g.after_minus at) p = refl
terms_image (g.after_sum s turned at) p = refl

factors_image : (p : g.BeforePower) (w : Power) → factors_of p ++ part_at (divided_of p) (power_ast w) ≡ product_part_asts (g.closed_product p w)
factors_image g.at_first w = refl
factors_image (g.after_product p turned at) w = refl

sum_at_image : (s : g.BeforeProduct) (p : Product) (at : ℕ) →
    (if is_empty (terms_of s) && not (subtracted_of s) then at else sum_at_of s) ≡ sum_place (g.closed_sum s p) at
sum_at_image g.at_start p at = refl
sum_at_image (g.after_minus b) p at = refl
sum_at_image (g.after_sum s turned b) p at = ap (λ z. if z && not turned then at else sum_place s b) (sum_has_parts s)

product_at_image : (p : g.BeforePower) (w : Power) (at : ℕ) →
    (if is_empty (factors_of p) then at else product_at_of p) ≡ product_place (g.closed_product p w) at
product_at_image g.at_first w at = refl
product_at_image (g.after_product p turned b) w at = ap (λ z. if z then at else product_place p b) (product_has_parts p)

more_terms_image : (s : g.BeforeProduct) (p : g.BeforePower) (w : Power) (at : ℕ) (turned : Bool) →
    more_terms (level_image s p g.at_base) (power_ast w) at turned ≡ level_image (g.after_sum (g.level_sum s p w) turned at) g.at_first g.at_base
more_terms_image s p w at turned =
    let terms : terms_of s ++ part_at (subtracted_of s) (joined_product (factors_of p) (product_at_of p) (divided_of p) (power_ast w)) ≡ sum_part_asts (g.level_sum s p w)
    = ap (λ z. terms_of s ++ part_at (subtracted_of s) z) (product_image p w) ∙ terms_image s (g.closed_product p w) in
    λ i. record {
      terms = terms i;
      sum_at = sum_at_image s (g.closed_product p w) at i;
      subtracted = turned;
      factors = [];
      product_at = 0;
      divided = false;
      base = None;
    }

more_factors_image : (s : g.BeforeProduct) (p : g.BeforePower) (w : Power) (at : ℕ) (turned : Bool) →
    more_factors (level_image s p g.at_base) (power_ast w) at turned ≡ level_image s (g.after_product (g.closed_product p w) turned at) g.at_base
more_factors_image s p w at turned = λ i. record {
  terms = terms_of s;
  sum_at = sum_at_of s;
  subtracted = subtracted_of s;
  factors = factors_image p w i;
  product_at = product_at_image p w at i;
  divided = turned;
  base = None;
}

negate_image : (s : g.BeforeProduct) (p : g.BeforePower) (b : g.BeforeAtom) (st : List g.Open) (at : ℕ) →
    step_atom (level_image s p b) (stack_image st) (token_image t.minus) at ≡ image_of (g.at_minus s p b at st)
negate_image g.at_start g.at_first g.at_base st at = refl
negate_image g.at_start g.at_first (g.after_base q c) st at = refl
negate_image g.at_start (g.after_product p turned c) b st at = rw (product_has_parts p) refl
negate_image (g.after_minus c) p b st at = refl
negate_image (g.after_sum s turned c) p b st at = rw (sum_has_parts s) refl

closing_image : (s : g.BeforeProduct) (p : g.BeforePower) (w : Power) (st : List g.Open) (at : ℕ) →
    step_closing (level_image s p g.at_base) (stack_image st) (power_ast w) ≡ image_of (g.at_closing (g.level_sum s p w) at st)
closing_image s p w [] at = refl
closing_image s p w (o ∷ st) at = ap after (split_last-snoc (stack_image st) (outer_image o)) ∙ go o.1
  where
    after : Option (List Outer × Outer) → Option State
    after x = elim x as (λ _. Option State) [ None ↦ None | Some x ↦ close_outer x.1 x.0 (whole_sum (level_image s p g.at_base) (power_ast w)) ]

    go : (k : g.Opened) → close_outer (outer_image (o.0, k)) (stack_image st) (whole_sum (level_image s p g.at_base) (power_ast w)) ≡ image_of (g.at_closing (g.level_sum s p w) at ((o.0, k) ∷ st))
    go (g.by_bracket b) =
        ap (λ a. Some (filled (level_image o.0.product o.0.power o.0.atom) (stack_image st) a)) (whole_image s p g.at_base w)
        ∙ ap Some (filled_image o.0 st (bracket b (g.level_sum s p w) at))
    go (g.by_choose n b) = refl
    go (g.by_comma n b u c) =
        ap (λ a. Some (filled (level_image o.0.product o.0.power o.0.atom) (stack_image st) (record { at = n; node = node.Binomial (sum_ast u) a }))) (whole_image s p g.at_base w)
        ∙ ap Some (filled_image o.0 st (choose n b u c (g.level_sum s p w) at))

comma_image : (s : g.BeforeProduct) (p : g.BeforePower) (w : Power) (st : List g.Open) (at : ℕ) →
    step_comma (level_image s p g.at_base) (stack_image st) (power_ast w) ≡ image_of (g.at_comma (g.level_sum s p w) at st)
comma_image s p w [] at = refl
comma_image s p w (o ∷ st) at = ap after (split_last-snoc (stack_image st) (outer_image o)) ∙ go o.1
  where
    after : Option (List Outer × Outer) → Option State
    after x = elim x as (λ _. Option State) [ None ↦ None | Some x ↦ comma_outer x.1 x.0 (whole_sum (level_image s p g.at_base) (power_ast w)) ]

    go : (k : g.Opened) → comma_outer (outer_image (o.0, k)) (stack_image st) (whole_sum (level_image s p g.at_base) (power_ast w)) ≡ image_of (g.at_comma (g.level_sum s p w) at ((o.0, k) ∷ st))
    go (g.by_bracket b) = refl
    go (g.by_choose n b) = ap (λ a. Some (inner (level_image o.0.product o.0.power o.0.atom) (Lower n a) (stack_image st))) (whole_image s p g.at_base w)
    go (g.by_comma n b u c) = refl

bang_image : (s : g.BeforeProduct) (p : g.BeforePower) (w : Power) (st : List g.Open) (at : ℕ) →
    step_bang (level_image s p g.at_base) (stack_image st) (power_ast w) (last_image w) at ≡ image_of (g.at_bang s p w at st)
bang_image s p (postfix_alone (atom_alone a)) st at = refl
bang_image s p (postfix_alone (factorial_at a c)) st at = refl
bang_image s p (raised q c a) st at = refl

caret_image : (s : g.BeforeProduct) (p : g.BeforePower) (w : Power) (st : List g.Open) (at : ℕ) →
    step_caret (level_image s p g.at_base) (stack_image st) (power_ast w) (last_image w) at ≡ image_of (g.at_caret s p w at st)
caret_image s p (postfix_alone (atom_alone a)) st at = refl
caret_image s p (postfix_alone (factorial_at a c)) st at = refl
caret_image s p (raised q c a) st at = refl

wanting : List g.Open → Level → Option State
wanting st l = Some (record { stage = stage.Atom; level = l; outer = stack_image st })

pub step_image : (s : g.State) (at : ℕ) (x : t.Token) → step (image s) (token_image x) at ≡ image_of (g.step s at x)
unfolding wanting
step_image (g.wants_atom l st) at (t.digits v) = ap Some (filled_image l st (number at v))
step_image (g.wants_atom l st) at t.name_n = ap Some (filled_image l st (the_n at))
step_image (g.wants_atom l st) at t.name_k = ap Some (filled_image l st (the_k at))
step_image (g.wants_atom l st) at t.name_binomial = refl
step_image (g.wants_atom l st) at t.opening = refl
step_image (g.wants_atom l st) at t.minus = negate_image l.product l.power l.atom st at
step_image (g.wants_atom l st) at t.plus = refl
step_image (g.wants_atom l st) at t.star = refl
step_image (g.wants_atom l st) at t.slash = refl
step_image (g.wants_atom l st) at t.caret = refl
step_image (g.wants_atom l st) at t.bang = refl
step_image (g.wants_atom l st) at t.closing = refl
step_image (g.wants_atom l st) at t.comma = refl
step_image (g.wants_atom l st) at t.semicolon = refl
step_image (g.wants_opening n l st) at t.opening = refl
step_image (g.wants_opening n l st) at (t.digits v) = refl
step_image (g.wants_opening n l st) at t.name_n = refl
step_image (g.wants_opening n l st) at t.name_k = refl
step_image (g.wants_opening n l st) at t.name_binomial = refl
step_image (g.wants_opening n l st) at t.plus = refl
step_image (g.wants_opening n l st) at t.minus = refl
step_image (g.wants_opening n l st) at t.star = refl
step_image (g.wants_opening n l st) at t.slash = refl
step_image (g.wants_opening n l st) at t.caret = refl
step_image (g.wants_opening n l st) at t.bang = refl
step_image (g.wants_opening n l st) at t.closing = refl
step_image (g.wants_opening n l st) at t.comma = refl
step_image (g.wants_opening n l st) at t.semicolon = refl
step_image (g.has_power s p w st) at t.plus = ap (wanting st) (more_terms_image s p w at false)
step_image (g.has_power s p w st) at t.minus = ap (wanting st) (more_terms_image s p w at true)
step_image (g.has_power s p w st) at t.star = ap (wanting st) (more_factors_image s p w at false)
step_image (g.has_power s p w st) at t.slash = ap (wanting st) (more_factors_image s p w at true)
step_image (g.has_power s p w st) at t.caret = caret_image s p w st at
step_image (g.has_power s p w st) at t.bang = bang_image s p w st at
step_image (g.has_power s p w st) at t.closing = closing_image s p w st at
step_image (g.has_power s p w st) at t.comma = comma_image s p w st at
step_image (g.has_power s p w st) at (t.digits v) = refl
step_image (g.has_power s p w st) at t.name_n = refl
step_image (g.has_power s p w st) at t.name_k = refl
step_image (g.has_power s p w st) at t.name_binomial = refl
step_image (g.has_power s p w st) at t.opening = refl
step_image (g.has_power s p w st) at t.semicolon = refl

-- The steps of the code over a text and the grammar's.
use Rattle.std.proofs.Common.{◌≡◌, ℕ, Bool, true, false, List, [], ◌∷◌, ◌++◌, Option, Some, None, refl, ap, ◌∙◌}
use Rattle.std.specs.Prelude.{if◌then◌else◌, not}
use Rattle.grammar.specs.Token as t
use Rattle.grammar.specs.Grammar.{Sum, Power}
use Rattle.grammar.specs.Several.{Terms, term_alone, term_more, Derivation, only_terms}
use Rattle.grammar.specs.Several as g
use Rattle.grammar.proofs.State as s
use Rattle.grammar.proofs.States as m
use Rattle.term_text.specs.declared.ast.Ast.{Ast}
use Rattle.term_text.specs.declared.state.Outer.{Outer}
use Rattle.term_text.specs.declared.state.State.{State}
use Rattle.term_text.specs.declared.state.Stage.TheVariants as stage
use Rattle.term_text.specs.declared.several.Kind.{Kind}
use Rattle.term_text.specs.declared.several.Kind.TheVariants.{Term, Pair, Boxed, Recurrence}
use Rattle.term_text.specs.declared.several.Now.TheVariants as now
use Rattle.term_text.specs.declared.several.Several.{Several}
use Rattle.term_text.specs.Code.Steps.{is_empty}
use Rattle.term_text.specs.Code.Image.{sum_ast, power_ast, level_image, outer_image, stack_image, last_image, image, token_image, image_of}
use Rattle.term_text.specs.Code.BoundSteps.{no_bounds}
use Rattle.term_text.specs.Code.SeveralSteps as c
use Rattle.term_text.specs.Code.SeveralSteps.{whole_at, whole, with_last, with_now, step_several, begun, terms_alone, whole_contents}
use Rattle.term_text.specs.Code.SeveralImage.{kind_of, terms_asts, before_asts, several_image, several_image_of, contents_of}
use Rattle.term_text.proofs.Images.{step_image, whole_image, snoc_not_empty}
use Rattle.term_text.proofs.BoundImages.{bounds_step, four_image}

differ : {B : Type 0} → false ≡ true → B
differ e = absurd (no_path e)
  where
    no_path : false ≡ true → ⊥
    no_path d = cc

-- one term
whole_open : (p : s.BeforeProduct) (q : s.BeforePower) (w : Power) (os : List Outer) (o : Outer) →
    whole_at (stage.More (power_ast w) (last_image w)) (level_image p q s.at_base) (os ++ o ∷ []) ≡ None
whole_open p q w [] o = refl
whole_open p q w (r ∷ os) o = refl

abbrev ast_of : Option Sum → Option Ast
ast_of None = None
ast_of (Some c) = Some (sum_ast c)

whole_is : (x : s.State) → whole (image x) ≡ ast_of (s.finished x)
whole_is (s.has_power p q w []) = ap Some (whole_image p q s.at_base w)
whole_is (s.has_power p q w (o ∷ st)) = whole_open p q w (stack_image st) (outer_image o)
whole_is (s.wants_atom l st) = refl
whole_is (s.wants_opening n l st) = refl

-- what stands before
has_terms : (ts : Terms) → is_empty (terms_asts ts) ≡ false
has_terms (term_alone c) = refl
has_terms (term_more ts at c) = snoc_not_empty (terms_asts ts) (sum_ast c)

last_asts : (b : m.Before) (c : Sum) → before_asts b ++ sum_ast c ∷ [] ≡ terms_asts (m.with_term b c)
last_asts None c = refl
last_asts (Some b) c = refl

open_image : (kind : Kind) (b : m.Before) (x : Sum) → c.is_open kind (before_asts b) ≡ m.is_open (kind_of kind) (m.with_term b x)
open_image Term b x = refl
open_image Pair None x = refl
open_image Pair (Some b) x = has_terms b.0
open_image Boxed None x = refl
open_image Boxed (Some b) x = has_terms b.0
open_image Recurrence b x = refl

takes_image : (kind : Kind) (b : m.Before) (x : Sum) → m.GoesOnTerms (kind_of kind) b → c.takes_bounds kind (before_asts b) ≡ m.takes_bounds (kind_of kind) (m.with_term b x)
takes_image Term b x on = refl
takes_image Pair b x on = refl
takes_image Recurrence b x on = refl
takes_image Boxed None x on = refl
takes_image Boxed (Some (term_alone d, at)) x on = refl
takes_image Boxed (Some (term_more ts a d, at)) x on = differ on

ends_image : (kind : Kind) (b : m.Before) (x : Sum) → m.GoesOnTerms (kind_of kind) b → c.is_whole kind (before_asts b) ≡ g.is_whole (kind_of kind) (only_terms (m.with_term b x))
ends_image Term None x on = refl
ends_image Term (Some b) x on = has_terms b.0
ends_image Pair None x on = refl
ends_image Pair (Some (term_alone d, at)) x on = refl
ends_image Pair (Some (term_more ts a d, at)) x on = differ on
ends_image Boxed b x on = refl
ends_image Recurrence None x on = refl
ends_image Recurrence (Some b) x on = ap not (has_terms b.0)

either_way : {A : Type 0} (x : Bool) (a : A) → (if x then a else a) ≡ a
either_way true a = refl
either_way false a = refl

-- what begins behind a semicolon
abbrev part_behind : Kind → List Ast → Option Ast → Option Several
part_behind kind before o =
    if c.is_open kind before then begun (now.Term c.begin) (with_last before o)
    else if c.takes_bounds kind before then begun (now.Bounds no_bounds) (with_last before o)
    else None

no_part : (x y : Bool) (o : Option Several) → (if x then o else if y then o else o) ≡ o
no_part true y o = refl
no_part false y o = either_way y o

next_image : (kind : Kind) (b : m.Before) (x : s.State) (at : ℕ) → m.GoesOnTerms (kind_of kind) b →
    c.next_part kind (before_asts b) (image x)
    ≡ several_image_of (elim (s.finished x) as (λ _. Option m.States) [ None ↦ None | Some d ↦ m.at_semicolon (kind_of kind) (m.with_term b d) at ])
next_image kind b x at on = ap (part_behind kind (before_asts b)) (whole_is x) ∙ go (s.finished x)
  where
    by_both : (d : Sum) (o p : Bool) →
        (if o then begun (now.Term c.begin) (Some (before_asts b ++ sum_ast d ∷ [])) else if p then begun (now.Bounds no_bounds) (Some (before_asts b ++ sum_ast d ∷ [])) else None)
        ≡ several_image_of (if o then Some (m.in_term (Some (m.with_term b d, at)) s.begin)
        else if p then Some (m.in_bounds (m.with_term b d) at None m.wants_bound)
        else None)
    by_both d true p = ap (λ l. begun (now.Term c.begin) (Some l)) (last_asts b d)
    by_both d false true = ap (λ l. begun (now.Bounds no_bounds) (Some l)) (last_asts b d)
    by_both d false false = refl

    go : (o : Option Sum) → part_behind kind (before_asts b) (ast_of o)
        ≡ several_image_of (elim o as (λ _. Option m.States) [ None ↦ None | Some d ↦ m.at_semicolon (kind_of kind) (m.with_term b d) at ])
    go None = no_part (c.is_open kind (before_asts b)) (c.takes_bounds kind (before_asts b)) None
    go (Some d) =
        let all : List Ast = before_asts b ++ sum_ast d ∷ [] in
        ap (λ o. if o then begun (now.Term c.begin) (Some all) else if c.takes_bounds kind (before_asts b) then begun (now.Bounds no_bounds) (Some all) else None) (open_image kind b d)
        ∙ ap (λ p. if m.is_open (kind_of kind) (m.with_term b d) then begun (now.Term c.begin) (Some all) else if p then begun (now.Bounds no_bounds) (Some all) else None) (takes_image kind b d on)
        ∙ by_both d (m.is_open (kind_of kind) (m.with_term b d)) (m.takes_bounds (kind_of kind) (m.with_term b d))

now_image : (b : m.Before) (x : s.State) (at : ℕ) (y : t.Token) (o : Option State) → o ≡ image_of (s.step x at y) → with_now (before_asts b) o
    ≡ several_image_of (elim (s.step x at y) as (λ _. Option m.States) [ None ↦ None | Some z ↦ Some (m.in_term b z) ])
now_image b x at y o e = ap (with_now (before_asts b)) e ∙ go (s.step x at y)
  where
    go : (o : Option s.State) → with_now (before_asts b) (image_of o)
        ≡ several_image_of (elim o as (λ _. Option m.States) [ None ↦ None | Some z ↦ Some (m.in_term b z) ])
    go None = refl
    go (Some z) = refl

term_step : (kind : Kind) (b : m.Before) (x : s.State) (at : ℕ) (y : t.Token) → m.GoesOnTerms (kind_of kind) b →
    c.step_term kind (before_asts b) (image x) (token_image y) at ≡ several_image_of (m.step_terms (kind_of kind) (m.in_term b x) at y)
term_step kind b x at t.semicolon on = next_image kind b x at on
term_step kind b x at (t.digits v) on = now_image b x at (t.digits v) _ (step_image x at (t.digits v))
term_step kind b x at t.name_n on = now_image b x at t.name_n _ (step_image x at t.name_n)
term_step kind b x at t.name_k on = now_image b x at t.name_k _ (step_image x at t.name_k)
term_step kind b x at t.name_binomial on = now_image b x at t.name_binomial _ (step_image x at t.name_binomial)
term_step kind b x at t.plus on = now_image b x at t.plus _ (step_image x at t.plus)
term_step kind b x at t.minus on = now_image b x at t.minus _ (step_image x at t.minus)
term_step kind b x at t.star on = now_image b x at t.star _ (step_image x at t.star)
term_step kind b x at t.slash on = now_image b x at t.slash _ (step_image x at t.slash)
term_step kind b x at t.caret on = now_image b x at t.caret _ (step_image x at t.caret)
term_step kind b x at t.bang on = now_image b x at t.bang _ (step_image x at t.bang)
term_step kind b x at t.opening on = now_image b x at t.opening _ (step_image x at t.opening)
term_step kind b x at t.closing on = now_image b x at t.closing _ (step_image x at t.closing)
term_step kind b x at t.comma on = now_image b x at t.comma _ (step_image x at t.comma)

pub several_step : (kind : Kind) (x : m.States) (at : ℕ) (y : t.Token) → m.GoesOn (kind_of kind) x →
    step_several kind (several_image x) (token_image y) at ≡ several_image_of (m.step_terms (kind_of kind) x at y)
several_step kind (m.in_term b x) at y on = term_step kind b x at y on
several_step kind (m.in_bounds ts place b x) at y on = bounds_step ts place b x at y

-- the end
whole_without : (kind : Kind) (b : m.Before) (x : s.State) → m.GoesOnTerms (kind_of kind) b →
    c.only_terms kind (before_asts b) (image x) ≡ contents_of (m.finished_terms (kind_of kind) (m.in_term b x))
whole_without kind b x on =
    ap (λ o. if c.is_whole kind (before_asts b) then terms_alone (with_last (before_asts b) o) else None) (whole_is x) ∙ go (s.finished x)
  where
    by_whole : (d : Sum) (o : Bool) → (if o then terms_alone (Some (before_asts b ++ sum_ast d ∷ [])) else None)
        ≡ contents_of (if o then Some (only_terms (m.with_term b d)) else None)
    by_whole d true = ap (λ l. terms_alone (Some l)) (last_asts b d)
    by_whole d false = refl

    go : (o : Option Sum) → (if c.is_whole kind (before_asts b) then terms_alone (with_last (before_asts b) (ast_of o)) else None)
        ≡ contents_of (elim o as (λ _. Option Derivation) [ None ↦ None | Some d ↦ m.where_whole (kind_of kind) (only_terms (m.with_term b d)) ])
    go None = either_way (c.is_whole kind (before_asts b)) None
    go (Some d) = ap (λ z. if z then terms_alone (Some (before_asts b ++ sum_ast d ∷ [])) else None) (ends_image kind b d on)
        ∙ by_whole d (g.is_whole (kind_of kind) (only_terms (m.with_term b d)))

whole_box : (kind : Kind) (ts : Terms) (place : ℕ) (b : m.BeforeBound) (x : m.BoundState) → m.takes_bounds (kind_of kind) ts ≡ true →
    whole_contents kind (several_image (m.in_bounds ts place b x)) ≡ contents_of (m.finished_terms (kind_of kind) (m.in_bounds ts place b x))
whole_box Boxed (term_more (term_alone d) at e) place b (m.has_bound x) takes = four_image (term_more (term_alone d) at e) place b x
whole_box Boxed (term_more (term_alone d) at e) place b m.wants_bound takes = refl
whole_box Boxed (term_more (term_alone d) at e) place b (m.wants_digits a) takes = refl
whole_box Boxed (term_alone d) place b x takes = differ takes
whole_box Boxed (term_more (term_more ts a d) at e) place b x takes = differ takes
whole_box Term ts place b x takes = differ takes
whole_box Pair ts place b x takes = differ takes
whole_box Recurrence ts place b x takes = differ takes

pub whole_contents_is : (kind : Kind) (x : m.States) → m.GoesOn (kind_of kind) x → whole_contents kind (several_image x) ≡ contents_of (m.finished_terms (kind_of kind) x)
whole_contents_is kind (m.in_term b x) on = whole_without kind b x on
whole_contents_is kind (m.in_bounds ts place b x) on = whole_box kind ts place b x on.0

-- One turn of the reader.
use Rattle.std.proofs.Common.{◌≡◌, ℕ, ◌+◌, ◌-◌, Bool, true, false, suc, List, [], ◌∷◌, ◌++◌, Option, Some, None, Result, Ok, Err, refl, ap, sym, ◌∙◌, subst, arith, length, take, drop, map}
use Rattle.std.specs.Prelude.{if◌then◌else◌, ◌&&◌, ◌==◌}
use Rattle.std.proofs.lemmas.List.{length-append}
use Rattle.std.proofs.lemmas.Bool.{eqb-true}
use Rattle.grammar.specs.Token as t
use Rattle.grammar.specs.Tokens as k
use Rattle.grammar.specs.Reading as r
use Rattle.grammar.specs.Several.{Derivation, derivation_trees}
use Rattle.grammar.specs.Several as g_kind
use Rattle.grammar.proofs.States as g
use Rattle.grammar.proofs.TermKinds.{accepted}
use Rattle.grammar.proofs.Follows.{goes_on}
use Rattle.grammar.proofs.SmallLiterals.{AreSmall, small_tokens}
use Rattle.grammar.proofs.Fitting.{run_snoc, open_snoc, fitting_start, fitting_more, fault_flawed, fault_nesting, fault_unexpected, fault_end, contents_at_end}
use Rattle.term_text.specs.declared.state.Token.{Token}
use Rattle.term_text.specs.declared.front.Flaw.{Flaw}
use Rattle.term_text.specs.declared.front.Front.TheVariants as front
use Rattle.term_text.specs.declared.fault.TextFault.{TextFault}
use Rattle.term_text.specs.declared.fault.TextFault.TheVariants.{Unexpected, UnknownName, UnclosedParen, EmptyInput, NotAscii, Nesting, LiteralTooLarge, Memory}
use Rattle.term_text.specs.declared.read.Progress.{Progress}
use Rattle.term_text.specs.Code.Steps.{is_empty}
use Rattle.term_text.specs.Code.Image.{token_image}
use Rattle.term_text.specs.Code.Fronts.{front_image, flaw_image}
use Rattle.term_text.specs.View.{tree_of}
use Rattle.term_text.specs.declared.several.Kind.{Kind}
use Rattle.term_text.specs.declared.several.Contents.{Contents}
use Rattle.term_text.specs.Code.SeveralSteps.{whole_contents, step_several}
use Rattle.term_text.specs.Code.SeveralImage.{kind_of, several_image_of, contents, contents_of}
use Rattle.term_text.specs.Answers.{HasFault}
use Rattle.term_text.specs.Code.Progress.{start, without_last, placed, is_opening, taken_state, taken, fault_of_flaw, last_of, end_fault, Fails, ended, places_image, IsAfter}
use Rattle.term_text.proofs.SeveralImages.{several_step, whole_contents_is}
use Rattle.term_text.proofs.DerivationTrees.{contents_are}

pub last_of-snoc : (ps : List ℕ) (a : ℕ) → last_of (ps ++ a ∷ []) ≡ Some a
last_of-snoc [] a = refl
last_of-snoc (b ∷ []) a = refl
last_of-snoc (b ∷ c ∷ ps) a = last_of-snoc (c ∷ ps) a

take_snoc : (ps : List ℕ) (a : ℕ) → take (length ps) (ps ++ a ∷ []) ≡ ps
take_snoc [] a = refl
take_snoc (p ∷ ps) a = ap (λ z. p ∷ z) (take_snoc ps a)

without_last-snoc : (ps : List ℕ) (a : ℕ) → without_last (ps ++ a ∷ []) ≡ ps
without_last-snoc ps a = ap (λ n. take n (ps ++ a ∷ [])) (one_less (length ps) (length (ps ++ a ∷ [])) (length-append ps (a ∷ []))) ∙ take_snoc ps a
  where
    one_less : (n m : ℕ) → m ≡ n + 1 → m - 1 ≡ n
    one_less n m e = omega (arith, e)

places_length : (ps : List ℕ) → length (places_image ps) ≡ length ps
places_length [] = refl
places_length (a ∷ ps) = length-append (places_image ps) (a ∷ []) ∙ more (length (places_image ps)) (length ps) (places_length ps)
  where
    more : (m n : ℕ) → m ≡ n → m + 1 ≡ suc n
    more m n e = omega (arith, e)

placed_image : (ps : List ℕ) (x : t.Token) (at : ℕ) → placed (places_image ps) (token_image x) at ≡ places_image (t.with_token ps (at, x))
placed_image ps t.opening at = refl
placed_image [] t.closing at = refl
placed_image (a ∷ ps) t.closing at = without_last-snoc (places_image ps) a
placed_image ps (t.digits v) at = refl
placed_image ps t.name_n at = refl
placed_image ps t.name_k at = refl
placed_image ps t.name_binomial at = refl
placed_image ps t.plus at = refl
placed_image ps t.minus at = refl
placed_image ps t.star at = refl
placed_image ps t.slash at = refl
placed_image ps t.caret at = refl
placed_image ps t.bang at = refl
placed_image ps t.comma at = refl
placed_image ps t.semicolon at = refl

opening_only : (x : t.Token) → is_opening (token_image x) ≡ true → x ≡ t.opening
opening_only t.opening e = refl
opening_only _ e = absurd (differ e)
  where
    differ : false ≡ true → ⊥
    differ d = cc

opening_is : (x : t.Token) → x ≡ t.opening → is_opening (token_image x) ≡ true
opening_is x e = ap (λ z. is_opening (token_image z)) e

-- the guard is the definition's
guard_true : (x : t.Token) (ps : List ℕ) (n : ℕ) → n ≡ length ps → (is_opening (token_image x) && n == 64) ≡ true → t.IsOver64 ps x
guard_true x ps n e h = go (is_opening (token_image x)) refl (n == 64) refl h
  where
    differ : false ≡ true → ⊥
    differ d = cc

    go : (a : Bool) → is_opening (token_image x) ≡ a → (b : Bool) → (n == 64) ≡ b → (a && b) ≡ true → t.IsOver64 ps x
    go true f true g h = (opening_only x f, sym e ∙ eqb-true n 64 g)
    go true f false g h = absurd (differ h)
    go false f b g h = absurd (differ h)

guard_false : (x : t.Token) (ps : List ℕ) (n : ℕ) → n ≡ length ps → (is_opening (token_image x) && n == 64) ≡ false → ¬ (t.IsOver64 ps x)
guard_false x ps n e h over = differ (sym (ap (λ z. z && n == 64) (opening_is x over.0) ∙ ap (λ m. m == 64) (e ∙ over.1)) ∙ h)
  where
    differ : true ≡ false → ⊥
    differ d = cc

snoc_is_not_empty : {A : Type 0} (xs : List A) (x : A) → false ≡ is_empty (xs ++ x ∷ [])
snoc_is_not_empty [] x = refl
snoc_is_not_empty (y ∷ xs) x = refl

abbrev pub TakenIs : g_kind.Kind → List ℕ → List t.Placed → ℕ → Result Progress TextFault → Type 0
TakenIs kind text ts end (Ok next) = IsAfter kind text next ts × (next.from ≡ end)
TakenIs kind text ts end (Err e) = HasFault kind text e

module _ (kind : Kind) (text : List ℕ) (p : Progress) (ts : List t.Placed) (at len : ℕ) (x : t.Token)
    (a : IsAfter (kind_of kind) text p ts) (place : at ≡ k.past_spaces text p.from) (next : k.next_front text p.from ≡ k.token x len) where
  by_state : (n : Option g.States) → g.step_terms (kind_of kind) a.reached.0 at x ≡ n → ¬ (t.IsOver64 (t.open_parentheses [] ts) x) →
      TakenIs (kind_of kind) text (ts ++ (at, x) ∷ []) (at + len) (taken_state (several_image_of n) (placed p.places (token_image x) at) at (at + len))
  by_state None e fine = fault_unexpected (kind_of kind) text ts p.from at len x a.reached.0 a.fits a.reached.1 place next fine e
  by_state (Some s) e fine = (
    record {
      fits = fitting_more (kind_of kind) text ts p.from at len x a.reached.0 s a.fits a.reached.1 place next fine e;
      reached = (s, run_snoc (kind_of kind) g.start ts a.reached.0 (at, x) a.reached.1 ∙ e, refl);
      places = ap (λ z. placed z (token_image x) at) a.places ∙ placed_image (t.open_parentheses [] ts) x at ∙ ap places_image (sym (open_snoc [] ts (at, x)));
      empty = snoc_is_not_empty ts (at, x);
    },
    refl,
  )

  by_guard : (b : Bool) → (is_opening (token_image x) && length p.places == 64) ≡ b →
      TakenIs (kind_of kind) text (ts ++ (at, x) ∷ []) (at + len)
      (if b then Err (Nesting at) else taken_state (step_several kind p.several (token_image x) at) (placed p.places (token_image x) at) at (at + len))
  by_guard true e = fault_nesting (kind_of kind) text ts p.from at len x a.fits place next
      (guard_true x (t.open_parentheses [] ts) (length p.places) (ap length a.places ∙ places_length (t.open_parentheses [] ts)) e)
  by_guard false e =
      subst (λ o. TakenIs (kind_of kind) text (ts ++ (at, x) ∷ []) (at + len) (taken_state o (placed p.places (token_image x) at) at (at + len)))
      (sym (ap (λ s. step_several kind s (token_image x) at) a.reached.2 ∙ several_step kind a.reached.0 at x (goes_on (kind_of kind) ts a.reached.0 a.reached.1)))
      (by_state (g.step_terms (kind_of kind) a.reached.0 at x) refl (guard_false x (t.open_parentheses [] ts) (length p.places) (ap length a.places ∙ places_length (t.open_parentheses [] ts)) e))

  pub taken_is : TakenIs (kind_of kind) text (ts ++ (at, x) ∷ []) (at + len) (taken kind p (token_image x) at (at + len))
  taken_is = by_guard (is_opening (token_image x) && length p.places == 64) refl

-- the end
abbrev pub EndIs : g_kind.Kind → List ℕ → Result Contents TextFault → Type 0
EndIs kind text (Ok c) = r.HasContents kind text (map tree_of c.terms) c.bounds
EndIs kind text (Err e) = HasFault kind text e

ending : (kind : g_kind.Kind) (text : List ℕ) (ts : List t.Placed) (ps : List ℕ) (n : ℕ) → r.IsFirstFault kind text (r.end_fault ts ps n) → HasFault kind text (end_fault (places_image ps) (is_empty ts) n)
ending kind text [] ps n h = h
ending kind text (x ∷ ts) [] n h = h
ending kind text (x ∷ ts) (a ∷ ps) n h =
    subst (λ o. HasFault kind text (elim o as (λ _. TextFault) [ None ↦ Unexpected n | Some at ↦ UnclosedParen at ])) (sym (last_of-snoc (places_image ps) a)) h

pub ended_is : (kind : Kind) (text : List ℕ) (p : Progress) (ts : List t.Placed) → IsAfter (kind_of kind) text p ts → k.next_front text p.from ≡ k.at_end →
    EndIs (kind_of kind) text (ended kind p (length text))
ended_is kind text p ts a e =
    subst (λ o. EndIs (kind_of kind) text (elim o as (λ _. Result Contents TextFault) [ Some c ↦ Ok c | None ↦ Err (end_fault p.places p.empty (length text)) ]))
    (sym (ap (whole_contents kind) a.reached.2 ∙ whole_contents_is kind a.reached.0 (goes_on (kind_of kind) ts a.reached.0 a.reached.1)))
    (go (g.finished_terms (kind_of kind) a.reached.0) refl)
  where
    go : (o : Option Derivation) → g.finished_terms (kind_of kind) a.reached.0 ≡ o →
        EndIs (kind_of kind) text (elim (contents_of o) as (λ _. Result Contents TextFault) [ Some c ↦ Ok c | None ↦ Err (end_fault p.places p.empty (length text)) ])
    go (Some c) f =
        let derived = accepted (kind_of kind) ts a.reached.0 c a.reached.1 f in
        let small = subst AreSmall derived.text (small_tokens text 0 ts p.from a.fits.are_next) in
        let are = contents_are c small in
        let whole = contents_at_end (kind_of kind) text ts p.from a.reached.0 c a.fits a.reached.1 e f in
        subst (λ t. r.HasContents (kind_of kind) text t (contents c).bounds) (sym are.0) (subst (r.HasContents (kind_of kind) text (derivation_trees c)) (sym are.1) whole)
    go None f = subst (λ ps. HasFault (kind_of kind) text (end_fault ps p.empty (length text))) (sym a.places)
        (subst (λ b. HasFault (kind_of kind) text (end_fault (places_image (t.open_parentheses [] ts)) b (length text))) (sym a.empty)
        (ending (kind_of kind) text ts (t.open_parentheses [] ts) (length text) (fault_end (kind_of kind) text ts p.from a.reached.0 a.fits a.reached.1 e f)))

-- what the code's front says of the definition's
pub front_token : (x : k.Front) (y : Token) (len : ℕ) → front.Token y len ≡ front_image x → (z : t.Token) × (x ≡ k.token z len) × (y ≡ token_image z)
front_token (k.token z n) y len e = (z, ap (k.token z) (sym same.1), same.0)
  where
    same : (y ≡ token_image z) × (len ≡ n)
    same = (cc, cc)
front_token k.at_end y len e = absurd (differ e)
  where
    differ : front.Token y len ≡ front.End → ⊥
    differ d = cc
front_token (k.flawed f) y len e = absurd (differ e)
  where
    differ : front.Token y len ≡ front.Flawed (flaw_image f) → ⊥
    differ d = cc

pub front_flawed : (x : k.Front) (y : Flaw) → front.Flawed y ≡ front_image x → (z : k.Flaw) × (x ≡ k.flawed z) × (y ≡ flaw_image z)
front_flawed (k.flawed z) y e = (z, refl, cc)
front_flawed k.at_end y e = absurd (differ e)
  where
    differ : front.Flawed y ≡ front.End → ⊥
    differ d = cc
front_flawed (k.token z n) y e = absurd (differ e)
  where
    differ : front.Flawed y ≡ front.Token (token_image z) n → ⊥
    differ d = cc

pub front_end : (x : k.Front) → front.End ≡ front_image x → x ≡ k.at_end
front_end k.at_end e = refl
front_end (k.token z n) e = absurd (differ e)
  where
    differ : front.End ≡ front.Token (token_image z) n → ⊥
    differ d = cc
front_end (k.flawed z) e = absurd (differ e)
  where
    differ : front.End ≡ front.Flawed (flaw_image z) → ⊥
    differ d = cc

pub flawed_is : (kind : g_kind.Kind) (text : List ℕ) (ts : List t.Placed) (end at : ℕ) (z : k.Flaw) → r.AreFitting kind text ts end → at ≡ k.past_spaces text end →
    k.next_front text end ≡ k.flawed z → HasFault kind text (fault_of_flaw (flaw_image z) at)
flawed_is kind text ts end at k.strange fit a f = fault_flawed kind text ts end at k.strange fit a f
flawed_is kind text ts end at k.not_ascii fit a f = fault_flawed kind text ts end at k.not_ascii fit a f
flawed_is kind text ts end at k.unknown_name fit a f = fault_flawed kind text ts end at k.unknown_name fit a f
flawed_is kind text ts end at k.literal_too_large fit a f = fault_flawed kind text ts end at k.literal_too_large fit a f

pub after_start : (kind : g_kind.Kind) (text : List ℕ) → IsAfter kind text start []
after_start kind text = record { fits = fitting_start kind text; reached = (g.start, refl, refl); places = refl; empty = refl }

-- a fault that a call answered
pub fails_reads : {A : Type 0} (kind : g_kind.Kind) (text : List ℕ) (P : Result A TextFault → Type 0) → ((e : TextFault) → P (Err e) → HasFault kind text e) →
    (e : TextFault) (read : Result A TextFault) → Fails e read → P read → HasFault kind text e
fails_reads kind text P as_read Memory read h p = tt
fails_reads kind text P as_read (Unexpected at) read h p = as_read (Unexpected at) (subst P h p)
fails_reads kind text P as_read (UnknownName at) read h p = as_read (UnknownName at) (subst P h p)
fails_reads kind text P as_read (UnclosedParen at) read h p = as_read (UnclosedParen at) (subst P h p)
fails_reads kind text P as_read EmptyInput read h p = as_read EmptyInput (subst P h p)
fails_reads kind text P as_read (NotAscii at) read h p = as_read (NotAscii at) (subst P h p)
fails_reads kind text P as_read (Nesting at) read h p = as_read (Nesting at) (subst P h p)
fails_reads kind text P as_read (LiteralTooLarge at) read h p = as_read (LiteralTooLarge at) (subst P h p)

pub ended_fails : (kind : g_kind.Kind) (text : List ℕ) (e : TextFault) (read : Result Contents TextFault) → Fails e read → EndIs kind text read → HasFault kind text e
ended_fails kind text = fails_reads kind text (EndIs kind text) (λ e h. h)

pub taken_fails : (kind : g_kind.Kind) (text : List ℕ) (ts : List t.Placed) (end : ℕ) (e : TextFault) (read : Result Progress TextFault) → Fails e read → TakenIs kind text ts end read → HasFault kind text e
taken_fails kind text ts end = fails_reads kind text (TakenIs kind text ts end) (λ e h. h)

-- what stands next, at the place where the spaces end
pub at_place : (text : List ℕ) (from at : ℕ) → at ≡ k.past_spaces text from → (x : k.Front) → k.front (drop at text) ≡ x → k.next_front text from ≡ x
at_place text from at e x f = ap (λ z. k.front (drop z text)) (sym e) ∙ f

-- a token that was taken in, whatever the code calls it
pub turn_token : (kind : Kind) (text : List ℕ) (p : Progress) (ts : List t.Placed) (at len : ℕ) (y : Token) → IsAfter (kind_of kind) text p ts → at ≡ k.past_spaces text p.from →
    front.Token y len ≡ front_image (k.front (drop at text)) → (x : t.Token) × TakenIs (kind_of kind) text (ts ++ (at, x) ∷ []) (at + len) (taken kind p y at (at + len))
turn_token kind text p ts at len y a place f =
    let z = front_token (k.front (drop at text)) y len f in (
      z.0,
      subst (λ w. TakenIs (kind_of kind) text (ts ++ (at, z.0) ∷ []) (at + len) (taken kind p w at (at + len))) (sym z.2)
          (taken_is kind text p ts at len z.0 a place (at_place text p.from at place (k.token z.0 len) z.1)),
    )

pub turn_end : (kind : Kind) (text : List ℕ) (p : Progress) (ts : List t.Placed) (at : ℕ) → IsAfter (kind_of kind) text p ts → at ≡ k.past_spaces text p.from →
    front.End ≡ front_image (k.front (drop at text)) → EndIs (kind_of kind) text (ended kind p (length text))
turn_end kind text p ts at a place f = ended_is kind text p ts a (at_place text p.from at place k.at_end (front_end (k.front (drop at text)) f))

pub turn_flawed : (kind : Kind) (text : List ℕ) (p : Progress) (ts : List t.Placed) (at : ℕ) (y : Flaw) → IsAfter (kind_of kind) text p ts → at ≡ k.past_spaces text p.from →
    front.Flawed y ≡ front_image (k.front (drop at text)) → HasFault (kind_of kind) text (fault_of_flaw y at)
turn_flawed kind text p ts at y a place f =
    let z = front_flawed (k.front (drop at text)) y f in
    subst (λ w. HasFault (kind_of kind) text (fault_of_flaw w at)) (sym z.2) (flawed_is (kind_of kind) text ts p.from at z.0 a.fits place (at_place text p.from at place (k.flawed z.0) z.1))

-- Lookups and insertions of entries of the code are those of their forms.
use Rattle.std.specs.Prelude.{◌≡◌, ℕ, ◌+◌, Bool, true, false, cond, if◌then◌else◌, List, [], ◌∷◌, Option, Some, None, Result, Ok, Err, OnOk, OnErr, refl}
use Rattle.std.specs.Map.{lookup}
use Rattle.std.specs.Option.{unwrap_or}
use Rattle.std.proofs.Common.{ap, sym, ◌∙◌, arith, subst}
use Rattle.indexmap.specs.IndexMap.{insert_entry}
use Rattle.hypergeometric.specs.LinearForm.{LinearForm, Factor}
use Rattle.hypergeometric.specs.FactorLists.{same_form, factor_with, power_of, with_factor}
use Rattle.lin_form.specs.Forms.{form_of}
use Rattle.lin_form.specs.FactorLists.{factors_of}
use Rattle.lin_form.specs.declared.forms.LinForm.{LinForm}

chosen : (b : Bool) (v w : ℕ) (r : Option ℕ) → unwrap_or r 0 ≡ w → unwrap_or (cond b (Some v) r) 0 ≡ cond b v w
chosen true v w r e = refl
chosen false v w r e = e

-- what a look-up finds is the power
pub looked_up : (f : LinearForm) (test : LinForm → Bool) → ((y : LinForm) → test y ≡ same_form f (form_of y)) → (es : List (LinForm × ℕ))
    → unwrap_or (lookup test es) 0 ≡ power_of f (factors_of es)
looked_up f test agree [] = refl
looked_up f test agree (e ∷ es) =
    ap (λ b. unwrap_or (cond b (Some e.1) (lookup test es)) 0) (agree e.0)
    ∙ chosen (same_form f (form_of e.0)) e.1 (power_of f (factors_of es)) (lookup test es) (looked_up f test agree es)

pub found_power : (f : LinearForm) (test : LinForm → Bool) (es : List (LinForm × ℕ)) (v : ℕ) → Some v ≡ lookup test es
    → ((y : LinForm) → test y ≡ same_form f (form_of y)) → v ≡ power_of f (factors_of es)
found_power f test es v e agree = ap (λ r. unwrap_or r 0) e ∙ looked_up f test agree es

pub no_power : (f : LinearForm) (test : LinForm → Bool) (es : List (LinForm × ℕ)) → None ≡ lookup test es
    → ((y : LinForm) → test y ≡ same_form f (form_of y)) → 0 ≡ power_of f (factors_of es)
no_power f test es e agree = ap (λ r. unwrap_or r 0) e ∙ looked_up f test agree es

-- an insertion of the power with more added is a multiplication: in the order of the list, the form stands here, or further on
inserted_here : (b : Bool) (e : LinForm × ℕ) (es : List (LinForm × ℕ)) (later : List (LinForm × ℕ)) (others : List Factor) (v p rest : ℕ)
    → (v ≡ rest + p → factors_of later ≡ others) → v ≡ cond b e.1 rest + p
    → factors_of (if b then (e.0, v) ∷ es else (e ∷ later)) ≡ cond b (factor_with (form_of e.0) (e.1 + p) ∷ factors_of es) (factor_with (form_of e.0) e.1 ∷ others)
inserted_here true e es later others v p rest further h = ap (λ n. factor_with (form_of e.0) n ∷ factors_of es) h
inserted_here false e es later others v p rest further h = ap (λ t. factor_with (form_of e.0) e.1 ∷ t) (further h)

pub inserted : (eq : LinForm → LinForm → Bool) → ((x y : LinForm) → eq x y ≡ same_form (form_of x) (form_of y)) → (es : List (LinForm × ℕ))
    (k : LinForm) (v p : ℕ) → v ≡ power_of (form_of k) (factors_of es) + p → factors_of (insert_entry eq es k v) ≡ with_factor (form_of k) p (factors_of es)
inserted eq agree [] k v p h = ap (λ n. factor_with (form_of k) n ∷ []) (omega (arith, h))
inserted eq agree (e ∷ es) k v p h =
    ap (λ b. factors_of (if b then (e.0, v) ∷ es else (e ∷ insert_entry eq es k v))) (agree k e.0)
    ∙ inserted_here (same_form (form_of k) (form_of e.0)) e es (insert_entry eq es k v) (with_factor (form_of k) p (factors_of es)) v p
    (power_of (form_of k) (factors_of es)) (inserted eq agree es k v p) h

-- what holds of the entries after an insertion and of the old ones holds of those that are there, whether it succeeds or gives up
pub on_either : {X Y : Type 0} (P : List (LinForm × ℕ) → Type 0) (r : Result X Y) (old grown entries : List (LinForm × ℕ))
    → OnOk r (entries ≡ grown) → OnErr r (entries ≡ old) → P grown → P old → P entries
on_either P (Ok x) old grown entries e f g h = subst P (sym e) g
on_either P (Err y) old grown entries e f g h = subst P (sym f) h

-- The pieces of the binomial coefficient at the orders 0 and 1, known from elsewhere, and their normal forms: nothing matches.
use Rattle.std.proofs.Common.{◌≡◌, ℕ, zero, suc, ◌+◌, ◌-◌, ◌≤◌, Bool, true, false, [], ◌∷◌, List, refl, ap, sym, arith}
use Rattle.std.proofs.lemmas.Int.{ints}
use Rattle.std.specs.Prelude.{ℤ, pos, negsuc, min, cond}
use Rattle.poly_laws.specs.Values.{level}
use Rattle.hypergeometric.specs.Fraction.{of_whole}
use Rattle.hypergeometric.specs.LinearForm.{LinearForm, Factor, FactorList}
use Rattle.hypergeometric.specs.ProperTerm.{ProperTerm}
use Rattle.hypergeometric.specs.FactorLists.{same_form, factor_with, power_of}
use Rattle.hypergeometric.specs.Forms.{form_with}
use Rattle.hypergeometric.proofs.Lookups.{same_form_found}
use Rattle.term_pieces.specs.Products.{IsProductOf}
use Rattle.term_pieces.specs.Pieces.{Top, Pieces, ArePiecesOf, carrier_of, poly_at_later_n, top_number, top_forms, top_at}
use Rattle.term_pieces.specs.NormalForm.{Normal, sum_of_first, at_earlier_k, IsNormalFormOf}
use Rattle.right_claims.specs.Claims.{PrintedForm}
use Rattle.right_claims.specs.Orders.{IsSetting}

abbrev pub once : ℤ → ℤ → ℤ → Factor
once n_slope k_slope offset = factor_with (form_with n_slope k_slope offset) 1

abbrev list_of : ℤ → List Factor → FactorList
list_of scale factors = record { scale = scale; factors = factors }

-- n!/(k! (n-k)!)
abbrev pub binomial : ProperTerm
binomial = record {
  poly = (level 2).ops.unit;
  scale = of_whole (pos 1);
  n_base = of_whole (pos 1);
  k_base = of_whole (pos 1);
  up = once (pos 1) (pos 0) (pos 0) ∷ [];
  down = once (pos 0) (pos 1) (pos 0) ∷ once (pos 1) (negsuc 0) (pos 0) ∷ [];
  over = [];
  guard = [];
}

-- the form k + 1, and k - n + c for some number c
abbrev pub below : Factor
below = once (pos 0) (pos 1) (pos 1)

abbrev pub above : ℤ → Factor
above c = once (negsuc 0) (pos 1) c

-- q0 = n - k - c and r0 = k + 1, of which nothing matches
abbrev pub q_list : ℤ → FactorList
q_list c = list_of (negsuc 0) (above c ∷ [])

abbrev pub r_list : FactorList
r_list = list_of (pos 1) (below ∷ [])

abbrev pub normal : ℤ → Normal
normal c = record { matches = []; q = q_list c; r = r_list; g = list_of (pos 1) []; poles = list_of (pos 1) [] }

-- as it is printed
abbrev pub form : ℤ → PrintedForm
form c = record { matches = []; q = list_of (negsuc 0) (once (negsuc 0) (pos 1) c ∷ []); r = list_of (pos 1) (once (pos 0) (pos 1) (pos 1) ∷ []) }

-- the orders 0 and 1: p_0 = 1; and p_0 = n - k + 1 and p_1 = n + 1
abbrev pub pieces : Pieces
pieces = record {
  tops = record { poly = (level 2).ops.unit; factors = list_of (pos 1) [] } ∷ [];
  q0 = q_list (pos 0);
  r0 = r_list;
  carrier = carrier_of binomial 0;
}

abbrev later_top : ℕ → Top
later_top zero = record { poly = (level 2).ops.unit; factors = list_of (negsuc 0) (above (negsuc 0) ∷ []) }
later_top (suc j) = record { poly = (level 2).ops.unit; factors = list_of (pos 1) (once (pos 1) (pos 0) (pos 1) ∷ []) }

abbrev pub pieces_at_one : Pieces
pieces_at_one = record { tops = later_top 0 ∷ later_top 1 ∷ []; q0 = q_list (negsuc 0); r0 = r_list; carrier = carrier_of binomial 1 }

and_none : (m : ℕ) → m ≡ m + 0
and_none m = omega arith

are_pieces : ArePiecesOf pieces binomial 0
unfolding lib.IntN.pow lib.IntN.one
are_pieces = record {
  count = refl;
  poly = poly;
  factors = factors;
  q0 = record { scale = refl; sorted = (tt, tt); some = ((λ e. cc), tt); powers = λ f. and_none (power_of f pieces.q0.factors) };
  r0 = record { scale = refl; sorted = (tt, tt); some = ((λ e. cc), tt); powers = λ f. and_none (power_of f pieces.r0.factors) };
  carrier = refl;
}
  where
    poly : (j : ℕ) → j ≤ 0 → (top_at pieces j).poly ≡ poly_at_later_n (level 2).ops.unit j
    poly zero l = refl
    poly (suc j) l = absurd (omega (arith, l))

    factors : (j : ℕ) → j ≤ 0 → IsProductOf (top_at pieces j).factors (top_number binomial 0 j) (top_forms binomial 0 j)
    factors zero l = record { scale = refl; sorted = tt; some = tt; powers = λ f. refl }
    factors (suc j) l = absurd (omega (arith, l))

are_pieces_at_one : ArePiecesOf pieces_at_one binomial 1
unfolding lib.IntN.pow lib.IntN.one
are_pieces_at_one = record {
  count = refl;
  poly = poly;
  factors = factors;
  q0 = record { scale = refl; sorted = (tt, tt); some = ((λ e. cc), tt); powers = λ f. and_none (power_of f pieces_at_one.q0.factors) };
  r0 = record { scale = refl; sorted = (tt, tt); some = ((λ e. cc), tt); powers = λ f. and_none (power_of f pieces_at_one.r0.factors) };
  carrier = refl;
}
  where
    poly : (j : ℕ) → j ≤ 1 → (top_at pieces_at_one j).poly ≡ poly_at_later_n (level 2).ops.unit j
    poly zero l = refl
    poly (suc zero) l = refl
    poly (suc (suc j)) l = absurd (omega (arith, l))

    factors : (j : ℕ) → j ≤ 1 → IsProductOf (top_at pieces_at_one j).factors (top_number binomial 1 j) (top_forms binomial 1 j)
    factors zero l = record { scale = refl; sorted = (tt, tt); some = ((λ e. cc), tt); powers = λ f. and_none (power_of f (later_top 0).factors.factors) }
    factors (suc zero) l = record { scale = refl; sorted = (tt, tt); some = ((λ e. cc), tt); powers = λ f. and_none (power_of f (later_top 1).factors.factors) }
    factors (suc (suc j)) l = absurd (omega (arith, l))

module _ (c : ℤ) where
  -- a form with this n slope isn't k + 1, nor is it so at an earlier k
  no_below : (s : LinearForm) (h : ℕ) → s ≡ (above c).form → power_of (at_earlier_k s h) (below ∷ []) ≡ 0
  no_below s h e = by (same_form (at_earlier_k s h) below.form) refl
    where
      by : (b : Bool) → same_form (at_earlier_k s h) below.form ≡ b → ◌≡◌ {A = ℕ} (cond b 1 0) 0
      by true t = absurd (omega (
        arith,
        ints,
        ap (λ (x : LinearForm). x.n_slope) (same_form_found (at_earlier_k s h) below.form t),
        ap (λ (x : LinearForm). x.n_slope) e,
      ))
      by false t = refl

  -- so nothing is taken
  none_taken : (s : LinearForm) (h : ℕ) → 0 ≡ min (power_of s (above c ∷ []) - sum_of_first (λ i. 0) h)
      (power_of (at_earlier_k s h) (below ∷ []) - sum_of_first (λ i. 0) h)
  none_taken s h = by (same_form s (above c).form) refl
    where
      by : (b : Bool) → same_form s (above c).form ≡ b
          → 0 ≡ min (cond b 1 0 - sum_of_first (λ i. 0) h) (power_of (at_earlier_k s h) (below ∷ []) - sum_of_first (λ i. 0) h)
      by true t = omega (arith, no_below s h (same_form_found s (above c).form t))
      by false t = omega arith

  is_normal : IsNormalFormOf (normal c) (q_list c) r_list
  unfolding lib.IntN.pow lib.IntN.one
  is_normal = record {
    taken = λ s h. 0;
    takes = none_taken;
    matches = record { in_order = tt; each = tt; all = λ s h some. absurd (some refl) };
    q = record { scale = refl; sorted = (tt, tt); some = ((λ e. cc), tt); powers = λ f. sym (and_none (power_of f (above c ∷ []))) };
    r = record { scale = refl; sorted = (tt, tt); some = ((λ e. cc), tt); powers = λ f. sym (and_none (power_of f (below ∷ []))) };
    g = record { scale = refl; sorted = tt; some = tt; powers = λ f. refl };
    poles = record { scale = refl; sorted = tt; some = tt; powers = λ f. refl };
  }

pub setting : IsSetting binomial 0 pieces (normal (pos 0)) (form (pos 0))
setting = record { are_pieces = are_pieces; is_normal = is_normal (pos 0); form_is = refl }

pub setting_at_one : IsSetting binomial 1 pieces_at_one (normal (negsuc 0)) (form (negsuc 0))
setting_at_one = record { are_pieces = are_pieces_at_one; is_normal = is_normal (negsuc 0); form_is = refl }

-- The products of chains s(k-1), s(k-2), .. over matches.
use Rattle.std.proofs.Common.{◌≡◌, ◌≢◌, ℕ, zero, suc, ◌+◌, ◌*◌, ◌≤◌, ◌<◌, ◌^◌, Bool, true, false, List, [], ◌∷◌, ◌++◌, take, length, get_or, append_assoc, refl, ap, sym, ◌∙◌, arith, add-one}
use Rattle.std.proofs.Math.Nat.{mul-le-mul_left, mul-le-mul_right}
use Rattle.std.proofs.lemmas.List.{take_more}
use Rattle.std.specs.List.{AllByRecursion}
use Rattle.std.specs.List.Sorted.{IsPermutation}
use Rattle.std.specs.Prelude.{ℤ, pos, neg_ℤ, ◌+ℤ◌, ◌*ℤ◌, cond, Result, Ok, Err, IfOk}
use Rattle.ring_solver.proofs.Read.{ring_z, reading_z}
use Rattle.ring_laws.specs.declared.faults.RingFault.{RingFault}
use Rattle.hypergeometric.specs.LinearForm.{LinearForm, Factor}
use Rattle.hypergeometric.specs.FormOrder.{IsFactor, IsSorted, IsPrimitive}
use Rattle.hypergeometric.specs.FactorLists.{same_form, factor_with, power_of, with_factor}
use Rattle.hypergeometric.specs.Forms.{form_with}
use Rattle.hypergeometric.specs.Match.{Match}
use Rattle.hypergeometric.proofs.SharedForms.{all_more}
use Rattle.term_pieces.specs.Products.{IsProductOf}
use Rattle.term_pieces.specs.NormalForm.{at_earlier_k, forms_before, power_within, gosper_forms, chains}
use Rattle.term_pieces.proofs.SamePowers.{power_joined}
use Rattle.lin_form.specs.ListOf.{list_of}
use Rattle.lin_form.specs.declared.factor_lists.FactorList.{FactorList as FactorListOfCode}
use Rattle.gosper_form.specs.NormalLists.{HasChain, forms_further}
use Rattle.gosper_form.specs.NormalShifts.{shift_count, shifts_counted}
use Rattle.gosper_form.specs.NormalView.{match_of, matches_of}
use Rattle.gosper_form.specs.declared.normal.Match.{Match as MatchOfCode}
use Rattle.gosper_form.proofs.NormalAnswers.{all_at_item}
use Rattle.gosper_form.proofs.NormalLeft.{permuted_power}
use Rattle.gosper_form.proofs.NormalPrimitive.{ArePrimitive, primitive_earlier, primitive_joined, primitive_powers, primitive_contents}
use Rattle.gosper_form.proofs.NormalTaken.{power_with, counted_more, matches_more}

lesser_power : (b : Bool) (p : ℕ) → cond b p 0 ≤ p
lesser_power true p = omega arith
lesser_power false p = omega arith

-- one form more of a chain
pub chain_longer : (f s : LinearForm) (i p : ℕ)
    → power_within f (forms_before s (i + 1) p) ≡ power_within f (forms_before s i p) + cond (same_form f (at_earlier_k s (i + 1))) p 0
chain_longer f s i p =
    let joined = power_joined f (forms_before s i p) (factor_with (at_earlier_k s (suc i)) p ∷ []) in
    let same : cond (same_form f (at_earlier_k s (suc i))) p 0 ≡ cond (same_form f (at_earlier_k s (i + 1))) p 0 =
    ap (λ j. cond (same_form f (at_earlier_k s j)) p 0) (sym (add-one i)) in
    ap (λ j. power_within f (forms_before s j p)) (add-one i) ∙ omega (arith, joined, same)

pub chain_power : (f s : LinearForm) (h p : ℕ) → power_within f (forms_before s h p) ≤ h * p
chain_power f s zero p = omega arith
chain_power f s (suc h) p =
    let joined = power_joined f (forms_before s h p) (factor_with (at_earlier_k s (suc h)) p ∷ []) in
    omega (arith, joined, chain_power f s h p, lesser_power (same_form f (at_earlier_k s (suc h))) p)

-- the form at the next earlier k
pub chain_form : (s g : LinearForm) (by : ℤ) (i : ℕ) → (g.n_slope ≡ s.n_slope) × (g.k_slope ≡ s.k_slope) → g.offset ≡ s.offset +ℤ s.k_slope *ℤ by
    → by ≡ neg_ℤ (pos (i + 1)) → g ≡ at_earlier_k s (i + 1)
chain_form s g by i slopes offset is =
    λ j. form_with (slopes.0 j) (slopes.1 j) ((offset ∙ ap (λ z. s.offset +ℤ s.k_slope *ℤ z) is) j)

pub chain_step : (f s g : LinearForm) (i p : ℕ) (before old : List Factor) → g ≡ at_earlier_k s (i + 1)
    → power_of f before ≡ power_of f old + power_within f (forms_before s i p)
    → power_of f (with_factor g p before) ≡ power_of f old + power_within f (forms_before s (i + 1) p)
chain_step f s g i p before old is so_far =
    let same : cond (same_form f g) p 0 ≡ cond (same_form f (at_earlier_k s (i + 1))) p 0 = ap (λ t. cond (same_form f t) p 0) is in
    omega (arith, power_with f g p before, so_far, chain_longer f s i p, same)

-- there is room for one form more
pub chain_room : (f s : LinearForm) (i length p : ℕ) (before old : List Factor) → i < length
    → power_of f before ≡ power_of f old + power_within f (forms_before s i p) → power_of f old + length * p < 2 ^ 32 → power_of f before + p < 2 ^ 32
chain_room f s i length p before old l so_far fits = omega (arith, so_far, chain_power f s i p, room, fits)
  where
    room : i * p + p ≤ length * p
    room =
        let step : suc i * p ≤ length * p = mul-le-mul_right p l in
        omega (arith, step)

further_count : (further h p : ℕ) → further ≤ 1 → (further + h) * p ≤ (h + 1) * p
further_count zero h p l = omega arith
further_count (suc zero) h p l = omega arith
further_count (suc (suc n)) h p l = absurd (omega (arith, l))

pub further_power : (further : ℕ) → further ≤ 1 → (f : LinearForm) (ms : List Match)
    → power_within f (forms_further further ms) ≤ shifts_counted ms
further_power further l f [] = omega arith
further_power further l f (m ∷ ms) =
    let joined = power_joined f (forms_before m.form (further + m.shift) m.power) (forms_further further ms) in
    omega (arith, joined, chain_power f m.form (further + m.shift) m.power, further_count further m.shift m.power l, further_power further l f ms)

-- the match at an index: its chain, and what it counts behind those before it
module _ (ms : List MatchOfCode) (i : ℕ) (m : MatchOfCode) (l : i < length ms) (is : m ≡ get_or ms i m) where
  pub one_more : take (i + 1) ms ≡ take i ms ++ (m ∷ [])
  one_more = take_more ms i m l ∙ ap (λ (x : MatchOfCode). take i ms ++ (x ∷ [])) (sym is)

  counted_part : (ns : List MatchOfCode) (j : ℕ) → shifts_counted (matches_of (take j ns)) ≤ shifts_counted (matches_of ns)
  counted_part [] zero = omega arith
  counted_part [] (suc j) = omega arith
  counted_part (n ∷ ns) zero = omega arith
  counted_part (n ∷ ns) (suc j) = omega (arith, counted_part ns j)

  pub counted_so_far : shifts_counted (matches_of (take i ms)) + shift_count (match_of m) ≤ shifts_counted (matches_of ms)
  counted_so_far =
      let parts : shifts_counted (matches_of (take (i + 1) ms)) ≡ shifts_counted (matches_of (take i ms)) + shift_count (match_of m) =
      ap (λ (ns : List MatchOfCode). shifts_counted (matches_of ns)) one_more
      ∙ ap shifts_counted (matches_more (take i ms) m) ∙ counted_more (matches_of (take i ms)) (match_of m) in
      omega (arith, parts, counted_part ms (i + 1))

  viewed : (ns : List MatchOfCode) → AllByRecursion HasChain (matches_of ns) → AllByRecursion (λ n. HasChain (match_of n)) ns
  viewed [] all = tt
  viewed (n ∷ ns) all = (all.0, viewed ns all.1)

  module _ (all : AllByRecursion HasChain (matches_of ms)) where
    pub chain_here : HasChain (match_of m)
    chain_here = all_at_item (λ (n : MatchOfCode). HasChain (match_of n)) ms i m l is (viewed ms all)

    module _ (few : shifts_counted (matches_of ms) ≤ 256) (further : ℕ) (one_further : further ≤ 1) where
      pub chain_short : further + m.shift ≤ 256
      chain_short =
          let least : (m.shift + 1) * 1 ≤ (m.shift + 1) * m.power = mul-le-mul_left (m.shift + 1) (omega (arith, chain_here.some)) in
          omega (arith, least, counted_so_far, few, one_further)

      -- there is room for its chain
      pub chain_fits : (f : LinearForm) (before : List Factor) → power_of f before ≡ power_within f (forms_further further (matches_of (take i ms)))
          → power_of f before + (further + m.shift) * m.power < 2 ^ 32
      chain_fits f before so_far = omega (
        arith,
        so_far,
        further_power further one_further f (matches_of (take i ms)),
        further_count further m.shift m.power one_further,
        counted_so_far,
        few,
      )

further_joined : (further : ℕ) (ms ns : List Match) → forms_further further (ms ++ ns) ≡ forms_further further ms ++ forms_further further ns
further_joined further [] ns = refl
further_joined further (m ∷ ms) ns =
    ap (λ (xs : List Factor). forms_before m.form (further + m.shift) m.power ++ xs) (further_joined further ms ns)
    ∙ sym (append_assoc (forms_before m.form (further + m.shift) m.power) (forms_further further ms) (forms_further further ns))

-- one chain more
pub further_more : (f : LinearForm) (further : ℕ) (ms : List MatchOfCode) (i : ℕ) (m : MatchOfCode) → i < length ms → m ≡ get_or ms i m
    → power_within f (forms_further further (matches_of (take (i + 1) ms)))
    ≡ power_within f (forms_further further (matches_of (take i ms))) + power_within f (forms_before (match_of m).form (further + m.shift) m.power)
further_more f further ms i m l is =
    let last = forms_before (match_of m).form (further + m.shift) m.power in
    let joined = power_joined f (forms_further further (matches_of (take i ms))) (last ++ []) in
    let own = power_joined f last [] in
    ap (λ (ns : List MatchOfCode). power_within f (forms_further further (matches_of ns))) (one_more ms i m l is)
    ∙ ap (λ (ns : List Match). power_within f (forms_further further ns)) (matches_more (take i ms) m)
    ∙ ap (power_within f) (further_joined further (matches_of (take i ms)) (match_of m ∷ []))
    ∙ omega (arith, joined, own)

chain_primitive : (s : LinearForm) (h p : ℕ) → IsPrimitive s → ArePrimitive (forms_before s h p)
chain_primitive s zero p is = tt
chain_primitive s (suc h) p is =
    primitive_joined (forms_before s h p) (factor_with (at_earlier_k s (suc h)) p ∷ []) (chain_primitive s h p is) (primitive_earlier s (suc h) is, tt)

pub further_primitive : (further : ℕ) (ms : List Match) → AllByRecursion HasChain ms → ArePrimitive (forms_further further ms)
further_primitive further [] all = tt
further_primitive further (m ∷ ms) all =
    primitive_joined (forms_before m.form (further + m.shift) m.power) (forms_further further ms)
    (chain_primitive m.form (further + m.shift) m.power all.0.primitive) (further_primitive further ms all.1)

-- the product is that of the chains, once it is sorted
pub product_sorted : (further : ℕ) (ms : List Match) (product : FactorListOfCode) (r : Result FactorListOfCode RingFault) → AllByRecursion HasChain ms
    → (list_of product).scale ≡ pos 1
    → ((f : LinearForm) → power_of f (list_of product).factors ≡ power_within f (forms_further further ms))
    → IfOk r (λ l. (list_of l).scale ≡ (list_of product).scale) → IfOk r (λ l. IsSorted (list_of l).factors)
    → IfOk r (λ l. IsPermutation (list_of product).factors (list_of l).factors)
    → IfOk r (λ l. IsProductOf (list_of l) (pos 1) (forms_further further ms))
product_sorted further ms product (Err e) all scale powers same sorted moved = tt
product_sorted further ms product (Ok l) all scale powers same sorted moved = record {
  scale = same ∙ scale ∙ sym (ap (λ z. pos 1 *ℤ z) (primitive_contents (forms_further further ms) (further_primitive further ms all)) ∙ one_times (pos 1));
  sorted = sorted;
  some = all_more IsFactor (λ x. x.power ≢ 0) (λ x h z. omega (arith, h.some, z)) (list_of l).factors l.factors.each;
  powers = λ f.
      permuted_power (list_of product).factors (list_of l).factors moved product.factors.distinct l.factors.distinct f ∙ powers f
      ∙ sym (primitive_powers f (forms_further further ms) (further_primitive further ms all));
}
  where
    one_times : (z : ℤ) → pos 1 *ℤ z ≡ z
    one_times z = ring_z (z ∷ []) (search reading_z depth 40 fits 20000) refl

-- no further the chains are the forms of g, and one further the first poles
pub further_none : (ms : List Match) → forms_further 0 ms ≡ gosper_forms ms
further_none [] = refl
further_none (m ∷ ms) = λ i. forms_before m.form (same m.shift i) m.power ++ further_none ms i
  where
    same : (h : ℕ) → 0 + h ≡ h
    same h = omega arith

pub further_one : (ms : List Match) → forms_further 1 ms ≡ chains ms
further_one [] = refl
further_one (m ∷ ms) = λ i. forms_before m.form (same m.shift i) m.power ++ further_one ms i
  where
    same : (h : ℕ) → 1 + h ≡ suc h
    same h = omega arith

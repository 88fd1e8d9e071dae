-- Values of lists of coefficients, and the table of antidifferences.
use Rattle.std.proofs.Common.{◌≡◌, ℕ, zero, suc, ◌+◌, ◌<◌, List, [], ◌∷◌, length, get_or, take, refl, ap, sym, ◌∙◌, arith, subst, add-one}
use Rattle.std.proofs.lemmas.Int.{ints}
use Rattle.std.specs.Prelude.{ℤ, pos, negsuc, ◌+ℤ◌, ◌*ℤ◌}
use Rattle.ring_solver.proofs.Read.{ring_z, reading_z}
use Rattle.ekhad_cli.specs.Antidifference.{dot_product, IsDifference}

dot_suc : (ws xs : List ℤ) (i : ℕ) (w x : ℤ) → i < length ws → i < length xs → w ≡ get_or ws i (pos 0) → x ≡ get_or xs i (pos 0)
    → dot_product (take (suc i) ws) (take (suc i) xs) ≡ dot_product (take i ws) (take i xs) +ℤ w *ℤ x
dot_suc [] xs i w x h k e f = absurd (omega arith)
dot_suc (v ∷ ws) [] i w x h k e f = absurd (omega arith)
dot_suc (v ∷ ws) (y ∷ xs) zero w x h k e f = ap (λ z. z *ℤ y +ℤ pos 0) (sym e) ∙ ap (λ z. w *ℤ z +ℤ pos 0) (sym f) ∙ turned (w *ℤ x)
  where
    turned : (a : ℤ) → a +ℤ pos 0 ≡ pos 0 +ℤ a
    turned a = omega (arith, ints)
dot_suc (v ∷ ws) (y ∷ xs) (suc i) w x h k e f =
    ap (λ z. v *ℤ y +ℤ z) (dot_suc ws xs i w x (omega arith) (omega arith) e f) ∙ sym (assoc (v *ℤ y) (dot_product (take i ws) (take i xs)) (w *ℤ x))
  where
    assoc : (a b c : ℤ) → (a +ℤ b) +ℤ c ≡ a +ℤ (b +ℤ c)
    assoc a b c = omega (arith, ints)

-- one product more
pub dot_more : (ws xs : List ℤ) (i : ℕ) → i < length ws → length ws ≡ length xs
    → dot_product (take (i + 1) ws) (take (i + 1) xs) ≡ dot_product (take i ws) (take i xs) +ℤ get_or ws i (pos 0) *ℤ get_or xs i (pos 0)
dot_more ws xs i h same =
    ap (λ j. dot_product (take j ws) (take j xs)) (add-one i) ∙ dot_suc ws xs i (get_or ws i (pos 0)) (get_or xs i (pos 0)) h (omega arith) refl refl

abbrev line_1 : List ℤ
line_1 = pos 60 ∷ negsuc 29 ∷ pos 10 ∷ pos 0 ∷ negsuc 1 ∷ []

abbrev line_2 : List ℤ
line_2 = pos 0 ∷ pos 30 ∷ negsuc 29 ∷ pos 15 ∷ pos 0 ∷ []

abbrev line_3 : List ℤ
line_3 = pos 0 ∷ pos 0 ∷ pos 20 ∷ negsuc 29 ∷ pos 20 ∷ []

abbrev line_4 : List ℤ
line_4 = pos 0 ∷ pos 0 ∷ pos 0 ∷ pos 15 ∷ negsuc 29 ∷ []

abbrev line_5 : List ℤ
line_5 = pos 0 ∷ pos 0 ∷ pos 0 ∷ pos 0 ∷ pos 12 ∷ []

abbrev lines : List ℤ → List ℤ
lines cs = pos 0 ∷ dot_product line_1 cs ∷ dot_product line_2 cs ∷ dot_product line_3 cs ∷ dot_product line_4 cs ∷ dot_product line_5 cs ∷ []

-- 60 times the polynomial is the difference of what the table's lines make of it
table : (cs : List ℤ) → length cs ≡ 5 → IsDifference (pos 60) cs (lines cs)
table (a ∷ b ∷ c ∷ d ∷ e ∷ []) h k = ring_z (a ∷ b ∷ c ∷ d ∷ e ∷ k ∷ []) (search reading_z depth 40 fits 20000) refl
table [] h k = absurd (omega (arith, h))
table (a ∷ []) h k = absurd (omega (arith, h))
table (a ∷ b ∷ []) h k = absurd (omega (arith, h))
table (a ∷ b ∷ c ∷ []) h k = absurd (omega (arith, h))
table (a ∷ b ∷ c ∷ d ∷ []) h k = absurd (omega (arith, h))
table (a ∷ b ∷ c ∷ d ∷ e ∷ f ∷ cs) h k = absurd (omega (arith, h))

-- the same, where each line has its value
pub table_held : (cs : List ℤ) (a b c d e : ℤ) → length cs ≡ 5 → a ≡ dot_product line_1 cs → b ≡ dot_product line_2 cs
    → c ≡ dot_product line_3 cs → d ≡ dot_product line_4 cs → e ≡ dot_product line_5 cs
    → IsDifference (pos 60) cs (pos 0 ∷ a ∷ b ∷ c ∷ d ∷ e ∷ [])
table_held cs a b c d e h p q r s t =
    let same : lines cs ≡ pos 0 ∷ a ∷ b ∷ c ∷ d ∷ e ∷ [] = cc (p, q, r, s, t) in subst (IsDifference (pos 60) cs) same (table cs h)

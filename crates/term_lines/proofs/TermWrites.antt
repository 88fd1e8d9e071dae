-- How a term is written field by field.
use Rattle.std.specs.Prelude.{◌≡◌, ℕ, codes, pos, List, ◌++◌, Result, Ok, Err}
use Rattle.std.specs.Result.{OnOk}
use Rattle.std.proofs.Common.{ap, ◌∙◌, append_assoc}
use Rattle.ring_laws.specs.Meaning.{Meaning}
use Rattle.hypergeometric.specs.Fraction.{Fraction}
use Rattle.hypergeometric.specs.LinearForm.{Factor, FactorList}
use Rattle.hypergeometric.specs.ProperTerm.{ProperTerm}
use Rattle.exact_texts.specs.Beside.{worded}
use Rattle.polynomial_sums.specs.PolynomialSums.{polynomials, in_n_k}
use Rattle.number_lines.specs.Fractions.{nonzero_fractions}
use Rattle.term_lines.specs.Fields.{parts_of_lists, unit_scaled, lists_of_term, TermParts}
use Rattle.term_lines.specs.TermTexts.{list_fields, term_fields, proper_terms}

-- a text in front of what is written later
behind : (old new whole a b : List ℕ) → new ≡ old ++ a → whole ≡ new ++ b → whole ≡ old ++ (a ++ b)
behind old new whole a b e f = f ∙ ap (λ t. t ++ b) e ∙ append_assoc old a b

on_ok : {A E P Q : Type 0} (r : Result A E) → (P → Q) → OnOk r P → OnOk r Q
on_ok (Ok x) f h = f h
on_ok (Err e) f h = tt

-- a list of scale 1 with these factors
of_scale_one : (l : FactorList) (xs : List Factor) → l.scale ≡ pos 1 → l.factors ≡ xs → l ≡ unit_scaled xs
of_scale_one l xs s e = λ i. record { scale = s i; factors = e i }

-- the four lists of a term
pub lists_are : (t : ProperTerm) (up down over guard : FactorList) → up.scale ≡ pos 1 → up.factors ≡ t.up → down.scale ≡ pos 1 → down.factors ≡ t.down
    → over.scale ≡ pos 1 → over.factors ≡ t.over → guard.scale ≡ pos 1 → guard.factors ≡ t.guard
    → (up, (down, (over, guard))) ≡ parts_of_lists (lists_of_term t)
lists_are t up down over guard s u r d q o p g =
    let one = of_scale_one up t.up s u in
    let two = of_scale_one down t.down r d in
    let three = of_scale_one over t.over q o in
    let four = of_scale_one guard t.guard p g in
    λ i. (one i, (two i, (three i, four i)))

-- the texts between the fields
module _ {A E : Type 0} (r : Result A E) (t : ProperTerm) {p : Meaning} {s n k : Fraction} (start : List ℕ) {a b c d e f g h : List ℕ} (end : List ℕ) where
  pub term_written : p ≡ t.poly → s ≡ t.scale → n ≡ t.n_base → k ≡ t.k_base
      → a ≡ start ++ (worded (codes "poly ") (polynomials in_n_k)).text p → b ≡ a ++ codes "; "
      → c ≡ b ++ (worded (codes "scale ") nonzero_fractions).text s → d ≡ c ++ codes "; "
      → e ≡ d ++ (worded (codes "nbase ") nonzero_fractions).text n → f ≡ e ++ codes "; "
      → g ≡ f ++ (worded (codes "kbase ") nonzero_fractions).text k → h ≡ g ++ codes "; "
      → OnOk r (end ≡ h ++ list_fields.text (parts_of_lists (lists_of_term t))) → OnOk r (end ≡ start ++ proper_terms.text t)
  term_written ep es en ek ea eb ec ed ee ef eg eh = on_ok r (λ last.
      let sep = codes "; " in
      let poly = (worded (codes "poly ") (polynomials in_n_k)).text p in
      let scale = (worded (codes "scale ") nonzero_fractions).text s in
      let n_base = (worded (codes "nbase ") nonzero_fractions).text n in
      let k_base = (worded (codes "kbase ") nonzero_fractions).text k in
      let lists = list_fields.text (parts_of_lists (lists_of_term t)) in
      let behind_k = behind f g end k_base (sep ++ lists) eg (behind g h end sep lists eh last) in
      let behind_n = behind d e end n_base (sep ++ (k_base ++ (sep ++ lists))) ee (behind e f end sep (k_base ++ (sep ++ lists)) ef behind_k) in
      let from_n = n_base ++ (sep ++ (k_base ++ (sep ++ lists))) in
      let behind_scale = behind b c end scale (sep ++ from_n) ec (behind c d end sep from_n ed behind_n) in
      let from_scale = scale ++ (sep ++ from_n) in
      let behind_poly = behind start a end poly (sep ++ from_scale) ea (behind a b end sep from_scale eb behind_scale) in
      behind_poly ∙ ap (λ (v : TermParts). start ++ term_fields.text v) (λ i. (ep i, (es i, (en i, (ek i, lists_of_term t))))))

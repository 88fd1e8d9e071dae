-- The pieces of a document's text, put together.
use Rattle.std.proofs.Common.{◌≡◌, ℕ, List, [], ◌++◌, refl, ap, sym, ◌∙◌, append_assoc, append-nil}
use Rattle.std.specs.Prelude.{ℤ, codes}
use Rattle.std.specs.Fmt.{signed_decimal, digits}
use Rattle.ring_laws.specs.Meaning.{Meaning}
use Rattle.poly_laws.specs.Values.{level}
use Rattle.exact_texts.specs.Texts.{◌⧺◌, line}
use Rattle.document_text.specs.Spelling.{polynomial_text, polynomial_in_n_text}
use Rattle.document_text.specs.Document.{document_text}
use Rattle.cert_text.specs.PolynomialDocument.{in_k, polynomial_document}
use Rattle.cert_text.proofs.PolynomialText.{number_text}

-- what the printer writes, with the five texts that vary
abbrev pub pieces : List ℕ → List ℕ → List ℕ → List ℕ → List ℕ → List ℕ
pieces p s a k y =
    codes "ekhad 1\ncommand gosper\nterm poly " ++ (p ++ (codes "; scale " ++ (s ++
    (codes "; nbase 1; kbase 1; up -; down -; over -; guard -\nfound 0\nmatch -\nq 1; -\nr 1; -\na " ++ (a ++
    (codes "\nK poly 1; scale " ++ (k ++ (codes "; nbase 1; kbase 1; up -; down -; over -; guard -\nY " ++ (y ++
    codes "\nD -\nRtop 1; -\nRbot 1; -\nrange -\nend\n")))))))))

one_text : polynomial_text (level 2).ops.unit ≡ codes "1"
unfolding polynomial_text digits
one_text = refl

-- the same texts where the definitions place them
abbrev term_with : List ℕ → List ℕ → List ℕ
term_with p s = codes "poly " ⧺ p ⧺ codes "; scale " ⧺ (s ⧺ []) ⧺ codes "; nbase " ⧺ codes "1" ⧺ codes "; kbase " ⧺ codes "1"
    ⧺ codes "; up " ⧺ codes "-" ⧺ codes "; down " ⧺ codes "-" ⧺ codes "; over " ⧺ codes "-" ⧺ codes "; guard " ⧺ codes "-"

abbrev text_with : List ℕ → List ℕ → List ℕ → List ℕ → List ℕ → List ℕ → List ℕ
text_with p s a one k y = line (codes "ekhad 1") [] ⧺ line (codes "command gosper") [] ⧺ line (codes "term ") (term_with p s)
    ⧺ (line (codes "found ") (codes "0") ⧺ line (codes "match ") (codes "-") ⧺ line (codes "q ") (codes "1; -") ⧺ line (codes "r ") (codes "1; -")
    ⧺ line (codes "a ") a ⧺ line (codes "K ") (term_with one k) ⧺ line (codes "Y ") y ⧺ line (codes "D ") (codes "-")
    ⧺ line (codes "Rtop ") (codes "1; -") ⧺ line (codes "Rbot ") (codes "1; -") ⧺ line (codes "range ") (codes "-")) ⧺ line (codes "end") []

regrouped : (p s a k y : List ℕ) → pieces p s a k y ≡ text_with p s a (codes "1") k y
regrouped p s a k y = simp (append_assoc, append-nil)

placed : (poly y : Meaning) (scale a k : ℤ)
    → text_with (polynomial_text (in_k poly)) (signed_decimal scale) (polynomial_in_n_text ((level 1).ops.whole a))
    (polynomial_text (level 2).ops.unit) (signed_decimal k) (polynomial_text (in_k y))
    ≡ document_text (polynomial_document poly scale a k y)
unfolding document_text digits
placed poly y scale a k = refl

spelled : (poly y : Meaning) (scale a k : ℤ)
    → pieces (polynomial_text (in_k poly)) (signed_decimal scale) (signed_decimal a) (signed_decimal k) (polynomial_text (in_k y))
    ≡ document_text (polynomial_document poly scale a k y)
spelled poly y scale a k =
    regrouped (polynomial_text (in_k poly)) (signed_decimal scale) (signed_decimal a) (signed_decimal k) (polynomial_text (in_k y))
    ∙ ap (λ z. text_with (polynomial_text (in_k poly)) (signed_decimal scale) z (codes "1") (signed_decimal k) (polynomial_text (in_k y))) (sym (number_text a))
    ∙ ap (λ z. text_with (polynomial_text (in_k poly)) (signed_decimal scale) (polynomial_in_n_text ((level 1).ops.whole a)) z (signed_decimal k)
    (polynomial_text (in_k y))) (sym one_text)
    ∙ placed poly y scale a k

-- the printed pieces are the document's text
pub assembled : (poly y : Meaning) (scale a k : ℤ) (p s m c q : List ℕ) → p ≡ polynomial_text (in_k poly) → s ≡ signed_decimal scale
    → m ≡ signed_decimal a → c ≡ signed_decimal k → q ≡ polynomial_text (in_k y) → pieces p s m c q ≡ document_text (polynomial_document poly scale a k y)
assembled poly y scale a k p s m c q e1 e2 e3 e4 e5 =
    ap (λ z. pieces z s m c q) e1 ∙ ap (λ z. pieces (polynomial_text (in_k poly)) z m c q) e2
    ∙ ap (λ z. pieces (polynomial_text (in_k poly)) (signed_decimal scale) z c q) e3
    ∙ ap (λ z. pieces (polynomial_text (in_k poly)) (signed_decimal scale) (signed_decimal a) z q) e4
    ∙ ap (λ z. pieces (polynomial_text (in_k poly)) (signed_decimal scale) (signed_decimal a) (signed_decimal k) z) e5
    ∙ spelled poly y scale a k

-- The five fields of a text: the words in front of them, what follows them, and what it is to read them right.
use Rattle.std.specs.Prelude.{◌≡◌, codes, List, ◌∷◌, ◌++◌, ℕ}
use Rattle.std.specs.Fmt.{signed_decimal}
use Rattle.document_text.specs.Spelling.{polynomial_text}
use Rattle.cert_text.specs.PolynomialDocument.{in_k}
use Rattle.cert_text.specs.Readable.{Contents}
use Rattle.cert_text.specs.Reading.{IsField}

-- the words in front of the five fields
abbrev pub term_word : List ℕ
term_word = codes "ekhad 1\ncommand gosper\nterm poly "

abbrev pub scale_word : List ℕ
scale_word = codes "; scale "

abbrev pub multiplier_word : List ℕ
multiplier_word = codes "; nbase 1; kbase 1; up -; down -; over -; guard -\nfound 0\nmatch -\nq 1; -\nr 1; -\na "

abbrev pub carrier_word : List ℕ
carrier_word = codes "\nK poly 1; scale "

abbrev pub y_word : List ℕ
y_word = codes "; nbase 1; kbase 1; up -; down -; over -; guard -\nY "

-- what follows the stop of each field
abbrev pub behind_y : List ℕ
behind_y = codes "D -\nRtop 1; -\nRbot 1; -\nrange -\nend\n"

abbrev pub behind_carrier : List ℕ → List ℕ
behind_carrier y = codes " nbase 1; kbase 1; up -; down -; over -; guard -\nY " ++ (y ++ 10 ∷ behind_y)

abbrev pub behind_multiplier : List ℕ → List ℕ → List ℕ
behind_multiplier k y = codes "K poly 1; scale " ++ (k ++ 59 ∷ behind_carrier y)

abbrev pub behind_scale : List ℕ → List ℕ → List ℕ → List ℕ
behind_scale a k y = codes " nbase 1; kbase 1; up -; down -; over -; guard -\nfound 0\nmatch -\nq 1; -\nr 1; -\na " ++ (a ++ 10 ∷ behind_multiplier k y)

abbrev pub behind_poly : List ℕ → List ℕ → List ℕ → List ℕ → List ℕ
behind_poly s a k y = codes " scale " ++ (s ++ 59 ∷ behind_scale a k y)

-- the five fields of a text
pub record Fields : Type 0 where
  pub poly : List ℕ
  pub scale : List ℕ
  pub multiplier : List ℕ
  pub carrier_scale : List ℕ
  pub y : List ℕ

-- with what follows each
pub record AreFields (text : List ℕ) (f : Fields) : Type 0 where
  pub rest_1 : List ℕ
  pub rest_2 : List ℕ
  pub rest_3 : List ℕ
  pub rest_4 : List ℕ
  pub rest_5 : List ℕ
  pub poly : IsField text term_word (codes ";") f.poly rest_1
  pub scale : IsField rest_1 scale_word (codes ";") f.scale rest_2
  pub multiplier : IsField rest_2 multiplier_word (codes "\n") f.multiplier rest_3
  pub carrier_scale : IsField rest_3 carrier_word (codes ";") f.carrier_scale rest_4
  pub y : IsField rest_4 y_word (codes "\n") f.y rest_5

-- each field that spells its part of d is read as that part
pub record Agrees (f : Fields) (d e : Contents) : Type 0 where
  pub poly : f.poly ≡ polynomial_text (in_k d.poly) → e.poly ≡ d.poly
  pub scale : f.scale ≡ signed_decimal d.scale → e.scale ≡ d.scale
  pub multiplier : f.multiplier ≡ signed_decimal d.multiplier → e.multiplier ≡ d.multiplier
  pub carrier_scale : f.carrier_scale ≡ signed_decimal d.carrier_scale → e.carrier_scale ≡ d.carrier_scale
  pub y : f.y ≡ polynomial_text (in_k d.y) → e.y ≡ d.y

-- Which document answers a text: its term is that of the text, and its claim telescopes the value of the text's own tree.
use Rattle.std.specs.Prelude.{◌≡◌, ◌≤◌, ℕ, length, ℤ, pos, ◌+ℤ◌, ◌-ℤ◌, ◌*ℤ◌, ◌<ℤ◌, unsigned_abs, List, [], ◌∷◌, Ok}
use Rattle.std.specs.Int.{◌∣◌}
use Rattle.ring_laws.specs.Meaning.{Meaning, items}
use Rattle.ring_laws.specs.Wholes.{number_of}
use Rattle.poly_laws.specs.Lists.{coefficient_at}
use Rattle.poly_laws.specs.Values.{value_at, level}
use Rattle.hypergeometric.specs.Telescopes.{Telescopes}
use Rattle.hypergeometric.specs.TermFacts.{IsPolynomial}
use Rattle.document_text.specs.Document.{Document}
use Rattle.document_text.specs.WellFormed.{IsWellFormed}
use Rattle.cert_text.specs.PolynomialDocument.{polynomial_document}
use Rattle.cert_text.specs.Readable.{contents, AreReadable}
use Rattle.cert_checker.specs.Checks.{AreInBounds}
use Rattle.grammar.specs.Tree.{Tree}
use Rattle.grammar.specs.Several.{a_term}
use Rattle.grammar.specs.Reading.{HasTrees}
use Rattle.term_classes.specs.TreeValue.{term_value}
use Rattle.term_classes.specs.Walk.{class_of}

-- the coefficient of k^power
abbrev pub coefficient : Meaning → ℕ → ℤ
coefficient p power = number_of (coefficient_at (level 0).ops (items p) power)

-- The multiplier times poly is the difference of y, for all k; the multiplier is positive, no number but 1 divides it and all
-- coefficients of y, and y has no constant. So poly alone fixes both.
pub record IsLeast (poly : Meaning) (multiplier : ℤ) (y : Meaning) : Type 0 where
  pub difference : (k : ℤ) → multiplier *ℤ value_at (k ∷ []) poly ≡ value_at ((k +ℤ pos 1) ∷ []) y -ℤ value_at (k ∷ []) y
  pub positive : pos 0 <ℤ multiplier
  pub primitive : (d : ℕ) → d ∣ unsigned_abs multiplier → ((power : ℕ) → d ∣ unsigned_abs (coefficient y power)) → d ≡ 1
  pub no_constant : coefficient y 0 ≡ pos 0

-- what the engine gives for a polynomial of degree at most 4; the check of the claim stays within bounds
pub record IsAntidifferenceOf (poly : Meaning) (multiplier : ℤ) (y : Meaning) : Type 0 where
  pub poly_bounded : IsPolynomial 1 poly
  pub degree : length (items poly) ≤ 5
  pub bounded : IsPolynomial 1 y
  pub least : IsLeast poly multiplier y
  pub in_bounds : (scale : ℤ) → AreInBounds (contents poly scale multiplier scale y)

-- The document answers the text: the text has a tree by the grammar, the document is that of the tree's class, which is a whole number
-- times a polynomial in k, with the least antidifference, it is well formed and can be read back, and its claim telescopes the tree's
-- value at all whole n and k, over all finite ranges, and by its ratio.
pub record IsAnswerTo (text : List ℕ) (d : Document) : Type 0 where
  pub tree : Tree
  pub read : HasTrees a_term text (tree ∷ [])
  pub class : (class_of tree).outcome ≡ Ok d.term
  pub poly : Meaning
  pub y : Meaning
  pub scale : ℤ
  pub multiplier : ℤ
  pub antidifference : IsAntidifferenceOf poly multiplier y
  pub document : d ≡ polynomial_document poly scale multiplier scale y
  pub well_formed : IsWellFormed d
  pub readable : AreReadable (contents poly scale multiplier scale y)
  pub telescopes : Telescopes (term_value tree) d.term.poly d.found.claim

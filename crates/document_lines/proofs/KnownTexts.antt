-- Texts of documents as known, and what has none.
use Rattle.std.specs.Prelude.{◌≡◌, ℤ, pos, negsuc, codes, List, [], ◌∷◌, Some, None}
use Rattle.std.specs.Fmt.{digits}
use Rattle.std.proofs.Common.{refl, arith}
use Rattle.ring_laws.specs.Meaning.{Meaning, number, listed}
use Rattle.exact_texts.specs.Texts.{◌⧺◌}
use Rattle.hypergeometric.specs.Forms.{form_with}
use Rattle.hypergeometric.specs.FactorLists.{factor_with}
use Rattle.hypergeometric.specs.Fraction.{of_whole}
use Rattle.hypergeometric.specs.LinearForm.{Factor, FactorList}
use Rattle.hypergeometric.specs.ProperTerm.{ProperTerm}
use Rattle.documents.specs.Documents.{unsought, no_number, at_number, Claim, found, empty, gosper, ct, zeil, wz, hyper, of_term}
use Rattle.documents.specs.declared.documents.Version.TheVariants.{One}
use Rattle.document_lines.specs.ClaimTexts.{witness_text, witnesses, claim_at, claim_text}
use Rattle.document_lines.specs.DocumentTexts.{commands, command_text, document_text}

abbrev c : ℤ → Meaning
c z = listed (number z ∷ [])

-- a form by its slopes in n and k and its offset, with the power 1
abbrev once : ℤ → ℤ → ℤ → Factor
once n k offset = factor_with (form_with n k offset) 1

abbrev scaled : ℤ → List Factor → FactorList
scaled z xs = record { scale = z; factors = xs }

-- a term of factorials alone
abbrev factorials : List Factor → List Factor → ProperTerm
factorials up down = record {
  poly = listed (c (pos 1) ∷ []);
  scale = of_whole (pos 1);
  n_base = of_whole (pos 1);
  k_base = of_whole (pos 1);
  up = up;
  down = down;
  over = [];
  guard = [];
}

-- n choose k
abbrev binomial : ProperTerm
binomial = factorials (once (pos 1) (pos 0) (pos 0) ∷ []) (once (pos 0) (pos 1) (pos 0) ∷ once (pos 1) (negsuc 0) (pos 0) ∷ [])

-- the sum over k doubles with n: F(n+1,k) - 2 F(n,k) is a difference
abbrev first_order : Claim
first_order = found (record {
  order = 1;
  form = record {
    matches = [];
    q = scaled (negsuc 0) (once (negsuc 0) (pos 1) (negsuc 0) ∷ []);
    r = scaled (pos 1) (once (pos 0) (pos 1) (pos 1) ∷ []);
  };
  multipliers = c (negsuc 1) ∷ c (pos 1) ∷ [];
  carrier = factorials (once (pos 1) (pos 0) (pos 0) ∷ []) (once (pos 0) (pos 1) (negsuc 0) ∷ once (pos 1) (negsuc 0) (pos 1) ∷ []);
  y = listed (c (negsuc 0) ∷ []);
  poles = scaled (pos 1) [];
  ratio_top = scaled (pos 1) (once (pos 0) (pos 1) (pos 0) ∷ []);
  ratio_bottom = scaled (negsuc 0) (once (negsuc 0) (pos 1) (negsuc 0) ∷ []);
  range = Some (form_with (pos 0) (pos 0) (pos 0), form_with (pos 1) (pos 0) (pos 0));
})

abbrev order_zero : Claim
order_zero = empty (record {
  order = 0;
  form = record {
    matches = [];
    q = scaled (negsuc 0) (once (negsuc 0) (pos 1) (pos 0) ∷ []);
    r = scaled (pos 1) (once (pos 0) (pos 1) (pos 1) ∷ []);
  };
  evidence = unsought;
})

known_document : document_text One (record { command = zeil 4; subject = of_term binomial; claims = order_zero ∷ first_order ∷ [] })
    ≡ codes "ekhad 1\ncommand zeil 4\n"
    ⧺ codes "term poly 1; scale 1; nbase 1; kbase 1; up n; down k, -k+n; over -; guard -\n"
    ⧺ codes "empty 0\nmatch -\nq -1; k-n\nr 1; k+1\nwitness unsought\n"
    ⧺ codes "found 1\nmatch -\nq -1; k-n-1\nr 1; k+1\na -2; 1\n"
    ⧺ codes "K poly 1; scale 1; nbase 1; kbase 1; up n; down k-1, -k+n+1; over -; guard -\n"
    ⧺ codes "Y -1\nD -\nRtop 1; k\nRbot -1; k-n-1\nrange 0 to n\nend\n"
unfolding digits
known_document = refl

-- a match, no range, and poles: k+1 and k are 1 apart
known_claim : claim_text One (found (record {
  order = 0;
  form = record {
    matches = record { form = form_with (pos 0) (pos 1) (pos 1); shift = 0; power = 1 } ∷ [];
    q = scaled (pos 1) (once (pos 0) (pos 1) (pos 0) ∷ []);
    r = scaled (pos 1) (once (pos 0) (pos 1) (pos 2) ∷ []);
  };
  multipliers = c (pos 1) ∷ [];
  carrier = factorials [] [];
  y = listed (c (negsuc 0) ∷ []);
  poles = scaled (pos 1) (once (pos 0) (pos 1) (pos 0) ∷ []);
  ratio_top = scaled (pos 1) (once (pos 0) (pos 1) (pos 0) ∷ once (pos 0) (pos 1) (pos 1) ∷ []);
  ratio_bottom = scaled (pos 1) [];
  range = None;
})) ≡ codes "found 0\nmatch k+1 by 0\nq 1; k\nr 1; k+2\na 1\n"
    ⧺ codes "K poly 1; scale 1; nbase 1; kbase 1; up -; down -; over -; guard -\n"
    ⧺ codes "Y -1\nD k\nRtop 1; k, k+1\nRbot 1; -\nrange -\n"
unfolding digits
known_claim = refl

known_commands : (command_text gosper ≡ codes "gosper") × (command_text (ct 6) ≡ codes "ct 6")
unfolding digits
known_commands = (refl, refl)

known_witnesses : (witness_text no_number ≡ codes "none") × (witness_text (at_number 255) ≡ codes "255")
unfolding digits
known_witnesses = (refl, refl)

-- no order 7, no number 256 to show an order empty, no command of pairs or recurrences yet, and no claim of another order
order_out : ¬ (commands.Has (zeil 7))
order_out h = omega (arith, h)

number_out : ¬ (witnesses.Has (at_number 256))
number_out h = omega (arith, h)

no_pairs_yet : (¬ (commands.Has wz)) × (¬ (commands.Has hyper))
no_pairs_yet = (λ h. h, λ h. h)

other_order : ¬ ((claim_at One 1).Has order_zero)
other_order h = omega (arith, h.0)

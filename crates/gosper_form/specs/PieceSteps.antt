-- The pieces of a term step by step: first the degrees in k of q0, r0, p_0, .., p_J, counted before anything is multiplied, and each tested
-- against the limit; then the operations. Forms are only compared and made primitive. What is multiplied are the numbers that the lists of
-- forms have before them, and what is shifted is the polynomial.
use Rattle.std.specs.Prelude.{ℕ, zero, suc, ◌+◌, ◌-◌, cond, ℤ, pos, ◌*ℤ◌, unsigned_abs, ◌⊎◌, List, [], ◌∷◌, ◌++◌, map, length, Ok}
use lib.IntN.{pow}
use Rattle.ring_laws.specs.Meaning.{Meaning, items, listed}
use Rattle.poly_laws.specs.Shift.{list_shift}
use Rattle.poly_laws.specs.Values.{level}
use Rattle.steps.specs.declared.limits.LimitName.TheVariants.{Degree}
use Rattle.steps.specs.Operations.{Counterpart, of_number, of_polynomial, of_fraction, IsInBounds, Operation}
use Rattle.steps.specs.Steps.{gives, within_limit, ◌then◌}
use Rattle.steps.specs.StepFaults.{EngineSteps}
use Rattle.hypergeometric.specs.LinearForm.{Factor}
use Rattle.hypergeometric.specs.ProperTerm.{ProperTerm}
use Rattle.hypergeometric.specs.PrimitiveForm.{is_zero}
use Rattle.term_pieces.specs.Products.{contents_of}
use Rattle.term_pieces.specs.Pieces.{top_forms, q_forms, r_forms, top_number}

-- the degree in k of a product of forms: the powers of those that have a k
abbrev pub degree_in_k : List Factor → ℕ
degree_in_k [] = 0
degree_in_k (x ∷ xs) = cond (is_zero x.form.k_slope) 0 x.power + degree_in_k xs

-- the degree in k of p_j, for a polynomial that isn't 0
abbrev pub top_degree : ProperTerm → ℕ → ℕ → ℕ
top_degree f order j = (length (items f.poly) - 1) + degree_in_k (top_forms f order j)

-- g(j), g(j + 1), .., so many of them
abbrev pub each_from : {A : Type 0} → (ℕ → A) → ℕ → ℕ → List A
each_from g j zero = []
each_from g j (suc more) = g j ∷ each_from g (suc j) more

-- the items of all lists, one list after another
abbrev pub all_of : {A : Type 0} → List (List A) → List A
all_of [] = []
all_of (xs ∷ rest) = xs ++ all_of rest

-- those of q0, r0, p_0, .., p_J
abbrev pub degrees : ProperTerm → ℕ → List ℕ
degrees f order = degree_in_k (q_forms f order) ∷ degree_in_k (r_forms f order) ∷ each_from (top_degree f order) 0 (suc order)

-- each is within the limit, or the first that isn't is refused
abbrev pub each_within : List ℕ → EngineSteps (Unit {0})
each_within [] = gives (tt {0})
each_within (count ∷ counts) = within_limit Degree count (tt {0}) then (λ _. each_within counts)

-- A number times what forms have besides their primitive parts, as one product. No factor is 0, so its magnitude is the product of theirs.
abbrev pub scale_size : ℤ → List Factor → Counterpart
scale_size number forms = of_number (unsigned_abs (number *ℤ contents_of forms))

-- each coefficient, a polynomial in n, with its numbers replaced by their magnitudes, at n + j
abbrev pub sizes_at_later_n : Meaning → ℕ → Meaning
sizes_at_later_n p j =
    listed (map (λ c. listed (list_shift (level 0).ops ((level 0).ops.whole (pos j)) (map (level 0).ops.magnitude (items c)))) (items p))

-- the polynomial of p_j, and its number
abbrev pub top_sizes : ProperTerm → ℕ → ℕ → List Counterpart
top_sizes f order j = of_polynomial (sizes_at_later_n f.poly j) ∷ scale_size (top_number f order j) (top_forms f order j) ∷ []

-- the number of the carrier, before it is brought to lowest terms
abbrev pub carrier_size : ProperTerm → ℕ → Counterpart
carrier_size f order = of_fraction (unsigned_abs (f.scale.top *ℤ f.k_base.bottom)) (unsigned_abs (f.scale.bottom *ℤ pow f.n_base.bottom order))

-- all operations, in order: q0, r0, p_0, .., p_J and the carrier
abbrev pub piece_sizes : ProperTerm → ℕ → List Counterpart
piece_sizes f order = scale_size f.k_base.top (q_forms f order) ∷ scale_size f.k_base.bottom (r_forms f order)
    ∷ (all_of (each_from (top_sizes f order) 0 (suc order)) ++ (carrier_size f order ∷ []))

-- an operation at no place, by its counterpart on absolute values
abbrev pub operation_of : Counterpart → Operation (Unit {0})
operation_of counterpart = record { place = tt {0}; counterpart = counterpart }

-- the steps to the pieces of a term at an order
abbrev pub pieces_steps : ProperTerm → ℕ → EngineSteps (Unit {0})
pieces_steps f order = each_within (degrees f order) then (λ _. record { outcome = Ok (tt {0}); operations = map operation_of (piece_sizes f order) })

-- some operation isn't in bounds
abbrev pub SomeTooLarge : List Counterpart → Type 0
SomeTooLarge [] = ⊥
SomeTooLarge (x ∷ xs) = (¬ IsInBounds x) ⊎ SomeTooLarge xs

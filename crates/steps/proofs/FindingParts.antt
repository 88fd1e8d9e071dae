-- What is sought of parts, one after another: what the whole gives from what the rest gives.
use Rattle.std.proofs.Common.{◌≡◌, ap, sym, ◌∙◌, List, [], ◌∷◌, ◌++◌, append_assoc}
use Rattle.std.specs.Prelude.{Option, Some, None, Ok}
use Rattle.steps.specs.Steps.{Steps, gives, ◌then◌}
use Rattle.steps.specs.Found.{in_front, where_some}
use Rattle.steps.specs.Answers.{Cause, HasCause}
use Rattle.steps.proofs.StepLaws.{then_outcome}
use Rattle.steps.proofs.AnswerLaws.{first_cause, later_cause}

-- the whole is what the rest gives with these items in front
pub record Continues {P R B : Type 0} (whole rest : Steps P R (Option (List B))) (done : List B) : Type 0 where
  pub gives_more : (xs : List B) → rest.outcome ≡ Ok (Some xs) → whole.outcome ≡ Ok (Some (done ++ xs))
  pub none : rest.outcome ≡ Ok None → whole.outcome ≡ Ok None
  pub cause : (x : Cause P R) → HasCause rest x → HasCause whole x

pub nothing_done : {P R B : Type 0} (whole : Steps P R (Option (List B))) → Continues whole whole []
nothing_done whole = record { gives_more = λ xs h. h; none = λ h. h; cause = λ x h. h }

module _ {P R A B : Type 0} (s : Steps P R (Option A)) (g : A → B) (rest : Steps P R (Option (List B))) where
  -- a part, and then the rest
  abbrev pub part_first : Steps P R (Option (List B))
  part_first = s then (λ p. where_some p (λ p1. rest then (λ ps. gives (in_front (g p1) ps))))

  abbrev behind : A → Steps P R (Option (List B))
  behind p = rest then (λ ps. gives (in_front (g p) ps))

  -- one more part is done
  pub part_done : (whole : Steps P R (Option (List B))) (done : List B) (p : A) → Continues whole part_first done → s.outcome ≡ Ok (Some p)
      → Continues whole rest (done ++ g p ∷ [])
  part_done whole done p h e =
      let there = then_outcome s (λ p. where_some p behind) (Some p) e in
      record {
        gives_more = λ xs k. h.gives_more (g p ∷ xs) (there ∙ then_outcome rest (λ ps. gives (in_front (g p) ps)) (Some xs) k)
            ∙ ap (λ t. Ok (Some t)) (sym (append_assoc done (g p ∷ []) xs));
        none = λ k. h.none (there ∙ then_outcome rest (λ ps. gives (in_front (g p) ps)) None k);
        cause = λ x k. h.cause x (later_cause s (λ p. where_some p behind) (Some p) x e (first_cause rest (λ ps. gives (in_front (g p) ps)) x k));
      }

  -- a part has none, and so the whole has none
  pub part_none : (whole : Steps P R (Option (List B))) (done : List B) → Continues whole part_first done → s.outcome ≡ Ok None
      → whole.outcome ≡ Ok None
  part_none whole done h e = h.none (then_outcome s (λ p. where_some p behind) None e)

  -- a cause in a part is one in the whole
  pub part_fault : (whole : Steps P R (Option (List B))) (done : List B) (x : Cause P R) → Continues whole part_first done → HasCause s x
      → HasCause whole x
  part_fault whole done x h k = h.cause x (first_cause s (λ p. where_some p behind) x k)

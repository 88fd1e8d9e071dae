-- Where reading two formats in turn stops, where the second doesn't hang on the first.
use Rattle.std.specs.Prelude.{ℕ, List}
use Rattle.exact_texts.specs.Formats.{Format, in_turn}
use Rattle.exact_texts.specs.Lines.{StopsAt, Takes, AreLineTexts}
use Rattle.exact_texts.proofs.Formats.{stops_first, stops_behind}

module _ {A B : Type 0} (F : Format A) (G : Format B) where
  pub first_stops : AreLineTexts G → (old new : List ℕ) → StopsAt F old new → StopsAt (in_turn F (λ _. G)) old new
  first_stops g old new s = stops_first F (λ _. G) old new (λ _ _. g.some) s

  pub second_stops : AreLineTexts F → (old mid new : List ℕ) (a : A) → Takes F old a mid → StopsAt G mid new
      → StopsAt (in_turn F (λ _. G)) old new
  second_stops f old mid new a t s = stops_behind F (λ _. G) old mid new a f t s

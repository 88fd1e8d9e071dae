-- Worked values of the definitions, so that a wrong rule in specs/ does not check.
use Rattle.std.proofs.Common.{◌≡◌, ℕ, ◌-◌, ◌^◌, ◌<◌, ◌≤◌, ◌⊎◌, inl, inr, List, [], ◌∷◌, Some, Contains, slice_index_or, subst, arith, refl}
use Rattle.ek_io.specs.Faults.{Rose, NeverFalls, count_up}
use Rattle.ek_io.specs.Transfer.{TakesBytes, TakesAtMost, AppendsFront}
use Rattle.ek_io.specs.Memory.{SourceState, fresh_source, bytes_given, source_after, source_after_fault, SinkState, WriteFails, fresh_sink, bytes_taken, sink_after, sink_after_fault}

-- a count goes up by one, and stays at its last value
pub known_counts : (count_up 0 ≡ 1) × (count_up (2 ^ 64 - 2) ≡ 2 ^ 64 - 1) × (count_up (2 ^ 64 - 1) ≡ 2 ^ 64 - 1)
known_counts = (refl, refl, refl)

-- of two counts, rose says that the later one is greater or stands at the last value
pub known_rises : (before after : ℕ) → after ≤ 2 ^ 64 - 1 → Rose before after → (before < after) ⊎ (after ≡ 2 ^ 64 - 1)
known_rises before after fits rose = grind arith

-- and nothing else is needed for it
pub known_rises_back : (before after : ℕ) → (before < after) ⊎ (after ≡ 2 ^ 64 - 1) → Rose before after
known_rises_back before after either = elim either [ inl greater ↦ omega arith | inr last ↦ omega arith ]

-- a count that stays where it is below the last value did not rise
pub known_no_rise : ¬ Rose 3 3 × ¬ Rose 3 2 × ¬ NeverFalls 3 2 × ¬ NeverFalls (2 ^ 64 - 1) (2 ^ 64)
known_no_rise = (λ rose. omega arith, λ rose. omega arith, λ falls. omega (arith, falls.not_less), λ falls. omega (arith, falls.stays refl))

-- `abc` of which two bytes are taken leaves `c`
pub known_takes : TakesBytes (Some (97 ∷ 98 ∷ 99 ∷ [])) (Some (99 ∷ [])) 2
known_takes = (97 ∷ 98 ∷ [], refl, refl)

-- two bytes are at most two, and at most five
pub known_takes_at_most : TakesAtMost (Some (97 ∷ 98 ∷ 99 ∷ [])) (Some (99 ∷ [])) 5
known_takes_at_most = (2, omega arith, known_takes)

-- after `x`, a front of `abc` was written, but never the whole
pub known_front : AppendsFront (Some (120 ∷ [])) (Some (120 ∷ 97 ∷ 98 ∷ [])) (97 ∷ 98 ∷ 99 ∷ [])
known_front = (2, omega arith, refl)

-- a source with three bytes left that gives pieces of two and fails at its calls 1 and 4
abbrev of_three : SourceState
of_three = record { left = 97 ∷ 98 ∷ 99 ∷ []; piece = 2; failing = 1 ∷ 4 ∷ []; call = 0; faults = 0 }

-- it gives the least of what is left, the buffer and the piece
pub known_given : (bytes_given of_three 1 ≡ 1) × (bytes_given of_three 9 ≡ 2) × (bytes_given (record of_three { piece = 9 }) 9 ≡ 3)
known_given = (refl, refl, refl)

-- it is what was made of those bytes, and a piece of 0 counts as 1
pub known_fresh : (fresh_source (97 ∷ 98 ∷ 99 ∷ []) 2 (1 ∷ 4 ∷ []) ≡ of_three) × ((fresh_source [] 0 []).piece ≡ 1) × ((fresh_sink 0 []).piece ≡ 1)
known_fresh = (refl, refl, refl)

-- its call 0 gives `ab`, and the next call fails and leaves `c`
pub known_calls : source_after_fault (source_after of_three 2)
    ≡ record { left = 99 ∷ []; piece = 2; failing = 1 ∷ 4 ∷ []; call = 2; faults = 1 }
known_calls = refl

-- a sink that takes pieces of two and fails at its call 0
abbrev of_two : ℕ → List ℕ → SinkState
of_two call written = record { written = written; piece = 2; failing = 0 ∷ []; call = call; faults = 0 }

-- it takes the least of the piece's length, its own and the room
pub known_taken : (bytes_taken (of_two 1 []) 1 ≡ 1) × (bytes_taken (of_two 1 []) 9 ≡ 2)
known_taken = (refl, refl)

-- after its call 1 took `a`, and after that call failed
pub known_writes : (sink_after (of_two 1 (120 ∷ [])) (97 ∷ []) ≡ of_two 2 (120 ∷ 97 ∷ [])) × ((sink_after_fault (of_two 1 [])).faults ≡ 1)
known_writes = (refl, refl)

-- the list of call 0 alone does not have call 1
no_other_call : ¬ Contains {X = ℕ} (0 ∷ []) 1
no_other_call (place, within, is) =
    let first : place ≡ 0 = omega (arith, within) in
    omega (arith, subst (λ (k : ℕ). ◌≡◌ {A = ℕ} (slice_index_or (0 ∷ []) k 1) 1) first is)

-- its call 0 fails, and its call 1 does not
pub known_failing : WriteFails (of_two 0 []) [] × ¬ WriteFails (of_two 1 []) (97 ∷ [])
known_failing = (inl (0, omega arith, refl), λ fails. elim fails [ inl listed ↦ no_other_call listed | inr full ↦ omega (arith, full.full) ])

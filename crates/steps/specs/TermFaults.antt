-- Steps over the tree of a text, which are refused where the tree stands for no term. An operation stands at a node, told by its byte.
use Rattle.std.specs.Prelude.{ℕ}
use Rattle.ring_laws.specs.declared.faults.RingFault.{RingFault}
use Rattle.ring_laws.specs.declared.faults.RingFault.TheVariants as ring
use Rattle.steps.specs.Steps.{Steps, Refusal, limit, because}
use Rattle.steps.specs.Answers.{Cause, refused, too_large, no_memory}
use Rattle.steps.specs.declared.faults.TermFault.{TermFault}
use Rattle.steps.specs.declared.faults.TermFault.TheVariants as fault

-- The reasons: 1 an argument that is no linear form; 2 a constant negative argument; 3 a denominator that is 0 or no linear form; 4 a base
-- that is no constant other than 0; 5 an exponent that is no linear form; 6 a sum with a part that is no polynomial, or something that
-- must be a polynomial and isn't; 7 a zero; 8 a k where only n may stand.
pub record Improper : Type 0 where
  pub reason : ℕ
  pub place : ℕ

-- a refusal over the tree of a text: a limit that is passed, with the count, or a reason with its place
abbrev pub TermRefusal : Type 0
TermRefusal = Refusal Improper

-- steps over the tree of a text: operations stand at the bytes of nodes, and limits or reasons with places refuse
abbrev pub TermSteps : Type 0 → Type 0
TermSteps A = Steps ℕ Improper A

-- the tree at the place stands for no term, for the reason
abbrev pub improper : (reason place : ℕ) → TermRefusal
improper reason place = because (record { reason = reason; place = place })

-- what a fault of the code says of such steps
abbrev pub term_cause : TermFault → Cause ℕ Improper
term_cause (fault.Improper reason at) = refused (improper reason at)
term_cause (fault.Limit name counted) = refused (limit name counted)
term_cause (fault.TooLarge at) = too_large at
term_cause fault.Memory = no_memory

-- the fault of the arithmetic of the node at a place
abbrev pub fault_of : ℕ → RingFault → TermFault
fault_of at ring.TooLarge = fault.TooLarge at
fault_of at ring.Memory = fault.Memory

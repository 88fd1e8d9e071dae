-- Steps of an engine, which are refused at limits alone, and whose operations need no places.
use Rattle.ring_laws.specs.declared.faults.RingFault.{RingFault}
use Rattle.ring_laws.specs.declared.faults.RingFault.TheVariants as ring
use Rattle.steps.specs.Steps.{Steps, limit}
use Rattle.steps.specs.Answers.{Cause, refused, too_large, no_memory}
use Rattle.steps.specs.declared.faults.StepFault.{StepFault}
use Rattle.steps.specs.declared.faults.StepFault.TheVariants as fault

-- steps of an engine: operations have no places, and nothing but a limit refuses
abbrev pub EngineSteps : Type 0 → Type 0
EngineSteps A = Steps (Unit {0}) ⊥ A

-- what a fault of the code says of such steps
abbrev pub step_cause : StepFault → Cause (Unit {0}) ⊥
step_cause (fault.Limit name counted) = refused (limit name counted)
step_cause fault.TooLarge = too_large tt
step_cause fault.Memory = no_memory

-- the fault of the arithmetic of an engine
abbrev pub step_fault_of : RingFault → StepFault
step_fault_of ring.TooLarge = fault.TooLarge
step_fault_of ring.Memory = fault.Memory

-- What the answer of a step says.
use Rattle.std.specs.Prelude.{ℕ, ◌≡◌, Option, Some, None}
use Rattle.machine.specs.declared.access.Why.{Why}
use Rattle.machine.specs.declared.access.Refusal.{Refusal}
use Rattle.machine.specs.declared.access.Refusal.TheVariants as refusal
use Rattle.machine.specs.declared.access.StepOut.{StepOut}
use Rattle.machine.specs.declared.access.StepOut.TheVariants.{Done, Need}
use Rattle.machine.specs.Step.{Machine}

-- the page that an answer asks for
abbrev pub need_of : StepOut → Option (ℕ × Why)
need_of Done = None
need_of (Need page why) = Some (page, why)

-- the page that an access needs, or none where the bus refuses it
abbrev pub refused_need : Refusal → Option (ℕ × Why)
refused_need (refusal.Need page why) = Some (page, why)
refused_need refusal.Bus = None

-- an answer, by the machine after the step. Done: the machine is that one. Need: it is as before.
abbrev pub Answers : Machine → StepOut → Machine → Machine → Type 0
Answers after Done before now = now ≡ after
Answers after (Need page why) before now = now ≡ before

-- the page that was given, by the answer: a step that is not made gives nothing
abbrev pub given_by : StepOut → Option ℕ → Option ℕ
given_by Done page = page
given_by (Need needed why) page = None

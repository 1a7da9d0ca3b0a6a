-- The public function's promise holds its answer fast. Assumes nothing.
use mathlib.Core.Path.{refl}
use Rattle.reasoning.proofs.HeldFast.{Held, by_facts}
use Rattle.law.specs.Document.{LocalValues}
use Rattle.units.proofs.HeldFast.{one_answer}
use Rattle.local.specs.declared.Moment.{Moment}
use Rattle.local.specs.contracts.local_time as local-time

abbrev values : Moment → LocalValues
values m = record { day_there = m.day; minute_there = m.minute }

abbrev moment : LocalValues → Moment
moment v = record { day = v.day_there; minute = v.minute_there }

pub local_time_held : Held local-time.ended (λ M 𝓤. local-time.clauses {M = M} {𝓤 = 𝓤})
local_time_held M 𝓤 𝓛 mem run κs a = by_facts 𝓤 (λ z z' w w' p q. (one_answer values moment (λ m. refl) p q, refl))

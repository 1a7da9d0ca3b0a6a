-- Each public function's promise holds its answer fast. Assumes nothing.
use mathlib.Core.Path.{refl, ap}
use Rattle.reasoning.proofs.HeldFast.{Held, by_facts, one}
use Rattle.tables.specs.contracts.sine_entry as sine-entry
use Rattle.tables.specs.contracts.tangent_entry as tangent-entry
use Rattle.tables.specs.contracts.two_sine_entries as two-sine-entries
use Rattle.tables.specs.contracts.rebuild_sines as rebuild-sines
use Rattle.tables.specs.contracts.sine_table as sine-table
use Rattle.tables.specs.contracts.tangent_table as tangent-table

pub sine_entry_held : Held sine-entry.ended (λ M 𝓤. sine-entry.clauses {M = M} {𝓤 = 𝓤})
sine_entry_held M 𝓤 𝓛 mem run κs a = by_facts 𝓤 (λ z z' w w' p q. (one p q, refl))

pub tangent_entry_held : Held tangent-entry.ended (λ M 𝓤. tangent-entry.clauses {M = M} {𝓤 = 𝓤})
tangent_entry_held M 𝓤 𝓛 mem run κs a = by_facts 𝓤 (λ z z' w w' p q. (one p q, refl))

pub two_sine_entries_held : Held two-sine-entries.ended (λ M 𝓤. two-sine-entries.clauses {M = M} {𝓤 = 𝓤})
two_sine_entries_held M 𝓤 𝓛 mem run κs a = by_facts 𝓤 (λ z z' w w' p q. (one p q, refl))

pub rebuild_sines_held : Held rebuild-sines.ended (λ M 𝓤. rebuild-sines.clauses {M = M} {𝓤 = 𝓤})
rebuild_sines_held M 𝓤 𝓛 mem run κs a = by_facts 𝓤 (λ z z' w w' p q. (refl, ap (λ table. (table, tt)) (one p q)))

pub sine_table_held : Held sine-table.ended (λ M 𝓤. sine-table.clauses {M = M} {𝓤 = 𝓤})
sine_table_held M 𝓤 𝓛 mem run κs a = by_facts 𝓤 (λ z z' w w' p q. (one p q, refl))

pub tangent_table_held : Held tangent-table.ended (λ M 𝓤. tangent-table.clauses {M = M} {𝓤 = 𝓤})
tangent_table_held M 𝓤 𝓛 mem run κs a = by_facts 𝓤 (λ z z' w w' p q. (one p q, refl))

-- The route of the sample ticket: its first leg has one chain that costs least, and its second has none.
use Rattle.std.proofs.Common.{[], ◌∷◌, pos, refl, arith}
use Rattle.costs.specs.Delay.{delay}
use Rattle.costs.specs.Kinds.{delays}
use Rattle.registers.specs.Meaning.{standing}
use Rattle.walks.specs.Walk.{Gains}
use Rattle.worked.specs.Routes.{AlwaysGranted, by_chains, chainless}
use Rattle.worked.proofs.CaseProofs.{table_passes, heights, rising, no_gain}
use Rattle.worked.proofs.LegProofs.{CardSet, held, delay_test, always_granted, least_chains, no_chain}
use Rattle.worked.proofs.SampleLines.{sample_said}

abbrev sample_set : CardSet delay
sample_set = held sample_said.plain.register (omega arith, omega arith)

calm : Gains delay sample_set.card → ⊥
calm = no_gain sample_set.card (heights (pos 0 ∷ pos 6 ∷ pos 12 ∷ [])) (table_passes (rising (heights (pos 0 ∷ pos 6 ∷ pos 12 ∷ []))) sample_said.plain.register refl)

pub sample_granted : AlwaysGranted delays (standing sample_said.plain.register) (by_chains 0 1 (pos 6) ((0 ∷ 2 ∷ 1 ∷ []) ∷ []) ∷ chainless delay 1 0 ∷ [])
sample_granted = always_granted delay_test sample_set calm (least_chains delay_test sample_set 0 1 (pos 6) (2 ∷ []) [] (refl, (refl, tt)) (refl, tt) refl ∷ no_chain sample_set 1 0 refl ∷ [])

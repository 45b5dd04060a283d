-- The worked routes hold: each case has its cards, why a closed walk gains or none does, and the legs, whose chains are tested by `refl`.
use Rattle.std.proofs.Common.{[], ◌∷◌, pos, negsuc, refl, arith}
use Rattle.costs.specs.Delay.{delay}
use Rattle.costs.specs.Depth.{depth, bits}
use Rattle.costs.specs.Pair.{pair}
use Rattle.costs.specs.DepthLaws.{same_bits}
use Rattle.costs.specs.Kinds.{delays}
use Rattle.registers.specs.Meaning.{meant}
use Rattle.registers.specs.House.{house}
use Rattle.registers.specs.Bar.{barred}
use Rattle.registers.specs.Reversed.{reversed}
use Rattle.bay.specs.Plain.{from_to}
use Rattle.worked.specs.Walks.{cards_of, gaining_ring, even_ring, free_pair, gain_elsewhere, deeper_way, equal_delays, sooner_way, free_deep_pair}
use Rattle.worked.specs.Routes.{RouteCases}
use Rattle.worked.proofs.CaseProofs.{worked_cases, barred_is_even, reversed_is_even, depth_is_even, equal_is_even, sooner_is_even, free_deep_is_even}
use Rattle.worked.proofs.LegProofs.{CardSet, listed, held, delay_test, depth_test, both_test, same_parts, always_refused, always_granted, least_chains, no_chain, stays}

abbrev gaining_set : CardSet delay
gaining_set = listed 3 (omega arith, omega arith) gaining_ring refl

abbrev even_set : CardSet delay
even_set = listed 3 (omega arith, omega arith) even_ring refl

abbrev pub pair_set : CardSet delay
pair_set = listed 3 (omega arith, omega arith) free_pair refl

abbrev pub elsewhere_set : CardSet delay
elsewhere_set = listed 4 (omega arith, omega arith) gain_elsewhere refl

abbrev pub deeper_set : CardSet depth
deeper_set = listed 3 (omega arith, omega arith) deeper_way refl

abbrev pub open_set : CardSet delay
open_set = held (meant delays house) (omega arith, omega arith)

abbrev pub barred_set : CardSet delay
barred_set = held (meant delays (barred 1 house)) (omega arith, omega arith)

abbrev reversed_set : CardSet delay
reversed_set = held (meant delays (reversed house)) (omega arith, omega arith)

abbrev equal_set : CardSet (pair delay depth)
equal_set = listed 4 (omega arith, omega arith) equal_delays refl

abbrev sooner_set : CardSet (pair delay depth)
sooner_set = listed 4 (omega arith, omega arith) sooner_way refl

abbrev free_deep_set : CardSet (pair delay depth)
free_deep_set = listed 3 (omega arith, omega arith) free_deep_pair refl

pub worked_routes : RouteCases
worked_routes = record {
  gaining_ring_refused = always_refused delays gaining_set worked_cases.ring_gains (from_to 0 1 ∷ []);
  even_ring_granted = always_granted delay_test even_set worked_cases.ring_is_even (least_chains delay_test even_set 0 1 (pos 2) [] [] (refl, tt) (refl, tt) refl ∷ []);
  free_pair_granted = always_granted delay_test pair_set worked_cases.pair_is_even (
      least_chains delay_test pair_set 0 2 (pos 5) [] [] (refl, tt) (refl, tt) refl ∷
      least_chains delay_test pair_set 1 2 (pos 5) (0 ∷ []) [] (refl, (refl, tt)) (refl, tt) refl ∷ []);
  gain_elsewhere_refused = always_refused delays elsewhere_set worked_cases.elsewhere_gains (from_to 0 1 ∷ []);
  open_house_granted = always_granted delay_test open_set worked_cases.house_is_even (
      least_chains delay_test open_set 4 2 (negsuc 1) (3 ∷ 0 ∷ []) [] (refl, (refl, (refl, tt))) (refl, tt) refl ∷
      least_chains delay_test open_set 4 6 (pos 4) (3 ∷ 0 ∷ []) ((4 ∷ 3 ∷ 5 ∷ 1 ∷ 6 ∷ []) ∷ []) (refl, (refl, (refl, tt))) (refl, (refl, tt)) refl ∷ []);
  barred_house_granted = always_granted delay_test barred_set barred_is_even (
      no_chain barred_set 4 2 refl ∷
      least_chains delay_test barred_set 4 6 (pos 4) (3 ∷ 5 ∷ 1 ∷ []) [] (refl, (refl, (refl, (refl, tt)))) (refl, tt) refl ∷ []);
  reversed_house_granted = always_granted delay_test reversed_set reversed_is_even (
      least_chains delay_test reversed_set 2 4 (negsuc 1) (0 ∷ 3 ∷ []) [] (refl, (refl, (refl, tt))) (refl, tt) refl ∷ []);
  same_ends_granted = always_granted delay_test pair_set worked_cases.pair_is_even (
      stays delay_test pair_set 0 (pos 0) refl refl ∷
      least_chains delay_test pair_set 1 0 (pos 0) [] [] (refl, tt) (refl, tt) refl ∷
      stays delay_test pair_set 2 (pos 0) refl refl ∷ []);
  same_ends_deep_granted = always_granted depth_test deeper_set (depth_is_even (cards_of deeper_way)) (
      stays depth_test deeper_set 2 (bits 255) (same_bits _ _ refl) refl ∷
      least_chains depth_test deeper_set 0 2 (bits 8) (1 ∷ []) [] (refl, (refl, tt)) (same_bits _ _ refl, tt) refl ∷ []);
  same_ends_refused = always_refused delays elsewhere_set worked_cases.elsewhere_gains (from_to 0 0 ∷ []);
  deeper_way_granted = always_granted depth_test deeper_set (depth_is_even (cards_of deeper_way)) (
      least_chains depth_test deeper_set 0 2 (bits 8) (1 ∷ []) [] (refl, (refl, tt)) (same_bits _ _ refl, tt) refl ∷ []);
  equal_delays_granted = always_granted both_test equal_set equal_is_even (
      least_chains both_test equal_set 0 3 (pos 6, bits 10) (2 ∷ []) [] (refl, (refl, tt)) (same_parts _ _ refl refl, tt) refl ∷
      stays both_test equal_set 1 (pos 0, bits 255) (same_parts _ _ refl refl) refl ∷ []);
  sooner_way_granted = always_granted both_test sooner_set sooner_is_even (
      least_chains both_test sooner_set 0 3 (pos 4, bits 1) [] [] (refl, tt) (same_parts _ _ refl refl, tt) refl ∷ []);
  free_deep_pair_granted = always_granted both_test free_deep_set free_deep_is_even (
      least_chains both_test free_deep_set 0 2 (pos 5, bits 10) (1 ∷ []) [] (refl, (refl, tt)) (same_parts _ _ refl refl, tt) refl ∷
      least_chains both_test free_deep_set 1 2 (pos 5, bits 10) [] [] (refl, tt) (same_parts _ _ refl refl, tt) refl ∷ []);
}

-- Worked cases: what walks, their least costs and their gains are on a few small sets of cards and on the house table. Delays are
-- in half lines.
-- A function of the crate has all of them as its contract.
use Rattle.std.specs.Prelude.{◌≡◌, ℕ, cond, ◌&&◌, List, [], ◌∷◌, ℤ, pos, neg_ℤ, Some, None, Option, ◌==◌}
use Rattle.costs.specs.Algebra.{Algebra}
use Rattle.costs.specs.Delay.{delay}
use Rattle.costs.specs.Kinds.{delays}
use Rattle.costs.specs.Depth.{depth, Bits, bits}
use Rattle.costs.specs.declared.delay.Delay.{Delay}
use Rattle.registers.specs.Meaning.{Meaning, meant, standing}
use Rattle.registers.specs.House.{house}
use Rattle.registers.specs.Bar.{barred}
use Rattle.registers.specs.Reversed.{reversed}
use Rattle.walks.specs.Walk.{cost, Chain, Least, Gains}

-- the cards of a list, each by the format that it leads from, the format that it leads to, and its cost
abbrev pub cards_of : {V : Type 0} → List (ℕ × ℕ × V) → ℕ → ℕ → Option V
cards_of [] a b = None
cards_of (l ∷ ls) a b = cond (a == l.0 && b == l.1) (Some l.2) (cards_of ls a b)

-- the standing cards of a register of kind delay
abbrev pub delays_of : Meaning Delay → ℕ → ℕ → Option ℤ
delays_of m = standing (meant delays m)

-- a chain that costs x
abbrev pub ChainCosts : (A : Algebra) → (ℕ → ℕ → Option A.Value) → List ℕ → A.Value → Type 0
ChainCosts A card fs x = Chain A card fs × (cost A card fs ≡ x)

-- so many half lines given back
abbrev pub back : ℕ → ℤ
back n = neg_ℤ (pos n)

-- round three formats, with a gain of half a line
abbrev pub gaining_ring : List (ℕ × ℕ × ℤ)
gaining_ring = (0, 1, pos 2) ∷ (1, 2, back 4) ∷ (2, 0, pos 1) ∷ []

-- round three formats, with no gain
abbrev pub even_ring : List (ℕ × ℕ × ℤ)
even_ring = (0, 1, pos 2) ∷ (1, 2, back 4) ∷ (2, 0, pos 2) ∷ []

-- there and back at no cost, and on to a third format
abbrev pub free_pair : List (ℕ × ℕ × ℤ)
free_pair = (0, 1, pos 0) ∷ (1, 0, pos 0) ∷ (0, 2, pos 5) ∷ []

-- there and back with a gain of half a line, at formats that a leg from 0 to 1 never meets
abbrev pub gain_elsewhere : List (ℕ × ℕ × ℤ)
gain_elsewhere = (2, 3, back 1) ∷ (3, 2, pos 0) ∷ []

-- the house table as it is, with the format 0 barred, and with every card turned round
abbrev pub open_house : ℕ → ℕ → Option ℤ
open_house = delays_of house

abbrev pub barred_house : ℕ → ℕ → Option ℤ
barred_house = delays_of (barred 1 house)

abbrev pub reversed_house : ℕ → ℕ → Option ℤ
reversed_house = delays_of (reversed house)

-- a shallow card, and a deeper way round it
abbrev pub deeper_way : List (ℕ × ℕ × Bits)
deeper_way = (0, 1, bits 10) ∷ (1, 2, bits 8) ∷ (0, 2, bits 6) ∷ []

-- delays and depths: two ways of three lines from 0 to 3, one of which keeps 8 bits and the other 10
abbrev pub equal_delays : List (ℕ × ℕ × (ℤ × Bits))
equal_delays = (0, 1, (pos 2, bits 8)) ∷ (1, 3, (pos 4, bits 16)) ∷ (0, 2, (pos 4, bits 10)) ∷ (2, 3, (pos 2, bits 12)) ∷ []

-- and a card of two lines that keeps one bit
abbrev pub sooner_way : List (ℕ × ℕ × (ℤ × Bits))
sooner_way = (0, 3, (pos 4, bits 1)) ∷ equal_delays

-- there and back at no delay, and on to a third format with equal delays but from 1 with more bits
abbrev pub free_deep_pair : List (ℕ × ℕ × (ℤ × Bits))
free_deep_pair = (0, 1, (pos 0, bits 12)) ∷ (1, 0, (pos 0, bits 12)) ∷ (0, 2, (pos 5, bits 8)) ∷ (1, 2, (pos 5, bits 10)) ∷ []

pub record WorkedCases : Type 0 where
  -- 2, −4 and 1 round a ring: a closed walk undercuts the unit
  pub ring_gains : Gains delay (cards_of gaining_ring)
  -- 2, −4 and 2 round a ring: none does
  pub ring_is_even : Gains delay (cards_of even_ring) → ⊥
  -- there and back at no cost: a closed walk of cost 0 undercuts nothing
  pub pair_is_even : Gains delay (cards_of free_pair) → ⊥
  -- the least cost from 0 on is that of the one card
  pub pair_from_0 : Least delay (cards_of free_pair) 0 2 (Some (pos 5))
  -- and from 1 on, by way of 0, the same
  pub pair_from_1 : Least delay (cards_of free_pair) 1 2 (Some (pos 5))
  -- a closed walk that undercuts the unit counts wherever it lies
  pub elsewhere_gains : Gains delay (cards_of gain_elsewhere)
  -- the house table has no closed walk that undercuts the unit
  pub house_is_even : Gains delay open_house → ⊥
  -- from 4 to 2 at best one line is given back
  pub house_4_2 : Least delay open_house 4 2 (Some (back 2))
  -- as the chain by way of 3 and 0 does
  pub house_chain_4_2 : ChainCosts delay open_house (4 ∷ 3 ∷ 0 ∷ 2 ∷ []) (back 2)
  -- from 4 to 6 the least cost is two lines
  pub house_4_6 : Least delay open_house 4 6 (Some (pos 4))
  -- one chain of that cost goes by way of 0
  pub house_chain_4_6 : ChainCosts delay open_house (4 ∷ 3 ∷ 0 ∷ 6 ∷ []) (pos 4)
  -- and another, longer one does not
  pub house_other_4_6 : ChainCosts delay open_house (4 ∷ 3 ∷ 5 ∷ 1 ∷ 6 ∷ []) (pos 4)
  -- with every card turned round, from 2 to 4 at best one line is given back
  pub reversed_2_4 : Least delay reversed_house 2 4 (Some (back 2))
  -- by the chain from 4 to 2, backwards
  pub reversed_chain_2_4 : ChainCosts delay reversed_house (2 ∷ 0 ∷ 3 ∷ 4 ∷ []) (back 2)
  -- with 0 barred no walk leads from 4 to 2
  pub barred_4_2 : Least delay barred_house 4 2 None
  -- with 0 barred the least cost from 4 to 6 is still two lines
  pub barred_4_6 : Least delay barred_house 4 6 (Some (pos 4))
  -- by the chain that does not pass 0
  pub barred_chain_4_6 : ChainCosts delay barred_house (4 ∷ 3 ∷ 5 ∷ 1 ∷ 6 ∷ []) (pos 4)
  -- from a format to itself the format alone costs the unit, which is the least cost where no closed walk undercuts it
  pub pair_chain_0_0 : ChainCosts delay (cards_of free_pair) (0 ∷ []) (pos 0)
  pub pair_0_0 : Least delay (cards_of free_pair) 0 0 (Some (pos 0))
  -- and is not where one does
  pub ring_0_0 : Least delay (cards_of gaining_ring) 0 0 (Some (pos 0)) → ⊥
  -- of depths the unit is all the bits
  pub depth_chain_2_2 : ChainCosts depth (cards_of deeper_way) (2 ∷ []) (bits 255)
  pub depth_2_2 : Least depth (cards_of deeper_way) 2 2 (Some (bits 255))
  -- of depths the most bits are the best: 8 by way of 1, not the 6 of the card from 0 to 2
  pub depth_0_2 : Least depth (cards_of deeper_way) 0 2 (Some (bits 8))

-- What a route writes for its legs, slot by slot: slot k has leg k with its note, row k of the chain sheet and entry k of the cost
-- sheet.
use Rattle.std.specs.Prelude.{◌≡◌, ℕ, ◌*◌, ◌<◌, ◌≤◌, ◌⊎◌, List, [], map, length, get_or, Option, ◌≢◌, slice_index_or}
use Rattle.costs.specs.declared.Cost.{Ghosts as Kind}
use Rattle.bay.specs.Sheet.{row_at, row_of}
use Rattle.bay.specs.Tracing.{Follows}
use Rattle.bay.specs.Leg.{no_leg}
use Rattle.bay.specs.Plain.{ends}
use Rattle.bay.specs.Sheet.{row_bytes}
use Rattle.bay.specs.Routes.{HasLeastChain, HasNoChain, note_of}
use Rattle.bay.specs.Buffers.{Beyond}
use Rattle.bay.specs.declared.legs.Leg.{Leg}
use Rattle.bay.specs.declared.legs.Note.TheVariants.{NoChain}

-- the legs and the two sheets
pub record Slots (C : Type 0) : Type 0 where
  pub legs : List Leg
  pub costs : List C
  pub chains : List ℕ

abbrev pub slots : {C : Type 0} → List Leg → List C → List ℕ → Slots C
slots legs costs chains = record { legs = legs; costs = costs; chains = chains }

-- `cost` is the entry, or what it is given where there is no entry
pub record LegSlot (C : Type 0) : Type 0 where
  pub leg : Leg
  pub row : List ℕ
  pub cost : C → C

abbrev pub leg_slot : {C : Type 0} → Slots C → ℕ → LegSlot C
leg_slot p k = record { leg = slice_index_or p.legs k no_leg; row = row_at p.chains k; cost = λ d. slice_index_or p.costs k d }

-- there is an entry and a row for each leg
pub record SlotsFit {C : Type 0} (p : Slots C) : Type 0 where
  pub entries : length p.legs ≤ length p.costs
  pub rows : row_bytes * length p.legs ≤ length p.chains

-- only notes, and what the sheets have for a leg, may differ
pub record Written {C : Type 0} (before after : Slots C) : Type 0 where
  pub ends_are : map ends after.legs ≡ map ends before.legs
  pub costs : Beyond (length before.legs) before.costs after.costs
  pub chains : Beyond (row_bytes * length before.legs) before.chains after.chains

-- leg k ends in the goal
abbrev pub EndsIn : {C : Type 0} → Slots C → ℕ → ℕ → Type 0
EndsIn p k goal = (get_or p.legs k no_leg).to ≡ goal

-- places of legs to other goals are as they were
abbrev pub Spares : {C : Type 0} → ℕ → Slots C → Slots C → Type 0
Spares goal before after = (k : ℕ) → (EndsIn before k goal → ⊥) → leg_slot after k ≡ leg_slot before k

module _ {C : Type 0} (K : Kind C) where
  -- no chain is written
  pub record Blank (q : LegSlot C) : Type 0 where
    pub note_is : q.leg.note ≡ NoChain
    pub row_is : q.row ≡ row_of []
    pub costs : (d : C) → K.value (q.cost d) ≡ K.algebra.unit

  -- the leg has what a route is to find, and its chain is the one that `next` leads along
  abbrev pub SlotAnswers : (ℕ → ℕ → Option K.algebra.Value) → List ℕ → LegSlot C → C → Type 0
  SlotAnswers card next q d =
      HasNoChain K.algebra card (ends q.leg) q.row (K.value (q.cost d)) ⊎
      ((r : HasLeastChain K.algebra card (ends q.leg) q.row (K.value (q.cost d))) × Follows next q.leg.to q.leg.from r.formats)

  pub record SlotDone (card : ℕ → ℕ → Option K.algebra.Value) (next : List ℕ) (q : LegSlot C) : Type 0 where
    pub note_is : q.leg.note ≡ note_of q.row
    pub found : (d : C) → SlotAnswers card next q d

  -- leg k is done, and all other places are as they were
  pub record LegDone (card : ℕ → ℕ → Option K.algebra.Value) (next : List ℕ) (k : ℕ) (before after : Slots C) : Type 0 where
    pub written : Written before after
    pub others : (j : ℕ) → (j ≢ k) → leg_slot after j ≡ leg_slot before j
    pub done : SlotDone card next (leg_slot after k)

  -- no leg to the goal has a chain yet
  abbrev pub Awaits : ℕ → Slots C → Type 0
  Awaits goal p = (k : ℕ) → k < length p.legs → EndsIn p k goal → Blank (leg_slot p k)

  -- every leg to the goal is done
  abbrev pub GoalServed : (ℕ → ℕ → Option K.algebra.Value) → List ℕ → ℕ → Slots C → Type 0
  GoalServed card next goal p = (k : ℕ) → k < length p.legs → EndsIn p k goal → SlotDone card next (leg_slot p k)

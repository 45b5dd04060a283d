-- What a route finds, in words about walks over the standing cards: a loop that undercuts the unit, or for each leg a chain
-- of least cost. `row k` is row k of the chain sheet, `paid k` what entry k of the cost sheet means.
use Rattle.std.specs.Prelude.{◌≡◌, ℕ, ◌<◌, cond, ◌⊎◌, List, [], ◌∷◌, ◌++◌, length, get_or, Option, ◌==◌, slice_index, slice_index_or}
use Rattle.costs.specs.Algebra.{Algebra}
use Rattle.bay.specs.Sheet.{row_of}
use Rattle.walks.specs.Walk.{path, FromTo, Walk, cost, Chain, Loop}
use Rattle.bay.specs.declared.legs.Ends.{Ends}
use Rattle.bay.specs.declared.legs.Note.{Note}
use Rattle.bay.specs.declared.legs.Note.TheVariants.{NoChain, Chain as ChainOf}

-- what is read where no leg is booked
abbrev pub no_ends : Ends
no_ends = record { from = 0; to = 0 }

-- from where the two lists meet, they name the same formats
abbrev pub Agree : List ℕ → List ℕ → Type 0
Agree fs gs = (m : ℕ) (ps bs cs ds : List ℕ) → fs ≡ ps ++ m ∷ bs → gs ≡ cs ++ m ∷ ds → bs ≡ ds

-- the note that goes with a row: its number of formats, where there is a chain
abbrev pub note_of : List ℕ → Note
note_of row = cond (slice_index row 0 == 0) NoChain (ChainOf (slice_index row 0))

module _ (A : Algebra) (card : ℕ → ℕ → Option A.Value) where
  -- no chain and the unit, where no walk leads from the leg's first format to its second
  pub record HasNoChain (leg : Ends) (row : List ℕ) (paid : A.Value) : Type 0 where
    pub row_is : row ≡ row_of []
    pub costs : paid ≡ A.unit
    pub no_walk : (fs : List ℕ) → FromTo leg.from leg.to fs → Walk A card fs → ⊥

  -- a chain from the leg's first format to its second, its cost, and no walk between them that undercuts it
  pub record HasLeastChain (leg : Ends) (row : List ℕ) (paid : A.Value) : Type 0 where
    pub formats : List ℕ
    pub row_is : row ≡ row_of formats
    pub from_to : FromTo leg.from leg.to formats
    pub chain : Chain A card formats
    pub costs : paid ≡ cost A card formats
    pub least : (fs : List ℕ) → FromTo leg.from leg.to fs → Walk A card fs → A.Under (cost A card fs) paid → ⊥

  -- the rows and costs of all legs; two chains that end in the same format agree from where they meet
  pub record LeastChains (legs : List Ends) (row : ℕ → List ℕ) (paid : ℕ → A.Value) : Type 0 where
    pub each : (k : ℕ) → k < length legs → HasNoChain (slice_index_or legs k no_ends) (row k) (paid k) ⊎ HasLeastChain (slice_index_or legs k no_ends) (row k) (paid k)
    pub agree : (j k : ℕ) → j < length legs → k < length legs → (get_or legs j no_ends).to ≡ (get_or legs k no_ends).to →
        (fs gs : List ℕ) → row j ≡ row_of fs → row k ≡ row_of gs → Agree fs gs

  -- the row holds a loop that undercuts the unit
  pub record LoopIn (row : List ℕ) : Type 0 where
    pub start : ℕ
    pub inner : List ℕ
    pub row_is : row ≡ row_of (path start inner start)
    pub loop : Loop A card start inner
    pub gains : A.Under (cost A card (path start inner start)) A.unit

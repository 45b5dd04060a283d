-- The list: entries, each of which may hold the card of a pair. Those that hold one come first, in the order of their pairs. The first
-- entry for a pair counts.
use Rattle.std.specs.Prelude.{◌≡◌, ℕ, ◌-◌, ◌*◌, ◌<◌, ◌≤◌, Bool, true, false, cond, not, ◌&&◌, ◌||◌, List, [], ◌∷◌, ◌++◌, length, take, replicate, is_some, Some, None, Option, ◌==◌, nat_le, nat_lt, slice_index_or, slice_set}
use Rattle.std.specs.List.{insert, remove, position_or_len}
use Rattle.registers.specs.declared.fault.Code.{Code}
use Rattle.lent.specs.declared.list.Entry.{Entry}
use Rattle.registers.specs.Meaning.{Meaning, most_formats, possible}
use Rattle.lent.specs.Lent.{size_fits, nearest_size, memory_causes, how_many}

-- as many entries as a register of the most formats has pairs
abbrev pub most_entries : ℕ
most_entries = most_formats * (most_formats - 1)

-- so many entries will do: some, and not more than can ever be used
abbrev pub entries_fit : ℕ → Bool
entries_fit entries = nat_le 1 entries && nat_le entries most_entries

-- n formats with so many entries will do
abbrev pub list_fits : ℕ → ℕ → Bool
list_fits n entries = size_fits n && entries_fit entries

-- why the check before the making refuses
abbrev pub list_causes : ℕ → ℕ → List (Bool × Code)
list_causes n entries = memory_causes n (entries_fit entries)

-- the first of two that is there
abbrev pub or_else : {X : Type 0} → Option X → Option X → Option X
or_else (Some x) o = Some x
or_else None o = o

module _ {C : Type 0} (admissible : C → Bool) (n : ℕ) where
  -- an entry that can hold a card: one of two different formats, with a cost that a card may have; any other reads as empty
  abbrev pub live : Option (Entry C) → Option (Entry C)
  live None = None
  live (Some e) = cond (possible n e.from e.to && admissible e.cost) (Some e) None

  -- the cost that an entry has for a pair
  abbrev pub cost_of : Option (Entry C) → ℕ → ℕ → Option C
  cost_of None a b = None
  cost_of (Some e) a b = cond (e.from == a && e.to == b) (Some e.cost) None

  abbrev pub cost_for : Option (Entry C) → ℕ → ℕ → Option C
  cost_for e a b = cost_of (live e) a b

  -- the card of a pair: the cost of the first entry that has one for it
  abbrev pub first_cost : List (Option (Entry C)) → ℕ → ℕ → Option C
  first_cost [] a b = None
  first_cost (e ∷ es) a b = or_else (cost_for e a b) (first_cost es a b)

  -- the cards of a list; it has none where it will not do
  abbrev pub list_card : List (Option (Entry C)) → ℕ → ℕ → Option C
  list_card es a b = cond (list_fits n (length es)) (first_cost es a b) None

  -- what a list holds: a card takes one entry, and all the others are free
  abbrev pub listed : List (Option (Entry C)) → Meaning C
  listed es = record {
    size = nearest_size n;
    cards = list_card es;
    sealed = λ a b. not (list_fits n (length es));
    free = cond (list_fits n (length es)) (length es - how_many n (list_card es)) 0;
  }

-- the memory once a list is made in it: every entry is cleared, and where it will not do none is touched
abbrev pub list_cleared : {C : Type 0} → ℕ → List (Option (Entry C)) → List (Option (Entry C))
list_cleared n es = cond (list_fits n (length es)) (replicate (length es) None) es

-- the order of pairs: by the first format, and then by the second
abbrev pub lower_pair : ℕ → ℕ → ℕ → ℕ → Bool
lower_pair a b c d = nat_lt a c || ((a == c) && nat_lt b d)

module _ {C : Type 0} where
  -- the entry is for a lower pair than a and b; one that is empty is not
  abbrev pub is_lower : Option (Entry C) → ℕ → ℕ → Bool
  is_lower None a b = false
  is_lower (Some e) a b = lower_pair e.from e.to a b

  -- the entry is for the pair
  abbrev pub is_for : Option (Entry C) → ℕ → ℕ → Bool
  is_for None a b = false
  is_for (Some e) a b = (e.from == a) && (e.to == b)

  -- one entry is for a lower pair than another
  abbrev pub lower : Option (Entry C) → Option (Entry C) → Bool
  lower x None = false
  lower x (Some e) = is_lower x e.from e.to

  -- the first entries rise by their pairs
  abbrev pub Rising : ℕ → List (Option (Entry C)) → Type 0
  Rising count es = (i j : ℕ) → i < j → j < count → lower (slice_index_or es i None) (slice_index_or es j None) ≡ true

  -- those behind them are empty
  abbrev pub EmptyFrom : ℕ → List (Option (Entry C)) → Type 0
  EmptyFrom count es = (i : ℕ) → count ≤ i → is_some (slice_index_or es i None) ≡ false

  -- where the entry of a pair lies, or would: behind those of lower pairs
  abbrev pub place_of : List (Option (Entry C)) → ℕ → ℕ → ℕ
  place_of es a b = position_or_len (λ e. not (is_lower e a b)) es

  -- one entry more at a place: those from there on move up by one, and the last falls away
  abbrev pub shifted_up : List (Option (Entry C)) → ℕ → Option (Entry C) → List (Option (Entry C))
  shifted_up es i e = take (length es) (insert es i e)

  -- one entry less: those behind it move down by one, and the last is empty
  abbrev pub shifted_down : List (Option (Entry C)) → ℕ → List (Option (Entry C))
  shifted_down es i = remove es i ++ None ∷ []

  -- the memory without a pair's entry
  abbrev pub without : ℕ → ℕ → List (Option (Entry C)) → List (Option (Entry C))
  without a b es = shifted_down es (place_of es a b)

module _ {C : Type 0} (admissible : C → Bool) (n : ℕ) where
  -- the first entries hold cards
  abbrev pub FirstLive : ℕ → List (Option (Entry C)) → Type 0
  FirstLive count es = (i : ℕ) → i < count → is_some (live admissible n (slice_index_or es i None)) ≡ true

  -- the first entries hold cards and rise by their pairs, and those behind them are empty
  pub record InOrder (count : ℕ) (es : List (Option (Entry C))) : Type 0 where
    pub few : count ≤ length es
    pub live : FirstLive count es
    pub rise : Rising count es
    pub clear : EmptyFrom count es

  -- the memory with an entry for a pair: in the place of the one that it has, or else put in between
  abbrev pub with_entry : ℕ → ℕ → C → List (Option (Entry C)) → List (Option (Entry C))
  with_entry a b x es =
      let e : Option (Entry C) = Some (record { from = a; to = b; cost = x }) in
      let i = place_of es a b in
      cond (is_some (first_cost admissible n es a b)) (slice_set es i e) (shifted_up es i e)

  -- what a search for a pair finds among the first entries
  module _ (count : ℕ) (es : List (Option (Entry C))) (a b : ℕ) where
    -- its entry at i
    abbrev pub FoundAt : ℕ → Type 0
    FoundAt i = (i < count) × (i ≡ place_of es a b) × (is_some (cost_for admissible n (slice_index_or es i None) a b) ≡ true)

    -- no entry: its place would be i
    abbrev pub NoneAt : ℕ → Type 0
    NoneAt i = (i ≤ count) × (i ≡ place_of es a b) × (first_cost admissible n es a b ≡ None)

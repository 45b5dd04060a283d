-- The text of a ticket's answer, byte by byte.
use Rattle.std.specs.Prelude.{ℕ, zero, suc, min, cond, List, [], ◌∷◌, ◌++◌, map, take, drop, pos, Ok, Err, codes, decimal, Result, ◌==◌, slice_index, slice_index_or}
use Rattle.std.specs.List.{flat_map}
use Rattle.registers.specs.Text.{layer_text}
use Rattle.registers.specs.declared.fault.Code.{Code}
use Rattle.lines.specs.Grammar.{amount_text}
use Rattle.lines.specs.declared.line.Amount.{Amount}
use Rattle.lines.specs.declared.line.Amount.TheVariants.{HalfLines}
use Rattle.bay.specs.Sheet.{row_at}
use Rattle.bay.specs.Limits.{most_legs}
use Rattle.bay.specs.Routes.{no_ends}
use Rattle.bay.specs.declared.legs.Ends.{Ends}
use Rattle.ticket.specs.Answers.{Contents}
use Rattle.ticket.specs.Faults.{ticket_code}
use Rattle.ticket.specs.declared.fault.Refusal.{Refusal}

-- texts one after the other
abbrev pub pieces : List (List ℕ) → List ℕ
pieces [] = []
pieces (text ∷ texts) = text ++ pieces texts

-- the formats of row k, as many as its number says
abbrev pub formats_of : List ℕ → ℕ → List ℕ
formats_of chains k = take (slice_index (row_at chains k) 0) (drop 1 (row_at chains k))

-- what is told where no cost is held
abbrev pub no_amount : Amount
no_amount = HalfLines (pos 0)

module _ (fourccs : List (List ℕ)) where
  -- the code of a format
  abbrev pub fourcc_text : ℕ → List ℕ
  fourcc_text f = slice_index_or fourccs f []

  -- the codes of some formats, with a space between them
  abbrev pub fourccs_text : List ℕ → List ℕ
  fourccs_text [] = []
  fourccs_text (f ∷ fs) = fourcc_text f ++ flat_map (λ g. codes " " ++ fourcc_text g) fs

  -- what was found for a leg: the cost and the codes of its chain, or none
  abbrev pub found_text : Amount → List ℕ → List ℕ
  found_text cost [] = codes "none"
  found_text cost (f ∷ fs) = pieces (amount_text cost ∷ codes " (" ∷ fourccs_text (f ∷ fs) ∷ codes ")" ∷ [])

  -- the line of leg k
  abbrev pub leg_text : ℕ → Ends → Amount → List ℕ → List ℕ
  leg_text k ends cost formats =
      pieces (codes "(leg " ∷ decimal k ∷ codes " (" ∷ decimal ends.from ∷ codes " " ∷ decimal ends.to ∷ codes ") " ∷ found_text cost formats ∷ codes ")" ∷ (10 ∷ []) ∷ [])

  module _ (ends : List Ends) (amounts : List Amount) (chains : List ℕ) where
    -- the lines of the first n legs
    abbrev pub legs_text : ℕ → List ℕ
    legs_text zero = []
    legs_text (suc k) = legs_text k ++ leg_text k (slice_index_or ends k no_ends) (slice_index_or amounts k no_amount) (formats_of chains k)

    -- the answer of a granted ticket: a line for each leg, and an end line
    abbrev pub listing_text : ℕ → List ℕ
    listing_text n = pieces (legs_text (min n most_legs) ∷ codes "(end)" ∷ (10 ∷ []) ∷ [])

  -- the line of a loop
  abbrev pub loop_text : List ℕ → List ℕ
  loop_text formats = pieces (codes "(loop (" ∷ fourccs_text formats ∷ codes "))" ∷ (10 ∷ []) ∷ [])

-- the line of a refusal: layer, number, part and byte
abbrev pub code_line : Code → ℕ → List ℕ
code_line c byte =
    pieces (codes "(refused " ∷ layer_text c.layer ∷ codes " " ∷ decimal c.number ∷ codes " " ∷ decimal c.part ∷ codes " " ∷ decimal byte ∷ codes ")" ∷ (10 ∷ []) ∷ [])

-- the number of a refusal for a loop
abbrev pub loop_number : ℕ
loop_number = 26

-- the answer of a refused ticket, with the loop in row 0 where it was refused for one
abbrev pub refusal_text : List (List ℕ) → List ℕ → Refusal → List ℕ
refusal_text fourccs chains r =
    code_line (ticket_code r.fault) r.byte ++ cond ((ticket_code r.fault).number == loop_number) (loop_text fourccs (formats_of chains 0)) []

-- the text of an answer, where the legs' costs are these amounts
abbrev pub answer_text : List (List ℕ) → List Ends → List Amount → List ℕ → Result ℕ Refusal → List ℕ
answer_text fourccs ends amounts chains (Ok legs) = listing_text fourccs ends amounts chains legs
answer_text fourccs ends amounts chains (Err refusal) = refusal_text fourccs chains refusal

-- the text of an answer, from what its ticket has left in the memory
abbrev pub text_from : {C : Type 0} → (C → Amount) → Contents C → Result ℕ Refusal → List ℕ
text_from writes m = answer_text m.codes m.ends (map writes m.buffers.costs) m.buffers.chains

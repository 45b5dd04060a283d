-- A granted ticket in the words of its grammar: what its text is, and what was found for its legs over the cards that it says.
use Rattle.std.specs.Prelude.{◌≡◌, ℕ, suc, cond, ◌&&◌, List, [], ◌∷◌, ◌++◌, map, length, Some, None, Ok, Option, ◌==◌, slice_index_or}
use Rattle.std.specs.Option.{option_map}
use Rattle.std.specs.List.{AllByRecursion, flat_map}
use Rattle.costs.specs.declared.Cost.{Ghosts as Kind}
use Rattle.costs.specs.Algebra.{Algebra}
use Rattle.lent.specs.List.{or_else}
use Rattle.bay.specs.Sheet.{row_at}
use Rattle.walks.specs.Walk.{Gains}
use Rattle.bay.specs.Routes.{LeastChains}
use Rattle.bay.specs.declared.legs.Ends.{Ends}
use Rattle.lines.specs.Grammar.{AmountOf, line_text}
use Rattle.lines.specs.declared.line.Amount.{Amount}
use Rattle.lines.specs.declared.line.Kind.{Kind as KindName}
use Rattle.lines.specs.declared.line.Line.{Line}
use Rattle.lines.specs.declared.line.Line.TheVariants.{Bay, Format, Card, Leg, End}
use Rattle.ticket.specs.Answers.{Contents, HasBay, KindAnswer}
use Rattle.ticket.specs.Kinds.{read_as}
use Rattle.ticket.specs.declared.serve.BayLine.{BayLine}

-- what a card line says
pub record CardSaid : Type 0 where
  pub from : ℕ
  pub to : ℕ
  pub cost : Amount

abbrev pub card_line : CardSaid → Line
card_line c = Card c.from c.to c.cost

abbrev pub leg_line : Ends → Line
leg_line e = Leg e.from e.to

-- a format line for each code, from number k on
abbrev pub format_lines : ℕ → List (List ℕ) → List Line
format_lines k [] = []
format_lines k (code ∷ codes) = Format k code ∷ format_lines (suc k) codes

-- the text of a ticket: a bay line, a format line for each code, card lines, leg lines, and the end line
abbrev pub ticket_text : KindName → List (List ℕ) → List CardSaid → List Ends → List ℕ
ticket_text kind codes cards legs = flat_map line_text (Bay kind (length codes) ∷ (format_lines 0 codes ++ (map card_line cards ++ (map leg_line legs ++ End ∷ []))))

-- the amount that stands for a pair: that of its last card line
abbrev pub last_cost : List CardSaid → ℕ → ℕ → Option Amount
last_cost [] a b = None
last_cost (c ∷ cs) a b = or_else (last_cost cs a b) (cond (c.from == a && c.to == b) (Some c.cost) None)

module _ {C : Type 0} (K : Kind C) (cost_of : Amount → C) where
  -- the cards that the lines say
  abbrev pub cards_said : List CardSaid → ℕ → ℕ → Option K.algebra.Value
  cards_said cards a b = option_map (λ z. K.value (cost_of z)) (last_cost cards a b)

  -- The text is that of a ticket, with costs as its kind has them. No closed walk over the cards that it says undercuts the unit, and each of its legs has a
  -- chain of least cost over these cards in its row, and the cost in its entry, or none.
  pub record Whole (text : List ℕ) (kind : KindName) (n count : ℕ) (costs : List C) (chains : List ℕ) : Type 0 where
    pub codes : List (List ℕ)
    pub cards : List CardSaid
    pub legs : List Ends
    pub text_is : text ≡ ticket_text kind codes cards legs
    pub of_kind : AllByRecursion (λ card. AmountOf kind card.cost) cards
    pub size : length codes ≡ n
    pub many : length legs ≡ count
    pub no_loop : Gains K.algebra (cards_said cards) → ⊥
    pub routed : (d : C) → LeastChains K.algebra (cards_said cards) legs (row_at chains) (λ k. K.value (slice_index_or costs k d))

-- A granted ticket is whole.
abbrev pub GrantedIsWhole : {C : Type 0} (K : Kind C) → (Amount → C) → Type 0
GrantedIsWhole {C = C} K cost_of = (text : List ℕ) (bay : BayLine) (m m' : Contents C) (legs : ℕ) → HasBay text bay →
    KindAnswer K (read_as bay.kind cost_of) text bay.end m m' (Ok legs) bay.size → Whole K cost_of text bay.kind bay.size legs m'.buffers.costs m'.buffers.chains

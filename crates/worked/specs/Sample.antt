-- The sample ticket: its text, and the text of its answer.
use Rattle.std.specs.Prelude.{◌≡◌, ℕ, ◌≤◌, List, [], ◌∷◌, ◌++◌, length, drop, Ok, codes}
use Rattle.listing.specs.Answered.{Listed}
use Rattle.listing.specs.Text.{pieces}
use Rattle.listing.specs.declared.answer.TicketAnswer.{TicketAnswer}

-- a line, with its end
abbrev pub line : List ℕ → List ℕ
line text = text ++ 10 ∷ []

abbrev pub sample_ticket : List ℕ
sample_ticket = pieces (
    line (codes "(bay delay 3)") ∷
    line (codes "(format 0 UYVY)") ∷
    line (codes "(format 1 v210)") ∷
    line (codes "(format 2 NV12)") ∷
    line (codes "(card (0 1) 4)") ∷
    line (codes "(card (0 2) 6)") ∷
    line (codes "(card (2 1) -3)") ∷
    line (codes "(leg (0 1))") ∷
    line (codes "(leg (1 0))") ∷
    line (codes "(end)") ∷ [])

abbrev pub sample_listing : List ℕ
sample_listing = pieces (
    line (codes "(leg 0 (0 1) 3 (UYVY NV12 v210))") ∷
    line (codes "(leg 1 (1 0) none)") ∷
    line (codes "(end)") ∷ [])

-- Whatever the place holds, if it has room for the listing, the listing is written there, and nothing else is.
abbrev pub SampleAnswered : Type 0
SampleAnswered = (place place' : List ℕ) (a : TicketAnswer) → length sample_listing ≤ length place → Listed sample_ticket place place' a →
    (a.text ≡ Ok (length sample_listing)) × (place' ≡ sample_listing ++ drop (length sample_listing) place)

-- The lines of the sample ticket pass, and make a bay of three cards and two legs.
use Rattle.std.proofs.Common.{ℕ, List, [], ◌∷◌, pos, negsuc, codes, refl, arith}
use Rattle.std.specs.Fmt.{digits}
use Rattle.costs.specs.Kinds.{delays}
use Rattle.costs.specs.declared.delay.Delay.{Delay}
use Rattle.lines.specs.Grammar.{IsRead}
use Rattle.lines.specs.declared.line.Amount.TheVariants.{HalfLines}
use Rattle.lines.specs.declared.line.Kind.TheVariants as kind
use Rattle.lines.specs.declared.line.Line.{Line}
use Rattle.lines.specs.declared.line.Line.TheVariants.{Bay, Format, Card, Leg, End}
use Rattle.lines.specs.declared.line.Read.{Read}
use Rattle.lines.specs.declared.line.Stage.TheVariants.{Start}
use Rattle.ticket.specs.Kinds.{ReadAs, delay_of, read_as}
use Rattle.ticket.specs.Said.{Said, begins, adds, Completes}
use Rattle.worked.specs.Sample.{sample_ticket}

abbrev read : Line → ℕ → ℕ → ℕ → Read
read l end number code = record { line = l; end = end; number_place = number; code_place = code }

abbrev pub bay_read : Read
bay_read = read (Bay kind.Delay 3) 14 11 14

pub bay_is_read : IsRead Start sample_ticket 0 bay_read
unfolding digits
bay_is_read = record { allowed = omega arith; whole = refl; ends = refl; number = refl; code = refl }

-- the bay line says that costs are delays
abbrev pub delay_read : ReadAs Delay
delay_read = read_as kind.Delay delay_of

-- what the lines say one after the other
abbrev after_lines : List Line → Said delays → Said delays
after_lines [] s = s
after_lines (l ∷ ls) s = after_lines ls (adds delays delay_read s l)

abbrev body : List Line
body =
    Format 0 (codes "UYVY") ∷ Format 1 (codes "v210") ∷ Format 2 (codes "NV12") ∷
    Card 0 1 (HalfLines (pos 8)) ∷ Card 0 2 (HalfLines (pos 12)) ∷ Card 2 1 (HalfLines (negsuc 5)) ∷ Leg 0 1 ∷ Leg 1 0 ∷ []

abbrev pub sample_said : Said delays
sample_said = after_lines body (begins 3)

-- each line passes where the one before it ends
pub sample_completes : Completes delays delay_read sample_ticket (begins 3) 14 132 sample_said
unfolding digits
sample_completes = record {
  lines =
      read (Format 0 (codes "UYVY")) 30 22 24 ∷ read (Format 1 (codes "v210")) 46 38 40 ∷ read (Format 2 (codes "NV12")) 62 54 56 ∷
      read (Card 0 1 (HalfLines (pos 8))) 77 69 77 ∷ read (Card 0 2 (HalfLines (pos 12))) 92 84 92 ∷ read (Card 2 1 (HalfLines (negsuc 5))) 108 99 108 ∷
      read (Leg 0 1) 120 114 120 ∷ read (Leg 1 0) 132 126 132 ∷ [];
  through = (
    record { is_read = record { allowed = (omega arith, (refl, (refl, (refl, (refl, (refl, tt)))))); whole = refl; ends = refl; number = refl; code = refl }; no_cause = refl },
    tt,
    (
      record { is_read = record { allowed = (omega arith, (refl, (refl, (refl, (refl, (refl, tt)))))); whole = refl; ends = refl; number = refl; code = refl }; no_cause = refl },
      tt,
      (
        record { is_read = record { allowed = (omega arith, (refl, (refl, (refl, (refl, (refl, tt)))))); whole = refl; ends = refl; number = refl; code = refl }; no_cause = refl },
        tt,
        (
          record { is_read = record { allowed = (omega arith, omega arith, omega arith); whole = refl; ends = refl; number = refl; code = refl }; no_cause = refl },
          tt,
          (
            record { is_read = record { allowed = (omega arith, omega arith, omega arith); whole = refl; ends = refl; number = refl; code = refl }; no_cause = refl },
            tt,
            (
              record { is_read = record { allowed = (omega arith, omega arith, omega arith); whole = refl; ends = refl; number = refl; code = refl }; no_cause = refl },
              tt,
              (
                record { is_read = record { allowed = (omega arith, omega arith); whole = refl; ends = refl; number = refl; code = refl }; no_cause = refl },
                tt,
                (record { is_read = record { allowed = (omega arith, omega arith); whole = refl; ends = refl; number = refl; code = refl }; no_cause = refl }, tt, (refl, refl)),
              ),
            ),
          ),
        ),
      ),
    ),
  );
  last = read End 138 138 138;
  passes = record { is_read = record { allowed = tt; whole = refl; ends = refl; number = refl; code = refl }; no_cause = refl };
  is_end = refl;
}

-- Text that is written from the start of a place of bytes, which may be too short for it.
use Rattle.std.specs.Prelude.{◌≡◌, ℕ, ◌-◌, ◌^◌, ◌<◌, ◌≤◌, min, List, ◌++◌, length, drop, Ok, Err, Result}
use Rattle.listing.specs.declared.answer.PlaceShort.{PlaceShort}
use Rattle.listing.specs.declared.output.Output.{Output}

-- the most that a length is counted to
abbrev pub most_length : ℕ
most_length = 2 ^ 64 - 1

-- The text was written into a place that held `base`: its length is counted, and where there is room for it, it stands in
-- front of the rest of the place, which is as it was.
pub record Holds (base text : List ℕ) (o : Output) : Type 0 where
  pub count : o.count ≡ min (length text) most_length
  pub long : length o.bytes.now ≡ length base
  pub written : length text ≤ length base → o.bytes.now ≡ text ++ drop (length text) base

-- more text was written, into whatever place it is
pub record Writes (o o' : Output) (more : List ℕ) : Type 0 where
  pub adds : (base text : List ℕ) → Holds base text o → Holds base (text ++ more) o'
  pub same : o'.bytes.ghost_name ≡ o.bytes.ghost_name

-- the text stands in front of the place and the rest is as it was, and its length is answered; or the place is too short for
-- it, and is as it was
abbrev pub Printed : List ℕ → List ℕ → List ℕ → Result ℕ PlaceShort → Type 0
Printed place place' text (Ok n) = (n ≡ length text) × (place' ≡ text ++ drop (length text) place)
Printed place place' text (Err e) = (e.needed ≡ min (length text) most_length) × (length place < e.needed) × (place' ≡ place)

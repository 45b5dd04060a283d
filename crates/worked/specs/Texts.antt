-- Worked texts of delays, which are written in lines and held in half lines, alone and beside depths.
use Rattle.std.specs.Prelude.{◌≡◌, pos, neg_ℤ, codes}
use Rattle.lines.specs.Grammar.{both_text, delay_text}

pub record TextCases : Type 0 where
  -- nothing
  pub none : delay_text (pos 0) ≡ codes "0"
  -- an even number of half lines is written as before there were any
  pub even : delay_text (pos 24) ≡ codes "12"
  -- an odd one has half a line more
  pub odd : delay_text (pos 25) ≡ codes "12.5"
  pub half : delay_text (pos 1) ≡ codes "0.5"
  -- lines given back
  pub even_back : delay_text (neg_ℤ (pos 6)) ≡ codes "-3"
  pub odd_back : delay_text (neg_ℤ (pos 7)) ≡ codes "-3.5"
  -- a minus stands before 0 where half a line is given back
  pub half_back : delay_text (neg_ℤ (pos 1)) ≡ codes "-0.5"
  -- of two parts the delay stands first
  pub parts : both_text (pos 25) (pos 8) ≡ codes "(12.5 8)"
  -- the unit
  pub unit_parts : both_text (pos 0) (pos 255) ≡ codes "(0 255)"

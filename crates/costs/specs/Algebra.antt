-- What a cost kind means, and the laws that it keeps.
-- All of it is about unclipped values, never about the machine numbers that hold them.
use Rattle.std.specs.Prelude.{◌≡◌, ℕ, ◌+◌, ◌≤◌, Bool, true, ◌⊎◌, ◌≢◌}

-- A kind says which costs lie within m cards for m up to this many, and a held combination is exact up to there.
abbrev pub reach : ℕ
reach = 256

pub record Algebra : Type 1 where
  -- what a cost means
  pub Value : Type 0
  -- the cost that changes nothing
  pub unit : Value
  -- the combination of two costs
  pub join : Value → Value → Value
  -- the first cost undercuts the second: it is strictly better
  pub Under : Value → Value → Type 0
  -- the cost lies within so many cards
  pub Within : ℕ → Value → Type 0
  -- whether a card may have the cost
  pub admits : Value → Bool

-- What every kind keeps, and no more than this is asked of one.
pub record Lawful (A : Algebra) : Type 0 where
  -- combination may be bracketed and ordered in any way, and the unit changes nothing
  pub assoc : (a b c : A.Value) → A.join (A.join a b) c ≡ A.join a (A.join b c)
  pub comm : (a b : A.Value) → A.join a b ≡ A.join b a
  pub neutral : (a : A.Value) → A.join A.unit a ≡ a
  -- of two costs the first undercuts the second, or they are equal, or the second undercuts the first
  pub one_of : (a b : A.Value) → A.Under a b ⊎ ((a ≡ b) ⊎ A.Under b a)
  -- and only one of these holds
  pub not_both : (a b : A.Value) → A.Under a b → A.Under b a → ⊥
  pub not_equal : (a b : A.Value) → A.Under a b → a ≢ b
  pub trans : (a b c : A.Value) → A.Under a b → A.Under b c → A.Under a c
  -- what does not undercut still does not after both sides are combined with the same cost
  pub keeps : (a b c : A.Value) → (A.Under b a → ⊥) → A.Under (A.join b c) (A.join a c) → ⊥
  -- within m cards
  pub unit_within : A.Within 0 A.unit
  pub admitted_within : (a : A.Value) → A.admits a ≡ true → A.Within 1 a
  pub within_more : (m k : ℕ) (a : A.Value) → m ≤ k → k ≤ reach → A.Within m a → A.Within k a
  pub within_join : (m k : ℕ) (a b : A.Value) → m + k ≤ reach → A.Within m a → A.Within k b → A.Within (m + k) (A.join a b)

-- x is what the two combine to, where they lie within `reach` cards together; beyond that it is free
abbrev pub IsJoin : (A : Algebra) → A.Value → A.Value → A.Value → Type 0
IsJoin A a b x = (m k : ℕ) → m + k ≤ reach → A.Within m a → A.Within k b → x ≡ A.join a b

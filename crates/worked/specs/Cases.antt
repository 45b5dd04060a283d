-- All worked cases: those of walks, of their least costs and of their gains, what routes and forks are answered, how delays are written,
-- and what the sample ticket is answered.
use Rattle.worked.specs.Walks.{WorkedCases}
use Rattle.worked.specs.Routes.{RouteCases}
use Rattle.worked.specs.Forks.{ForkCases}
use Rattle.worked.specs.Sample.{SampleAnswered}
use Rattle.worked.specs.Texts.{TextCases}

pub record AllCases : Type 0 where
  -- the sample ticket prints its listing, whatever the memory holds
  pub sample_ticket : SampleAnswered
  -- what walks, their least costs and their gains are on a few small sets of cards and on the house table
  pub walks : WorkedCases
  -- what every route over these cards is answered, whatever the memory and the notes hold
  pub routes : RouteCases
  -- what every fork over these cards, and over some more, is answered, whatever the memory holds
  pub forks : ForkCases
  -- how delays are written
  pub texts : TextCases

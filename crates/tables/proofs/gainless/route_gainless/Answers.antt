-- What a route may find is a loop that gains, and there is none.
use Rattle.std.proofs.Common.{◌≡◌, ℕ, Bool, true, false, List, [], ◌∷◌, Some, is_some, Err, Result, sym, ap, ◌∙◌, inl, inr, arith}
use Rattle.std.proofs.lemmas.Bool.{false≢true}
use Rattle.costs.specs.declared.Cost.{Ghosts as Kind}
use Rattle.registers.specs.Fault.{code, first_cause}
use Rattle.registers.specs.Meaning.{standing}
use Rattle.registers.specs.declared.fault.Layer.TheVariants.{Bay}
use Rattle.walks.specs.Walk.{Gains}
use Rattle.bay.specs.Buffers.{Buffers}
use Rattle.bay.specs.Faults.{refused}
use Rattle.bay.specs.Plain.{Plain}
use Rattle.bay.specs.Routing.{RouteAnswer}
use Rattle.bay.specs.declared.fault.BayFault.{BayFault}
use Rattle.bay.specs.declared.fault.BayFault.TheVariants.{Loop}
use Rattle.bay.specs.declared.legs.Leg.{Leg}
use Rattle.bay.proofs.BothWays.{looped_gains}
use Rattle.tables.proofs.Verdicts.{other_number}
use Rattle.tables.proofs.gainless.route_gainless.Goals as goal

-- the causes that are judged before a card is looked at are others
no_room_cause : (legs table costs chains : Bool) →
    first_cause ((legs, code Bay 25 0) ∷ (table, code Bay 15 0) ∷ (costs, code Bay 15 1) ∷ (chains, code Bay 15 2) ∷ []) ≡ Some (code Bay 26 0) → ⊥
no_room_cause true t c r e = other_number (code Bay 25 0) (code Bay 26 0) (λ d. omega arith) e
no_room_cause false true c r e = other_number (code Bay 15 0) (code Bay 26 0) (λ d. omega arith) e
no_room_cause false false true r e = other_number (code Bay 15 1) (code Bay 26 0) (λ d. omega arith) e
no_room_cause false false false true e = other_number (code Bay 15 2) (code Bay 26 0) (λ d. omega arith) e
no_room_cause false false false false e = absurd (false≢true (ap is_some e))

never : {C : Type 0} {K : Kind C} (p : Plain K) (legs legs' : List Leg) (before after : Buffers C) (r : Result ℕ BayFault) →
    (Gains K.algebra (standing p.register) → ⊥) → RouteAnswer p legs legs' before after r → r ≡ Err Loop → ⊥
never p legs legs' before after r calm (inl away) e = no_room_cause _ _ _ _ (away.holds ∙ sym away.answers ∙ ap refused e)
never {K = K} p legs legs' before after r calm (inr (inl found)) e = calm (looped_gains K.algebra (standing p.register) _ found.loop)
never p legs legs' before after r calm (inr (inr granted)) e = let h = granted.answers in cc

pub returns-clause-never : goal.returns-clause-never
returns-clause-never g c = never _ _ _ _ _ _ (g.met.R.Gainless.never_gains c.args.bay.now.register) c.route.ensures.answer

-- What a fork may find is a loop that gains, and there is none.
use Rattle.std.proofs.Common.{◌≡◌, ℕ, Bool, true, false, [], ◌∷◌, Some, is_some, Err, Result, sym, ap, ◌∙◌, inl, inr, arith}
use Rattle.std.proofs.lemmas.Bool.{false≢true}
use Rattle.costs.specs.declared.Cost.{Ghosts as Kind}
use Rattle.registers.specs.Fault.{code, first_cause}
use Rattle.registers.specs.Meaning.{Meaning, standing}
use Rattle.registers.specs.declared.fault.Layer.TheVariants.{Bay}
use Rattle.walks.specs.Walk.{Gains}
use Rattle.bay.specs.Buffers.{Buffers}
use Rattle.bay.specs.Faults.{refused}
use Rattle.bay.specs.Splits.{ForkAnswer}
use Rattle.bay.specs.declared.fault.BayFault.{BayFault}
use Rattle.bay.specs.declared.fault.BayFault.TheVariants.{Loop}
use Rattle.bay.proofs.BothWays.{looped_gains}
use Rattle.tables.proofs.Verdicts.{other_number}
use Rattle.tables.proofs.gainless.fork_gainless.Goals as goal

-- the causes that are judged before a card is looked at are others
no_early_cause : (input first second table costs chains : Bool) →
    first_cause ((input, code Bay 11 0) ∷ (first, code Bay 11 1) ∷ (second, code Bay 11 2) ∷ (table, code Bay 15 0) ∷ (costs, code Bay 15 1) ∷ (chains, code Bay 15 2) ∷ []) ≡
    Some (code Bay 26 0) → ⊥
no_early_cause true f s t c r e = other_number (code Bay 11 0) (code Bay 26 0) (λ d. omega arith) e
no_early_cause false true s t c r e = other_number (code Bay 11 1) (code Bay 26 0) (λ d. omega arith) e
no_early_cause false false true t c r e = other_number (code Bay 11 2) (code Bay 26 0) (λ d. omega arith) e
no_early_cause false false false true c r e = other_number (code Bay 15 0) (code Bay 26 0) (λ d. omega arith) e
no_early_cause false false false false true r e = other_number (code Bay 15 1) (code Bay 26 0) (λ d. omega arith) e
no_early_cause false false false false false true e = other_number (code Bay 15 2) (code Bay 26 0) (λ d. omega arith) e
no_early_cause false false false false false false e = absurd (false≢true (ap is_some e))

never : {C : Type 0} (K : Kind C) (m : Meaning K.algebra.Value) (input first second : ℕ) (before after : Buffers C) (r : Result ℕ BayFault) →
    (Gains K.algebra (standing m) → ⊥) → ForkAnswer K m input first second before after r → r ≡ Err Loop → ⊥
never K m input first second before after r calm (inl away) e = no_early_cause _ _ _ _ _ _ (away.holds ∙ sym away.answers ∙ ap refused e)
never K m input first second before after r calm (inr (inl looped)) e = calm (looped_gains K.algebra (standing m) _ looped.loop)
never K m input first second before after r calm (inr (inr (inl unreached))) e = let h = unreached.answers in cc
never K m input first second before after r calm (inr (inr (inr granted))) e = let h = granted.answers in cc

pub returns-clause-never : goal.returns-clause-never
returns-clause-never g c = never _ _ _ _ _ _ _ _ (g.met.R.Gainless.never_gains c.args.bay.now.register) c.fork.ensures.answer

-- What a call that was made is answered and leaves, for any call: from what its own contract says.
use Rattle.std.proofs.Common.{◌≡◌, ℕ, ◌*◌, Bool, true, false, cond, not, eqb, ltb, List, length, Some, None, Ok, Err, Result, sym, refl, ap, ◌∙◌, subst, inl, inr, arith}
use Rattle.costs.specs.declared.Cost.{Ghosts as Kind}
use Rattle.registers.specs.Fault.{code, first_cause}
use Rattle.registers.specs.declared.fault.Code.{Code}
use Rattle.registers.specs.declared.fault.Layer.TheVariants.{Bay}
use Rattle.bay.specs.Buffers.{Buffers, Wrote}
use Rattle.bay.specs.Calls.{AnswerIs, Called, ForkTold, Judged, RouteDone, legs_step, made, of_fault, of_fork, of_route}
use Rattle.bay.specs.Faults.{bay_code}
use Rattle.bay.specs.Plain.{Plain, room_causes}
use Rattle.bay.specs.Routing.{RouteAnswer, TurnedAway, route_causes}
use Rattle.bay.specs.Runs.{LeftBy, Right}
use Rattle.bay.specs.Sheet.{row_bytes}
use Rattle.bay.specs.Splits.{ForkAnswer, ForkTurnedAway, split_causes, split_rows}
use Rattle.bay.specs.declared.calls.Answer.{Answer}
use Rattle.bay.specs.declared.calls.Answer.TheVariants.{Refused}
use Rattle.bay.specs.declared.calls.Call.{Call}
use Rattle.bay.specs.declared.calls.Call.TheVariants.{Enter, Withdraw, Book, Strike, Show, Route, Fork}
use Rattle.bay.specs.declared.fault.BayFault.{BayFault}
use Rattle.bay.specs.declared.fault.BayFault.TheVariants.{Register, FromOutside, ToOutside, SecondOutside, NoLeg, TableShort, CostsShort, ChainsShort, AnswersShort, LegsFull, NoLegs, Loop, NoSplit}
use Rattle.bay.specs.declared.legs.Leg.{Leg}
use Rattle.bay.proofs.Granted.{none≢some}
use Rattle.bay.proofs.Passes.{beyond_none}

some_number : (c d : Code) → Some c ≡ Some d → c.number ≡ d.number
some_number c d e = let same : c ≡ d = cc in ap (λ x. x.number) same

-- no cause that is judged before a card is looked at has the loop's number
early_number : (l n c e b : ℕ) (x : Code) → first_cause (room_causes l n c e b) ≡ Some x → x.number ≡ 26 → ⊥
early_number l n c e b x h is = go (eqb l 0) (ltb c (n * n)) (ltb e l) (ltb b (row_bytes * l)) h
  where
    go : (p q r s : Bool) → cond p (Some (code Bay 25 0)) (cond q (Some (code Bay 15 0)) (cond r (Some (code Bay 15 1)) (cond s (Some (code Bay 15 2)) None))) ≡ Some x → ⊥
    go true q r s e = omega (arith, some_number _ _ e)
    go false true r s e = omega (arith, some_number _ _ e)
    go false false true s e = omega (arith, some_number _ _ e)
    go false false false true e = omega (arith, some_number _ _ e)
    go false false false false e = none≢some e

early_split : (n i s t c e b : ℕ) (x : Code) → first_cause (split_causes n i s t c e b) ≡ Some x → x.number ≡ 26 → ⊥
early_split n i s t c e b x h is = go (ltb i n) (ltb s n) (ltb t n) (ltb c (n * n)) (ltb e 1) (ltb b (row_bytes * split_rows)) h
  where
    go : (p q r u v w : Bool) →
        cond (not p) (Some (code Bay 11 0)) (cond (not q) (Some (code Bay 11 1)) (cond (not r) (Some (code Bay 11 2))
        (cond u (Some (code Bay 15 0)) (cond v (Some (code Bay 15 1)) (cond w (Some (code Bay 15 2)) None))))) ≡ Some x → ⊥
    go false q r u v w e = omega (arith, some_number _ _ e)
    go true false r u v w e = omega (arith, some_number _ _ e)
    go true true false u v w e = omega (arith, some_number _ _ e)
    go true true true true v w e = omega (arith, some_number _ _ e)
    go true true true false true w e = omega (arith, some_number _ _ e)
    go true true true false false true e = omega (arith, some_number _ _ e)
    go true true true false false false e = none≢some e

-- a fault that is not the loop's is told as a refusal
of_refused : (f : BayFault) → ((bay_code f).number ≡ 26 → ⊥) → of_fault f ≡ Refused f
of_refused (Register f) n = refl
of_refused FromOutside n = refl
of_refused ToOutside n = refl
of_refused SecondOutside n = refl
of_refused NoLeg n = refl
of_refused TableShort n = refl
of_refused CostsShort n = refl
of_refused ChainsShort n = refl
of_refused AnswersShort n = refl
of_refused LegsFull n = refl
of_refused NoLegs n = refl
of_refused Loop n = absurd (n refl)
of_refused NoSplit n = refl

-- where nothing has changed, a refusal leaves what it may
left_refused : {C : Type 0} (size : ℕ) (before after : Buffers C) → after ≡ before → (f : BayFault) → LeftBy (Refused f) size before after
left_refused size before after same (Register f) = same
left_refused size before after same FromOutside = same
left_refused size before after same ToOutside = same
left_refused size before after same SecondOutside = same
left_refused size before after same NoLeg = same
left_refused size before after same TableShort = same
left_refused size before after same CostsShort = same
left_refused size before after same ChainsShort = same
left_refused size before after same AnswersShort = same
left_refused size before after same LegsFull = same
left_refused size before after same NoLegs = same
left_refused size before after same Loop = same
left_refused size before after same NoSplit =
    subst (Wrote (size * size) 0 0 before) (sym same) (record { table = beyond_none _ _; costs = beyond_none _ _; chains = beyond_none _ _ })

module _ {C : Type 0} {K : Kind C} (p : Plain K) (legs legs' : List Leg) where
  -- a route that was turned away is told as refused, for the first cause
  away_refused : (before after : Buffers C) (result : Result ℕ BayFault) → TurnedAway p legs legs' before after result →
      (f : BayFault) × (of_route result ≡ Refused f) × (first_cause (route_causes p before) ≡ Some (bay_code f))
  away_refused before after (Ok n) away = absurd (none≢some away.answers)
  away_refused before after (Err f) away =
      let holds = away.holds ∙ sym away.answers in
      (f, of_refused f (early_number (length p.legs) p.register.size (length before.table) (length before.costs) (length before.chains) (bay_code f) holds), holds)

  -- and so is a fork
  away_forked : (a b c : ℕ) (before after : Buffers C) (result : Result ℕ BayFault) → ForkTurnedAway K p.register a b c before after result → (f : BayFault) × (of_fork result ≡ Refused f)
  away_forked a b c before after (Ok n) away = absurd (none≢some away.answers)
  away_forked a b c before after (Err f) away =
      (f, of_refused f (early_split p.register.size a b c (length before.table) (length before.costs) (length before.chains) (bay_code f) (away.holds ∙ sym away.answers)))

  module _ (answer : Answer) (before after : Buffers C) (size : ℕ) (same_size : p.register.size ≡ size) where
    abbrev Told : Call C → Type 0
    Told call = Right p legs (made call answer before after) × (legs' ≡ legs_step legs (made call answer before after)) × LeftBy answer size before after

    route_told : RouteDone p legs legs' (made Route answer before after) → Told Route
    route_told d = go d.routed
      where
        go : RouteAnswer p legs legs' before after d.result → Told Route
        go (inl away) =
            let (f, is, holds) = away_refused before after d.result away in
            let tells = d.tells ∙ is in
            (inl (f, tells, holds), rw tells away.notes, rw tells (left_refused size before after away.same f))
        go (inr (inl found)) =
            let tells = d.tells ∙ ap of_route found.answers in
            (inr (found.no_cause, inl (tells, found.loop)), rw tells found.notes, rw (tells, sym same_size) found.wrote)
        go (inr (inr granted)) =
            let tells = d.tells ∙ ap of_route granted.answers in
            (inr (granted.no_cause, inr (tells, granted.no_loop, granted.routed)), rw tells granted.notes, rw (tells, sym same_size) granted.wrote)

    left_same : (call : Call C) → after ≡ before → (AnswerIs legs call answer → LeftBy answer size before after) → Judged p legs call answer → LeftBy answer size before after
    left_same call same fine (inl g) = fine g.0
    left_same call same fine (inr (f, is, holds)) = rw is (left_refused size before after same f)

    fork_left : (a b c : ℕ) → ForkTold p (made (Fork a b c) answer before after) a b c → LeftBy answer size before after
    fork_left a b c d = go d.found
      where
        go : ForkAnswer K p.register a b c before after d.result → LeftBy answer size before after
        go (inl away) = let (f, is) = away_forked a b c before after d.result away in rw (d.tells ∙ is) (left_refused size before after away.same f)
        go (inr (inl looped)) = rw (d.tells ∙ ap of_fork looped.answers, sym same_size) looped.wrote
        go (inr (inr (inl unreached))) = rw (d.tells ∙ ap of_fork unreached.answers, sym same_size) unreached.wrote
        go (inr (inr (inr granted))) = rw (d.tells ∙ ap of_fork granted.answers, sym same_size) granted.wrote

  pub told : (call : Call C) (answer : Answer) (before after : Buffers C) (size : ℕ) (e : p.register.size ≡ size) (p' : Plain K) → Called p p' legs legs' (made call answer before after) → Told answer before after size e call
  told Route answer before after size e p' c = route_told answer before after size e c.done
  told (Fork i s t) answer before after size e p' c = (c.done.forked, c.done.notes, fork_left answer before after size e i s t c.done.forked)
  told (Enter a b x) answer before after size e p' c = (c.done.judged, c.done.notes, left_same answer before after size e (Enter a b x) c.done.same (λ is. rw is c.done.same) c.done.judged)
  told (Withdraw a b) answer before after size e p' c = (c.done.judged, c.done.notes, left_same answer before after size e (Withdraw a b) c.done.same (λ is. rw is c.done.same) c.done.judged)
  told (Book a b) answer before after size e p' c = (c.done.judged, c.done.notes, left_same answer before after size e (Book a b) c.done.same (λ is. rw is c.done.same) c.done.judged)
  told (Strike k) answer before after size e p' c = (c.done.judged, c.done.notes, left_same answer before after size e (Strike k) c.done.same (λ is. rw is c.done.same) c.done.judged)
  told (Show k) answer before after size e p' c = (c.done.judged, c.done.notes, left_same answer before after size e (Show k) c.done.same (λ is. rw is c.done.same) c.done.judged)

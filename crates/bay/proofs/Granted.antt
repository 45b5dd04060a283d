-- What a granted call leaves, and what the legs' ends know of a change to the legs.
use Rattle.std.proofs.Common.{◌≡◌, ℕ, suc, ◌<◌, cond, leb, List, [], ◌∷◌, ◌++◌, map, length, take, drop, Some, None, Option, sym, refl, ap, ◌∙◌, subst, arith}
use mathlib.Core.List.{map-append}
use lib.ListN.{length-map}
use Rattle.std.proofs.lemmas.List.{take-map, drop-map}
use Rattle.std.specs.List.{All}
use Rattle.std.proofs.lemmas.Bool.{lt-leb}
use Rattle.std.proofs.lemmas.List.Elements.{All-append, All-drop, All-same, All-take}
use Rattle.registers.specs.Fault.{after, code}
use Rattle.registers.specs.declared.fault.Code.{Code}
use Rattle.registers.specs.declared.fault.Layer.TheVariants.{Bay}
use Rattle.bay.specs.Leg.{opened}
use Rattle.bay.specs.Legs.{struck}
use Rattle.bay.specs.Plain.{EndsBelow, ends}
use Rattle.bay.specs.declared.legs.Ends.{Ends}
use Rattle.bay.specs.declared.legs.Leg.{Leg}

pub after_granted : {X : Type 0} (v : Option Code) (x y z : X) → None ≡ v → z ≡ y → z ≡ after v x y
after_granted v x y z e h = h ∙ ap (λ o. after o x y) e

pub none≢some : {X : Type 0} {x : X} → None ≡ Some x → ⊥
none≢some e = let z : ◌≡◌ {A = ℕ} 0 1 = cc in omega arith

pub ends_opened : (legs : List Leg) → map ends (opened legs) ≡ map ends legs
ends_opened [] = refl
ends_opened (leg ∷ legs) = ap (λ l. ends leg ∷ l) (ends_opened legs)

pub ends_struck : (k : ℕ) (legs : List Leg) → map ends (struck k legs) ≡ struck k (map ends legs)
ends_struck k legs = map-append ends (take k legs) (drop (suc k) legs) ∙ (λ i. sym (take-map ends k legs) i ++ sym (drop-map ends (suc k) legs) i)

-- the legs' ends are formats still, where neither they nor the number of formats changed, or a leg was struck
pub inside_same : (n m : ℕ) (legs legs' : List Ends) → m ≡ n → legs' ≡ legs → All (EndsBelow n) legs → All (EndsBelow m) legs'
inside_same n m legs legs' size same inside = subst (λ k. All (EndsBelow k) legs') (sym size) (All-same (EndsBelow n) legs' legs same inside)

pub inside_struck : (n k : ℕ) (legs : List Ends) → All (EndsBelow n) legs → All (EndsBelow n) (struck k legs)
inside_struck n k legs inside =
    All-append (EndsBelow n) (take k legs) (drop (suc k) legs) (All-take (EndsBelow n) k legs inside) (All-drop (EndsBelow n) (suc k) legs inside)

-- no cause holds where the leg is there
pub none_missing : (legs : List Leg) (k : ℕ) → k < length legs → None ≡ cond (leb (length (map ends legs)) k) (Some (code Bay 14 0)) None
none_missing legs k h = ap (λ holds. cond holds (Some (code Bay 14 0)) None) (sym (lt-leb _ k (omega (arith, length-map legs ends))))

-- A route works in its part of the sheets, and any other call in none of them.
use Rattle.std.proofs.Common.{◌≡◌, ◌+◌, ◌-◌, ◌*◌, true, false, take, drop, sym, refl, ap, ◌∙◌, arith}
use Rattle.bay.specs.Limits.{most_legs}
use Rattle.bay.specs.Runs.{own, part_bytes, takes_part}
use Rattle.bay.proofs.RunSteps.{none_put, own_long, own_none, part_put}
use Rattle.bay.proofs.bays.Bay.call_in_part.Goals as goal

pub returns-then-not-takes_part-clause-made : goal.returns-then-not-takes_part-clause-made
returns-then-not-takes_part-clause-made g c =
    let call = c.args.call in
    let none : takes_part call ≡ false = sym c.takes_part.ensures ∙ c.if-not-takes_part.true in
    record {
      made = _;
      call_is = refl;
      answer_is = refl;
      called = c.call.ensures.made;
      table_was = refl;
      table_is = refl;
      costs_were = own_none call _ none ∙ sym (own_none call _ none);
      costs_are = none_put call (most_legs * c.args.part) c.args.costs.now c.call.new.costs none c.call.auto.costs;
      costs_long = own_long call _ _ c.call.auto.costs;
      chains_were = own_none call _ none ∙ sym (own_none call _ none);
      chains_are = none_put call (part_bytes * c.args.part) c.args.chains.now c.call.new.chains none c.call.auto.chains;
      chains_long = own_long call _ _ c.call.auto.chains;
    }

pub returns-clause-made : goal.returns-clause-made
returns-clause-made g c =
    let call = c.args.call in
    let all : takes_part call ≡ true = sym c.takes_part.ensures ∙ c.if-not-takes_part.false in
    let costs : most_legs * c.args.part + most_legs - most_legs * c.args.part ≡ most_legs = omega arith in
    let chains : part_bytes * c.args.part + part_bytes - part_bytes * c.args.part ≡ part_bytes = omega arith in
    record {
      made = _;
      call_is = refl;
      answer_is = refl;
      called = c.call-2.ensures.made;
      table_was = refl;
      table_is = refl;
      costs_were = ap (λ n. own call (take n (drop (most_legs * c.args.part) c.args.costs.now))) costs;
      costs_are = part_put call (most_legs * c.args.part) most_legs c.args.costs.now c.call-2.new.costs all (c.requires.costs all) c.call-2.auto.costs;
      costs_long = own_long call _ _ c.call-2.auto.costs;
      chains_were = ap (λ n. own call (take n (drop (part_bytes * c.args.part) c.args.chains.now))) chains;
      chains_are = part_put call (part_bytes * c.args.part) part_bytes c.args.chains.now c.call-2.new.chains all (c.requires.chains all) c.call-2.auto.chains;
      chains_long = own_long call _ _ c.call-2.auto.chains;
    }

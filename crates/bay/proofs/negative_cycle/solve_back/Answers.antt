-- The search up to h finds no closed walk, so the least costs back to h can be had.
use Rattle.std.proofs.Common.{◌*◌, ◌<◌, arith}
use Rattle.registers.specs.Meaning.{meant, standing}
use Rattle.walks.specs.Levels.{upto}
use Rattle.bay.proofs.Passes.{beyond_then}
use Rattle.bay.proofs.Turning.{calmed_all, solved_settled}
use Rattle.bay.proofs.negative_cycle.solve_back.Goals as goal

pub returns : goal.returns
returns g c =
    let K = g.R.Cost.Cost in
    let n = c.args.n in
    let h = c.args.h in
    let card = upto h (standing (meant K (g.R.Register.holds c.args.register.now))) in
    let s = solved_settled K g.met.R.Cost.Cost.lawful (g.R.Register.holds c.args.register.now) _ _ _ _ c.requires.found c.solve_upto.ensures.solved in
    let sound = c.solve_upto.ensures.sound in
    let inside : h < n = omega (arith, c.requires.found.0, c.requires.size) in
    record {
      standing = c.solve_upto.ensures.standing;
      beyond = beyond_then (n * n) _ _ _ c.solve_upto.ensures.beyond c.solve_to.ensures.beyond;
      back = record {
        inside = inside;
        sound = sound;
        calm = s.calm;
        roomy = c.solve_to.ensures.roomy;
        least = c.solve_to.ensures.least card sound (calmed_all K.algebra card n s.calm) s.low h inside c.with.ensures.there;
      };
    }

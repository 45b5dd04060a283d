use Rattle.walks.proofs.Cut.{cut_to_chain, least_is_near, unit_is_least}
use Rattle.walks.proofs.Fold.{fold_step}
use Rattle.walks.proofs.Loops.{look_finds, no_hidden_loop}
use Rattle.walks.proofs.Tree.{tree_reaches}
use Rattle.walks.proofs.theory.theorems.Goals as goal

pub returns : goal.returns
returns g c =
    let L = g.met.C.Cost.lawful in
    record {
      fold_step = fold_step L;
      look_finds = look_finds L;
      no_hidden_loop = no_hidden_loop L;
      cut_to_chain = cut_to_chain L;
      unit_is_least = unit_is_least L;
      least_is_near = least_is_near L;
      tree_reaches = tree_reaches L;
    }

-- What the fork call is owed: the room that its first causes leave, a table that is ready, and its answer.
use Rattle.std.proofs.Common.{◌≡◌, ℕ, ◌*◌, ◌<◌, ◌≤◌, Bool, true, false, cond, not, ltb, Some, None, Option, sym, refl, subst, inr, inl, MatchOption}
use Rattle.std.specs.Option.{ok_or}
use Rattle.std.proofs.lemmas.Bool.{ltb-false, ltb-true}
use Rattle.costs.specs.declared.Cost.{Ghosts as Kind}
use Rattle.registers.specs.Fault.{code, first_cause}
use Rattle.registers.specs.Meaning.{Meaning, standing}
use Rattle.registers.specs.declared.fault.Layer.TheVariants.{Bay}
use Rattle.walks.specs.Walk.{Gains}
use Rattle.bay.specs.Buffers.{Beyond, Buffers}
use Rattle.bay.specs.Sheet.{row_bytes}
use Rattle.bay.specs.SplitTables.{NoneWritten, SplitWritten}
use Rattle.bay.specs.Splits.{ForkAnswer, fork_causes, split_causes, split_rows}
use Rattle.bay.specs.declared.fault.BayFault.TheVariants.{NoSplit}
use Rattle.bay.specs.declared.splits.Branches.{Branches}
use Rattle.bay.proofs.Granted.{none≢some}
use Rattle.bay.proofs.Passes.{beyond_none}

-- where no cause holds the input and the outputs are formats, and the table and the sheets are long enough
pub record EnoughToSplit (n i s t cells entries bytes : ℕ) : Type 0 where
  pub input : i < n
  pub first : s < n
  pub second : t < n
  pub table : n * n ≤ cells
  pub costs : 1 ≤ entries
  pub rows : row_bytes * split_rows ≤ bytes

pub split_enough : (n i s t cells entries bytes : ℕ) → None ≡ first_cause (split_causes n i s t cells entries bytes) → EnoughToSplit n i s t cells entries bytes
split_enough n i s t cells entries bytes = go (ltb i n) (ltb s n) (ltb t n) (ltb cells (n * n)) (ltb entries 1) (ltb bytes (row_bytes * split_rows)) refl refl refl refl refl refl
  where
    go : (p q r u v w : Bool) → ltb i n ≡ p → ltb s n ≡ q → ltb t n ≡ r → ltb cells (n * n) ≡ u → ltb entries 1 ≡ v → ltb bytes (row_bytes * split_rows) ≡ w →
        None ≡ cond (not p) (Some (code Bay 11 0)) (cond (not q) (Some (code Bay 11 1)) (cond (not r) (Some (code Bay 11 2))
        (cond u (Some (code Bay 15 0)) (cond v (Some (code Bay 15 1)) (cond w (Some (code Bay 15 2)) None))))) → EnoughToSplit n i s t cells entries bytes
    go false q r u v w a b c d e f h = absurd (none≢some h)
    go true false r u v w a b c d e f h = absurd (none≢some h)
    go true true false u v w a b c d e f h = absurd (none≢some h)
    go true true true true v w a b c d e f h = absurd (none≢some h)
    go true true true false true w a b c d e f h = absurd (none≢some h)
    go true true true false false true a b c d e f h = absurd (none≢some h)
    go true true true false false false a b c d e f h = record {
      input = ltb-true i n a;
      first = ltb-true s n b;
      second = ltb-true t n c;
      table = ltb-false cells (n * n) d;
      costs = ltb-false entries 1 e;
      rows = ltb-false bytes (row_bytes * split_rows) f;
    }

-- what was written of a split, or that none was, is what a fork is answered
pub fork_answered : {C : Type 0} (K : Kind C) (m : Meaning K.algebra.Value) (b : Branches) (before after : Buffers C) (split : Option ℕ) →
    None ≡ first_cause (fork_causes K m b.input b.first b.second before) → (Gains K.algebra (standing m) → ⊥) →
    Beyond (m.size * m.size) before.table after.table →
    MatchOption split (NoneWritten K (standing m) b before.costs after.costs before.chains after.chains)
    (λ k. (k < m.size) × SplitWritten K (standing m) b before.costs after.costs before.chains after.chains k) →
    ForkAnswer K m b.input b.first b.second before after (ok_or split NoSplit)
fork_answered K m b before after None no_cause calm table none = inr (inr (inl (record {
  no_cause = sym no_cause;
  answers = refl;
  no_loop = calm;
  cut_off = none.cut_off;
  wrote = record {
    table = table;
    costs = subst (Beyond 0 before.costs) (sym none.costs) (beyond_none 0 before.costs);
    chains = subst (Beyond 0 before.chains) (sym none.chains) (beyond_none 0 before.chains);
  };
})))
fork_answered K m b before after (Some k) no_cause calm table (inside, found) = inr (inr (inr (record {
  no_cause = sym no_cause;
  split = k;
  inside = inside;
  answers = refl;
  no_loop = calm;
  found = found.found;
  wrote = record { table = table; costs = found.costs; chains = found.chains };
})))

-- A list of calls grows by one call: the calls that were made, and the sheets, of which each route has a part of its own.
use Rattle.std.proofs.Common.{◌≡◌, ℕ, suc, ◌+◌, ◌-◌, ◌*◌, ◌<◌, ◌≤◌, Bool, true, false, cond, ltb, List, [], ◌∷◌, ◌++◌, map, length, get_or, take, drop, set, Some, None, Option, sym, refl, ap, ◌∙◌, subst, subst₂, add-zero, append_assoc, append-nil, length-append, arith}
use lib.ListN.{length-map}
use borrow.Rule.Slice.PartMut.{put_mid, Post-is}
use mir.Val.{bool_byte}
use Rattle.std.proofs.Math.Nat.{mul-le-mul_left}
use Rattle.std.proofs.Math.Seq.{drop-cons, set-append_seam, take-add}
use Rattle.std.proofs.lemmas.List.Sums.{sum_by-append, sum_by_push}
use Rattle.std.specs.List.{All, flat_map}
use Rattle.std.proofs.lemmas.Grind.{flat_map-append}
use Rattle.std.proofs.lemmas.List.{drop-drop, drop_at, length-drop, length-take-le, take-append-drop, take_all, take_at, take_more, map-append}
use Rattle.std.proofs.lemmas.Bool.{ltb-false}
use Rattle.std.proofs.lemmas.List.Elements.{All-cons, All-nil, All-push}
use Rattle.costs.specs.declared.Cost.{Ghosts as Kind}
use Rattle.registers.specs.Fault.{after, code, first_cause}
use Rattle.registers.specs.declared.fault.Layer.TheVariants.{Bay}
use Rattle.registers.specs.declared.fault.Code.{Code}
use Rattle.bay.specs.Buffers.{Buffers, buffers, in_front}
use Rattle.bay.specs.Calls.{Called, Made}
use Rattle.bay.specs.Limits.{most_legs}
use Rattle.bay.specs.Plain.{Plain, granted, step}
use Rattle.bay.specs.Runs.{InPart, Leaves, OneAfterOther, PassesOn, Ran, WholePart, InWholePart, answer_of, call_of, chains_found, chains_left, costs_found, costs_left, legs_after, own, part_bytes, parts, plain_after, put_at, run_causes, takes_part}
use Rattle.bay.specs.declared.calls.Call.{Call}
use Rattle.bay.specs.declared.calls.Call.TheVariants.{Enter, Withdraw, Book, Strike, Show, Route, Fork}
use Rattle.bay.specs.declared.cells.Cell.{Cell}
use Rattle.bay.specs.declared.legs.Leg.{Leg}
use Rattle.bay.specs.declared.calls.Answer.{Answer}
use Rattle.bay.proofs.Answering.{told}
use Rattle.bay.proofs.Granted.{none≢some}
use Rattle.bay.proofs.OneAfterOther.{one_by_one}

-- how many parts a call takes
abbrev pub count : {C : Type 0} → Call C → ℕ
count call = cond (takes_part call) 1 0

-- what a call has of a sheet: all, or nothing
pub own_all : {C X : Type 0} (call : Call C) (xs : List X) → takes_part call ≡ true → own call xs ≡ xs
own_all call xs e = ap (λ part. cond part xs []) e

pub own_none : {C X : Type 0} (call : Call C) (xs : List X) → takes_part call ≡ false → own call xs ≡ []
own_none call xs e = ap (λ part. cond part xs []) e

whole_by : {C : Type 0} (call : Call C) (m : Buffers C) → (takes_part call ≡ true → (length (own call m.costs) ≡ most_legs) × (length (own call m.chains) ≡ part_bytes)) → WholePart call m
whole_by call m h t = (ap length (sym (own_all call m.costs t)) ∙ (h t).0, ap length (sym (own_all call m.chains t)) ∙ (h t).1)

pub own_long : {C X : Type 0} (call : Call C) (xs ys : List X) → length xs ≡ length ys → length (own call xs) ≡ length (own call ys)
own_long {X} call xs ys e = long (takes_part call)
  where
    long : (part : Bool) → length (cond part xs []) ≡ length (cond part ys [])
    long true = e
    long false = refl

-- a sheet whose part was written, in which a call works
pub part_put : {C X : Type 0} (call : Call C) (a w : ℕ) (old new : List X) → takes_part call ≡ true → a + w ≤ length old → length new ≡ length (take (a + w - a) (drop a old)) →
    put_mid a (a + w - a) old new ≡ put_at a (own call new) old
part_put call a w old new e fits same =
    let n : a + w - a ≡ w = omega arith in
    let long : length new ≡ w = same ∙ ap (λ k. length (take k (drop a old))) n ∙ length-take-le w (drop a old) (omega (arith, length-drop a old)) in
    ap (λ rest. take a old ++ (new ++ rest)) (Post-is a (a + w) old (omega arith) ∙ ap (λ m. drop (a + m) old) (sym long)) ∙ ap (λ l. put_at a l old) (sym (own_all call new e))

-- a sheet in front of which nothing was written, in which a call does not work
pub none_put : {C X : Type 0} (call : Call C) (a : ℕ) (old new : List X) → takes_part call ≡ false → length new ≡ 0 → new ++ old ≡ put_at a (own call new) old
none_put call a old [] e long = sym (take-append-drop a old) ∙ ap (λ m. take a old ++ drop m old) (sym (add-zero a)) ∙ ap (λ l. put_at a l old) (sym (own_none call [] e))
none_put call a old (x ∷ new) e long = absurd (omega arith)

-- the parts so far stand in front of a sheet, as they were found and as they are left; one more is found, and is written
module _ {X : Type 0} (s : ℕ) (found left old now : List X) (many : length found ≡ s) (many' : length left ≡ s) (were : old ≡ in_front found old) (are : now ≡ in_front left old)
    (b a later : List X) (found_is : b ≡ take (length b) (drop s now)) (long : length a ≡ length b) (later_is : later ≡ put_at s a now) where
  rest_same : drop s now ≡ drop s old
  rest_same = ap (drop s) are ∙ drop_at left (drop (length left) old) s many' ∙ ap (λ n. drop n old) many'

  pub found_more : old ≡ in_front (found ++ b) old
  found_more =
      let front : found ≡ take s old = sym (take_at found (drop (length found) old) s many) ∙ ap (take s) (sym were) in
      let next : b ≡ take (length b) (drop s old) = found_is ∙ ap (take (length b)) rest_same in
      let both : found ++ b ≡ take (s + length b) old = (λ i. front i ++ next i) ∙ sym (take-add s (length b) old) in
      let n : length (found ++ b) ≡ s + length b = length-append found b ∙ ap (λ m. m + length b) many in
      sym (take-append-drop (s + length b) old) ∙ (λ i. sym both i ++ drop (sym n i) old)

  pub left_more : later ≡ in_front (left ++ a) old
  left_more =
      let front : take s now ≡ left = ap (take s) are ∙ take_at left (drop (length left) old) s many' in
      let rest : drop (s + length a) now ≡ drop (s + length a) old = sym (drop-drop (length a) s now) ∙ ap (drop (length a)) rest_same ∙ drop-drop (length a) s old in
      let n : s + length a ≡ length (left ++ a) = sym (length-append left a ∙ ap (λ m. m + length a) many') in
      later_is ∙ (λ i. front i ++ (a ++ (rest ∙ ap (λ m. drop m old) n) i)) ∙ sym (append_assoc left a _)

module _ {C : Type 0} {K : Kind C} where
  -- the calls were made one after the other, and the bay then came to q with the legs l
  abbrev pub Chain : Plain K → List Leg → List (Made C) → Plain K → List Leg → Type 0
  Chain p legs [] q l = (q ≡ p) × (l ≡ legs)
  Chain p legs (m ∷ ms) q l = (p' : Plain K) × (legs' : List Leg) × Called p p' legs legs' m × Chain p' legs' ms q l

  pub chain_more : (p q q' : Plain K) (legs l l' : List Leg) (ms : List (Made C)) (m : Made C) → Chain p legs ms q l → Called q q' l l' m → Chain p legs (ms ++ m ∷ []) q' l'
  chain_more p q q' legs l l' [] m (e, f) called = (q', l', subst₂ (λ x y. Called x q' y l' m) e f called, (refl, refl))
  chain_more p q q' legs l l' (x ∷ ms) m (p', legs', first, rest) called = (p', legs', first, chain_more p' q q' legs' l l' ms m rest called)

  pub chain_given : (p q : Plain K) (legs l : List Leg) (ms : List (Made C)) → Chain p legs ms q l → OneAfterOther p legs ms
  chain_given p q legs l [] chain = tt
  chain_given p q legs l (m ∷ ms) (p', legs', first, rest) = (p', legs', first, chain_given p' q legs' l ms rest)

  pub chain_plain : (p q : Plain K) (legs l : List Leg) (ms : List (Made C)) → Chain p legs ms q l → q ≡ plain_after p (map call_of ms)
  chain_plain p q legs l [] chain = chain.0
  chain_plain p q legs l (m ∷ ms) (p', legs', first, rest) = chain_plain p' q legs' l ms rest ∙ ap (λ x. plain_after x (map call_of ms)) first.plain_is

  pub chain_legs : (p q : Plain K) (legs l : List Leg) (ms : List (Made C)) → Chain p legs ms q l → l ≡ legs_after legs ms
  chain_legs p q legs l [] chain = chain.1
  chain_legs p q legs l (m ∷ ms) (p', legs', first, rest) =
      chain_legs p' q legs' l ms rest ∙ ap (λ x. legs_after x ms) (told p legs legs' m.call m.answer m.before m.after _ refl p' first).1

  -- no call changes the number of formats
  after_size : (v : Option Code) (p q : Plain K) → q.register.size ≡ p.register.size → (after v p q).register.size ≡ p.register.size
  after_size None p q e = e
  after_size (Some c) p q e = refl

  granted_size : (p : Plain K) (call : Call C) → (granted p call).register.size ≡ p.register.size
  granted_size p (Enter a b x) = refl
  granted_size p (Withdraw a b) = refl
  granted_size p (Book a b) = refl
  granted_size p (Strike k) = refl
  granted_size p (Show k) = refl
  granted_size p Route = refl
  granted_size p (Fork a b c) = refl

  step_size : (p : Plain K) (call : Call C) → (step p call).register.size ≡ p.register.size
  step_size p call = after_size _ p _ (granted_size p call)

  pub chain_leaves : (p q : Plain K) (legs l : List Leg) (ms : List (Made C)) (size : ℕ) → p.register.size ≡ size → Chain p legs ms q l → All (Leaves size) ms
  chain_leaves p q legs l [] size e chain = All-nil (Leaves size)
  chain_leaves p q legs l (m ∷ ms) size e (p', legs', first, rest) =
      All-cons (Leaves size) m ms (told p legs legs' m.call m.answer m.before m.after size e p' first).2
      (chain_leaves p' q legs' l ms size (ap (λ x. x.register.size) first.plain_is ∙ step_size p m.call ∙ e) rest)

-- the table goes on to one more call
pub passes_more : {C : Type 0} (table now later : List (Cell C)) (ms : List (Made C)) (m : Made C) → PassesOn table ms now → m.before.table ≡ now → later ≡ m.after.table → PassesOn table (ms ++ m ∷ []) later
passes_more table now later [] m e was is = (was ∙ e, is)
passes_more table now later (x ∷ ms) m (first, rest) was is = (first, passes_more x.after.table now later ms m rest was is)

-- one more answer, at its place
pub answers_more : {X : Type 0} (front old now : List X) (i : ℕ) (x : X) → length front ≡ i → i < length old → now ≡ in_front front old → set now i x ≡ in_front (front ++ x ∷ []) old
answers_more front old now i x e h are =
    let rest : drop (length front) old ≡ get_or old i x ∷ drop (suc i) old = ap (λ n. drop n old) e ∙ drop-cons old i x h in
    let n : suc i ≡ length (front ++ x ∷ []) = omega (arith, length-append front (x ∷ [])) in
    (λ j. set (are j) (sym e j) x) ∙ ap (λ l. set (front ++ l) (length front) x) rest ∙ set-append_seam front (get_or old i x) (drop (suc i) old) x ∙
    sym (append_assoc front (x ∷ []) (drop (suc i) old)) ∙ ap (λ k. (front ++ x ∷ []) ++ drop k old) n

-- one more call
pub flat_more : {C X : Type 0} (f : Made C → List X) (ms : List (Made C)) (m : Made C) → flat_map f (ms ++ m ∷ []) ≡ flat_map f ms ++ f m
flat_more f ms m = flat_map-append f ms (m ∷ []) ∙ ap (λ l. flat_map f ms ++ l) (append-nil (f m))

module _ {C : Type 0} {K : Kind C} (p : Plain K) (legs : List Leg) (table : List (Cell C)) (costs : List C) (chains : List ℕ) (answers : List Answer) (calls : List (Call C)) where
  -- the first i calls were made, and their routes have so many parts
  pub record RanTo (i part : ℕ) (q : Plain K) (l : List Leg) (table' : List (Cell C)) (costs' : List C) (chains' : List ℕ) (answers' : List Answer) : Type 0 where
    pub made : List (Made C)
    pub calls_are : map call_of made ≡ take i calls
    pub parts_are : part ≡ parts (take i calls)
    pub chain : Chain p legs made q l
    pub whole : All InWholePart made
    pub answers_are : answers' ≡ in_front (map answer_of made) answers
    pub passes : PassesOn table made table'
    pub costs_were : costs ≡ in_front (costs_found made) costs
    pub costs_are : costs' ≡ in_front (costs_left made) costs
    pub costs_many : (length (costs_found made) ≡ most_legs * part) × (length (costs_left made) ≡ most_legs * part)
    pub chains_were : chains ≡ in_front (chains_found made) chains
    pub chains_are : chains' ≡ in_front (chains_left made) chains
    pub chains_many : (length (chains_found made) ≡ part_bytes * part) × (length (chains_left made) ≡ part_bytes * part)

  pub ran_none : RanTo 0 0 p legs table costs chains answers
  ran_none = record {
    made = [];
    calls_are = refl;
    parts_are = refl;
    chain = (refl, refl);
    whole = All-nil InWholePart;
    answers_are = refl;
    passes = refl;
    costs_were = refl;
    costs_are = refl;
    costs_many = (refl, refl);
    chains_were = refl;
    chains_are = refl;
    chains_many = (refl, refl);
  }

  pub ran_all : (i part : ℕ) (q : Plain K) (l : List Leg) (table' : List (Cell C)) (costs' : List C) (chains' : List ℕ) (answers' : List Answer) → length calls ≤ i →
      RanTo i part q l table' costs' chains' answers' → Ran p q legs l calls answers answers' (buffers table costs chains) (buffers table' costs' chains')
  ran_all i part q l table' costs' chains' answers' all r =
      let calls_are = r.calls_are ∙ take_all i calls all in
      record {
        made = r.made;
        calls_are = calls_are;
        law = one_by_one K p legs r.made (chain_given p q legs l r.made r.chain);
        plain_is = chain_plain p q legs l r.made r.chain ∙ ap (plain_after p) calls_are;
        legs_are = chain_legs p q legs l r.made r.chain;
        answers_are = r.answers_are;
        whole = r.whole;
        leaves = chain_leaves p q legs l r.made p.register.size refl r.chain;
        table = r.passes;
        costs_were = r.costs_were;
        costs_are = r.costs_are;
        chains_were = r.chains_were;
        chains_are = r.chains_are;
      }

  -- one turn of the loop over the calls
  module _ (i part : ℕ) (q q' : Plain K) (l l' : List Leg) (table' table'' : List (Cell C)) (costs' costs'' : List C) (chains' chains'' : List ℕ) (answers' : List Answer)
      (call : Call C) (answer : Answer) (byte : ℕ) (byte_is : byte ≡ count call) (inside : i < length calls) (is : call ≡ get_or calls i call) (room : length calls ≤ length answers)
      (r : RanTo i part q l table' costs' chains' answers')
      (d : InPart q q' l l' part call answer (buffers table' costs' chains') (buffers table'' costs'' chains'')) (fits : takes_part call ≡ true → (most_legs * part + most_legs ≤ length costs') × (part_bytes * part + part_bytes ≤ length chains')) where
    more_calls : take (i + 1) calls ≡ take i calls ++ call ∷ []
    more_calls = take_more calls i call inside ∙ ap (λ c. take i calls ++ c ∷ []) (sym is)

    -- what a call finds in its part of a sheet is as long as the part
    found_part : {X : Type 0} (w : ℕ) (now b : List X) → (takes_part call ≡ true → w * part + w ≤ length now) → b ≡ own call (take w (drop (w * part) now)) →
        (b ≡ take (length b) (drop (w * part) now)) × (w * part + length b ≡ w * (part + byte))
    found_part w now b room e = by_test (takes_part call) refl
      where
        by_test : (t : Bool) → takes_part call ≡ t → (b ≡ take (length b) (drop (w * part) now)) × (w * part + length b ≡ w * (part + byte))
        by_test true t =
            let whole : b ≡ take w (drop (w * part) now) = e ∙ own_all call _ t in
            let long : length b ≡ w = ap length whole ∙ length-take-le w (drop (w * part) now) (omega (arith, length-drop (w * part) now, room t)) in
            let one : count call ≡ 1 = rw t in
            (whole ∙ ap (λ n. take n (drop (w * part) now)) (sym long), omega (arith, long, ap (λ n. w * (part + n)) (byte_is ∙ one)))
        by_test false t =
            let none : b ≡ [] = e ∙ own_none call _ t in
            let zero : count call ≡ 0 = rw t in
            (subst (λ x. x ≡ take (length x) (drop (w * part) now)) (sym none) refl, omega (arith, ap length none, ap (λ n. w * (part + n)) (byte_is ∙ zero)))

    long_made : length (map answer_of r.made) ≡ i
    long_made = length-map r.made answer_of ∙ sym (length-map r.made call_of) ∙ ap length r.calls_are ∙ length-take-le i calls (omega arith)

    own_same : {X : Type 0} (xs : List X) → own d.made.call xs ≡ own call xs
    own_same xs = ap (λ c. own c xs) d.call_is

    -- a call that works in a part found a whole one
    whole_made : InWholePart d.made
    whole_made = whole_by d.made.call d.made.before (λ t.
        let taken : takes_part call ≡ true = sym (ap takes_part d.call_is) ∙ t in (
          ap length (own_same d.made.before.costs ∙ d.costs_were ∙ own_all call _ taken) ∙ length-take-le most_legs (drop (most_legs * part) costs') (omega (arith, length-drop (most_legs * part) costs', (fits taken).0)),
          ap length (own_same d.made.before.chains ∙ d.chains_were ∙ own_all call _ taken) ∙ length-take-le part_bytes (drop (part_bytes * part) chains') (omega (arith, length-drop (part_bytes * part) chains', (fits taken).1)),
        ))

    pub ran_more : RanTo (i + 1) (part + byte) q' l' table'' costs'' chains'' (set answers' i answer)
    ran_more =
        let m = d.made in
        let costs_b = found_part most_legs costs' (own m.call m.before.costs) (λ t. (fits t).0) (own_same m.before.costs ∙ d.costs_were) in
        let chains_b = found_part part_bytes chains' (own m.call m.before.chains) (λ t. (fits t).1) (own_same m.before.chains ∙ d.chains_were) in
        let costs_long : length (own m.call m.after.costs) ≡ length (own m.call m.before.costs) = ap length (own_same m.after.costs) ∙ d.costs_long ∙ sym (ap length (own_same m.before.costs)) in
        let chains_long : length (own m.call m.after.chains) ≡ length (own m.call m.before.chains) = ap length (own_same m.after.chains) ∙ d.chains_long ∙ sym (ap length (own_same m.before.chains)) in
        let costs_put = d.costs_are ∙ ap (λ a. put_at (most_legs * part) a costs') (sym (own_same m.after.costs)) in
        let chains_put = d.chains_are ∙ ap (λ a. put_at (part_bytes * part) a chains') (sym (own_same m.after.chains)) in
        let found_costs = flat_more (λ x. own x.call x.before.costs) r.made m in
        let left_costs = flat_more (λ x. own x.call x.after.costs) r.made m in
        let found_chains = flat_more (λ x. own x.call x.before.chains) r.made m in
        let left_chains = flat_more (λ x. own x.call x.after.chains) r.made m in
        record {
          made = r.made ++ m ∷ [];
          calls_are = map-append call_of r.made (m ∷ []) ∙ (λ j. r.calls_are j ++ d.call_is j ∷ []) ∙ sym more_calls;
          parts_are = (λ j. r.parts_are j + byte_is j) ∙ sym (ap parts more_calls ∙ sum_by_push count (take i calls) call);
          chain = chain_more p q q' legs l l' r.made m r.chain d.called;
          whole = All-push InWholePart r.made m r.whole whole_made;
          answers_are = answers_more (map answer_of r.made) answers answers' i answer long_made (omega arith) r.answers_are ∙
              ap (λ xs. in_front xs answers) (sym (map-append answer_of r.made (m ∷ []) ∙ (λ j. map answer_of r.made ++ d.answer_is j ∷ [])));
          passes = passes_more table table' table'' r.made m r.passes d.table_was d.table_is;
          costs_were = found_more (most_legs * part) _ _ costs costs' r.costs_many.0 r.costs_many.1 r.costs_were r.costs_are _ _ costs'' costs_b.0 costs_long costs_put ∙ ap (λ xs. in_front xs costs) (sym found_costs);
          costs_are = left_more (most_legs * part) _ _ costs costs' r.costs_many.0 r.costs_many.1 r.costs_were r.costs_are _ _ costs'' costs_b.0 costs_long costs_put ∙ ap (λ xs. in_front xs costs) (sym left_costs);
          costs_many = (
            ap length found_costs ∙ length-append (costs_found r.made) _ ∙ ap (λ n. n + length (own m.call m.before.costs)) r.costs_many.0 ∙ costs_b.1,
            ap length left_costs ∙ length-append (costs_left r.made) _ ∙ (λ j. r.costs_many.1 j + costs_long j) ∙ costs_b.1,
          );
          chains_were = found_more (part_bytes * part) _ _ chains chains' r.chains_many.0 r.chains_many.1 r.chains_were r.chains_are _ _ chains'' chains_b.0 chains_long chains_put ∙ ap (λ xs. in_front xs chains) (sym found_chains);
          chains_are = left_more (part_bytes * part) _ _ chains chains' r.chains_many.0 r.chains_many.1 r.chains_were r.chains_are _ _ chains'' chains_b.0 chains_long chains_put ∙ ap (λ xs. in_front xs chains) (sym left_chains);
          chains_many = (
            ap length found_chains ∙ length-append (chains_found r.made) _ ∙ ap (λ n. n + length (own m.call m.before.chains)) r.chains_many.0 ∙ chains_b.1,
            ap length left_chains ∙ length-append (chains_left r.made) _ ∙ (λ j. r.chains_many.1 j + chains_long j) ∙ chains_b.1,
          );
        }

-- where no cause holds, the sheets have a part for each call that works in one, and there is a place for each answer
pub record Roomy {C : Type 0} (calls : List (Call C)) (entries bytes places : ℕ) : Type 0 where
  pub costs : most_legs * parts calls ≤ entries
  pub chains : part_bytes * parts calls ≤ bytes
  pub answers : length calls ≤ places

pub run_room : {C : Type 0} (calls : List (Call C)) (entries bytes answers : ℕ) → None ≡ first_cause (run_causes calls entries bytes answers) → Roomy calls entries bytes answers
run_room calls entries bytes answers = go (ltb entries (most_legs * parts calls)) (ltb bytes (part_bytes * parts calls)) (ltb answers (length calls)) refl refl refl
  where
    go : (p q r : Bool) → ltb entries (most_legs * parts calls) ≡ p → ltb bytes (part_bytes * parts calls) ≡ q → ltb answers (length calls) ≡ r →
        None ≡ cond p (Some (code Bay 15 1)) (cond q (Some (code Bay 15 2)) (cond r (Some (code Bay 15 3)) None)) → Roomy calls entries bytes answers
    go true q r a b c e = absurd (none≢some e)
    go false true r a b c e = absurd (none≢some e)
    go false false true a b c e = absurd (none≢some e)
    go false false false a b c e = record { costs = ltb-false _ _ a; chains = ltb-false _ _ b; answers = ltb-false _ _ c }

-- no more parts are taken than a list of calls takes in all
pub parts_front : {C : Type 0} (calls : List (Call C)) (i : ℕ) (call : Call C) → i < length calls → call ≡ get_or calls i call → parts (take i calls) + count call ≤ parts calls
parts_front calls i call h is =
    let more = ap parts (take_more calls i call h ∙ ap (λ c. take i calls ++ c ∷ []) (sym is)) ∙ sum_by_push count (take i calls) call in
    let whole = ap parts (sym (take-append-drop (i + 1) calls)) ∙ sum_by-append count (take (i + 1) calls) (drop (i + 1) calls) in
    omega (arith, more, whole)

-- a call of the list that works in a part finds room for it
pub part_room : {C : Type 0} (calls : List (Call C)) (i part : ℕ) (call : Call C) (w total : ℕ) → part ≡ parts (take i calls) → i < length calls → call ≡ get_or calls i call → w * parts calls ≤ total →
    takes_part call ≡ true → w * part + w ≤ total
part_room calls i part call w total here h is fits taken =
    let one : count call ≡ 1 = rw taken in
    let last : part + 1 ≤ parts calls = omega (arith, parts_front calls i call h is, one) in
    omega (arith, mul-le-mul_left w last)

pub byte_of : {C : Type 0} (call : Call C) (t : Bool) → t ≡ takes_part call → bool_byte t ≡ count call
byte_of call true e = rw (sym e)
byte_of call false e = rw (sym e)

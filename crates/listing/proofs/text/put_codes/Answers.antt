use Rattle.std.proofs.Common.{◌≡◌, ℕ, ◌+◌, ◌*◌, ◌<◌, ◌≤◌, List, [], ◌++◌, length, get_or, take, codes, sym, ap, ◌∙◌, arith}
use Rattle.std.specs.List.{flat_map}
use Rattle.std.proofs.lemmas.List.{take_all, take_more, flat_map_more}
use Rattle.listing.specs.Text.{fourcc_text, fourccs_text}
use Rattle.listing.proofs.Lengths.{two_long}
use Rattle.listing.proofs.Writing.{writes_both, writes_is}
use Rattle.listing.proofs.text.put_codes.Goals as goal

-- the codes after the first, one more
codes_more : (fourccs : List (List ℕ)) (rest : List ℕ) (i : ℕ) → i < length rest →
    flat_map (λ g. codes " " ++ fourcc_text fourccs g) (take (i + 1) rest) ≡ flat_map (λ g. codes " " ++ fourcc_text fourccs g) (take i rest) ++ (codes " " ++ fourcc_text fourccs (get_or rest i 0))
codes_more fourccs rest i h =
    ap (flat_map (λ g. codes " " ++ fourcc_text fourccs g)) (take_more rest i 0 h) ∙ sym (flat_map_more (λ g. codes " " ++ fourcc_text fourccs g) [] (take i rest) (get_or rest i 0))

pub loop-format-preserved : goal.loop-format-preserved
loop-format-preserved c =
    let fourccs = c.args.codes.now in
    let others = c.in-Some.others.now in
    let i = c.loop-format.format-index in
    let more = codes_more fourccs others i c.loop-format-test.true in
    let so_far = flat_map (λ g. codes " " ++ fourcc_text fourccs g) (take i others) in
    let next = codes " " ++ fourcc_text fourccs (get_or others i 0) in
    let put : length (so_far ++ next) ≤ 5 * i + 5 = two_long so_far next (5 * i) 5 c.loop-format.invariant.short (omega (arith, c.put_code-in-loop-format.ensures.short)) in
    record {
      written = writes_is (sym more) (writes_both c.loop-format.invariant.written (writes_both c.put.ensures c.put_code-in-loop-format.ensures.written));
      short = omega (arith, put, ap length more);
    }

pub returns-clause-written : goal.returns-clause-written
returns-clause-written c =
    let fourccs = c.args.codes.now in
    let others = c.in-Some.others.now in
    writes_is
    (ap (λ fs. fourcc_text fourccs c.in-Some.first.now ++ flat_map (λ g. codes " " ++ fourcc_text fourccs g) fs) (take_all c.loop-format.format-index others c.loop-format-test.false)
    ∙ ap (fourccs_text fourccs) (sym c.in-Some.ensures.cases.0))
    (writes_both c.put_code.ensures.written c.loop-format.invariant.written)

pub returns-clause-short : goal.returns-clause-short
returns-clause-short c =
    let fourccs = c.args.codes.now in
    let others = c.in-Some.others.now in
    let i = c.loop-format.format-index in
    let first = fourcc_text fourccs c.in-Some.first.now in
    let rest = flat_map (λ g. codes " " ++ fourcc_text fourccs g) (take i others) in
    let both : length (first ++ rest) ≤ 4 + 5 * i = two_long first rest 4 (5 * i) c.put_code.ensures.short c.loop-format.invariant.short in
    let text_is =
    ap (λ fs. first ++ flat_map (λ g. codes " " ++ fourcc_text fourccs g) fs) (take_all i others c.loop-format-test.false)
    ∙ ap (fourccs_text fourccs) (sym c.in-Some.ensures.cases.0) in
    omega (arith, both, ap length text_is, ap length c.in-Some.ensures.cases.0)

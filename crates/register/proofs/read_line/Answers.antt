use Rattle.scan.proofs.Laws.{nth_next, firsts}
use Rattle.register.proofs.Laws.{is_comment_lem, is_few, is_four, is_five}
use mathlib.Core.Path.{◌≡◌, sym, ◌∙◌}
use native.Mathlib.Omega.{arith}
use lib.ListN.{length}
use Rattle.scan.specs.Scan.{tokens}
use Rattle.register.proofs.read_line.Goals as goal

pub returns-then-is_comment : goal.returns-then-is_comment
returns-then-is_comment c = sym (is_comment_lem _ (sym c.is_comment.ensures ∙ c.if-is_comment.true))

pub returns-then-is_empty : goal.returns-then-is_empty
returns-then-is_empty c = let n = firsts c.args.s.now c.token-a.result c.token-b.result c.token-c.result c.token-d.result c.token-a.ensures c.token-b.ensures c.token-c.ensures c.token-d.ensures in
    sym (is_few c.args.s.now (sym c.is_comment.ensures ∙ c.if-is_comment.false) (omega (arith, n.n3.missing (sym c.is_empty.ensures ∙ c.if-is_empty.true))))

pub returns-then-is_empty-2 : goal.returns-then-is_empty-2
returns-then-is_empty-2 c = let s = c.args.s.now in
    let n = firsts c.args.s.now c.token-a.result c.token-b.result c.token-c.result c.token-d.result c.token-a.ensures c.token-b.ensures c.token-c.ensures c.token-d.ensures in
    let n4 = nth_next n.n3 c.token-e.result c.token-e.ensures in
    let l : length (tokens s) ≡ 4 = omega (arith, n.n3.there (sym c.is_empty.ensures ∙ c.if-is_empty.false), n4.missing (sym c.is_empty-2.ensures ∙ c.if-is_empty-2.true)) in
    c.four_tokens.ensures ∙ is_four s (sym c.is_comment.ensures ∙ c.if-is_comment.false) l _ _ _ n.n0.text n.n1.text n.n3.text

pub returns : goal.returns
returns c = let s = c.args.s.now in
    let n = firsts c.args.s.now c.token-a.result c.token-b.result c.token-c.result c.token-d.result c.token-a.ensures c.token-b.ensures c.token-c.ensures c.token-d.ensures in
    let n4 = nth_next n.n3 c.token-e.result c.token-e.ensures in
    c.five_tokens.ensures ∙ is_five s (sym c.is_comment.ensures ∙ c.if-is_comment.false) (n4.there (sym c.is_empty-2.ensures ∙ c.if-is_empty-2.false)) _ _ _ _ _ n.n0.text n.n1.text n.n2.text n.n3.text n4.text

use Rattle.std.proofs.Common.{rules, arith, ◌≡◌, ℕ, ◌≤◌, ◌+◌, List, ◌++◌, length, take, subst, sym, ap, ◌∙◌, length-take-le}
use Rattle.std.specs.Prelude.{Option}
use Rattle.std.specs.Io.KnownBytes.{Consumes}
use Rattle.std.proofs.KnownBytes.{Consumes-trans}
use Rattle.std.proofs.Math.Seq.{take-append-add}
use Rattle.std.proofs.lemmas.List.{take-append-le}
use borrow.Rule.Slice.PartMut.{put_mid, post_of}
use Rattle.input.proofs.read_full.Goals as goal

-- k bytes more, read after the first n
more_read : (a b d : Option (List ℕ)) (n k m room : ℕ) (xs ys : List ℕ) → n + k ≡ m → n ≤ length xs → k ≤ length ys → Consumes a b (take n xs) → Consumes b d (take k ys)
    → Consumes a d (take m (put_mid n room xs ys))
more_read a b d n k m room xs ys same within fits before read =
    let after = post_of n room xs in
    let split = subst (λ (j : ℕ). take (j + k) (take n xs ++ (ys ++ after)) ≡ take n xs ++ take k (ys ++ after)) (length-take-le n xs within) (take-append-add (take n xs) (ys ++ after) k) in
    let joined = split ∙ ap (λ (l : List ℕ). take n xs ++ l) (take-append-le k ys after fits) in
    subst (λ (j : ℕ). Consumes a d (take j (put_mid n room xs ys))) same (subst (Consumes a d) (sym joined) (Consumes-trans a b d _ _ before read))

pub returns-then-more-eq0-clause-bytes : goal.returns-then-more-eq0-clause-bytes
returns-then-more-eq0-clause-bytes g c =
    more_read _ _ _ c.loop-n.n c.in_ok-more.more _ _ c.loop-n.text c.read.new.buf (omega arith) c.loop-n.invariant.within c.in_ok-more.ensures.bound.0 c.loop-n.invariant.bytes c.in_ok-more.ensures.bytes.0

pub loop-n-preserved : goal.loop-n-preserved
loop-n-preserved g c = record {
  within = search rules;
  bytes = more_read _ _ _ c.loop-n.n c.in_ok-more.more _ _ _ _ (omega arith) c.loop-n.invariant.within c.in_ok-more.ensures.bound.0 c.loop-n.invariant.bytes c.in_ok-more.ensures.bytes.0;
}

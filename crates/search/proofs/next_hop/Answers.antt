use Rattle.search.proofs.Laws.{hop_past, hop_over, hop_found}
use native.Mathlib.Omega.{arith}
use Rattle.search.proofs.next_hop.Goals as goal

pub returns-then-place-gt65535 : goal.returns-then-place-gt65535
returns-then-place-gt65535 c = hop_past _ _ _ _ c.if-place-gt65535.true

pub returns-then-entries-i : goal.returns-then-entries-i
returns-then-entries-i c = let a = c.args in
    hop_over a.entries.now a.stand.place a.stand.adapter a.stand.hop_id _ (omega arith) (omega arith) c.seek-i.ensures (λ l. absurd (omega arith))

pub returns-then-w-owner : goal.returns-then-w-owner
returns-then-w-owner c = let a = c.args in
    hop_over a.entries.now a.stand.place a.stand.adapter a.stand.hop_id _ (omega arith) (omega arith) c.seek-i.ensures (λ l. c.if-w-owner.true)

pub returns : goal.returns
returns c = let a = c.args in
    rw c.out_of.ensures (hop_found a.entries.now a.stand.place a.stand.adapter a.stand.hop_id _ (omega arith) (omega arith) c.seek-i.ensures c.if-entries-i.false c.if-w-owner.false)

use Prim.Native.Nat.{◌*◌, ◌/◌}
use lib.ListN.{length}
use lib.Seq.{length-take-le}
use mathlib.Core.Path.{sym, ◌∙◌, ap}
use native.Mathlib.Omega.{arith}
use Rattle.groups.specs.Group.{words}
use Rattle.dump.specs.Sort.{sort}
use Rattle.dump.specs.Work.{fours, head}
use Rattle.dump.proofs.Groups.{back_part, both_parts, sorted_halves, sorted_pair}
use Rattle.dump.proofs.+sort.Goals as goal

pub sort_groups-returns : goal.sort_groups-returns
sort_groups-returns t c =
    let x = c.args.a.now in
    let y = c.args.b.now in
    let h = length x / 8 * 4 in
    let f = c.sort_to in
    let f' = c.sort_to-2 in
    let s' = f'.ensures ∙ ap (λ l. words (sort head (fours l))) (back_part x f.new.a x h (omega arith) f.auto.a) in
    let e = both_parts y f.new.b f'.new.b h (omega (arith, c.requires.0)) f.auto.b f'.auto.b in
    let k = f.auto.b ∙ length-take-le h y (omega (arith, c.requires.0)) ∙ sym (length-take-le h x (omega arith)) in
    c.merge_halves.ensures ∙ sorted_halves x f.new.b f'.new.b _ h (omega arith) (omega arith) k e f.ensures s'

pub sort_to-returns-then-a-le8 : goal.sort_to-returns-then-a-le8
sort_to-returns-then-a-le8 t c =
    let x = c.args.a.now in
    let h = length x / 8 * 4 in
    c.merge_halves.ensures ∙ sorted_pair x h (omega arith) (omega arith) c.requires.1 (omega (arith, c.if-a-le8.true)) (omega (arith, c.requires.0, c.if-a-le8.true))

pub sort_to-returns : goal.sort_to-returns
sort_to-returns t c =
    let x = c.args.a.now in
    let h = length x / 8 * 4 in
    let f = c.sort_groups in
    let f' = c.sort_groups-2 in
    let s' = f'.ensures ∙ ap (λ l. words (sort head (fours l))) (back_part x f.new.a x h (omega arith) f.auto.a) in
    let e = both_parts x f.new.a f'.new.a h (omega arith) f.auto.a f'.auto.a in
    c.merge_halves-2.ensures ∙ sorted_halves x f.new.a f'.new.a _ h (omega arith) (omega arith) f.auto.a e f.ensures s'

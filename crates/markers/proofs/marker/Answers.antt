use mathlib.Core.Path.{◌∙◌, sym}
use Rattle.markers.specs.Markers.{marker_by}
use Rattle.scan.proofs.Laws.{firsts}
use Rattle.markers.proofs.Laws as laws
use Rattle.markers.proofs.marker.Goals as goal

pub returns-then-is_empty : goal.returns-then-is_empty
unfolding marker_by
returns-then-is_empty c = let n = firsts c.args.line.now c.token-a.result c.token-b.result c.token-c.result c.token-d.result c.token-a.ensures c.token-b.ensures c.token-c.ensures c.token-d.ensures in
    laws.marker_none n (sym c.is_empty.ensures ∙ c.if-is_empty.true)

pub returns-then-not-is_empty : goal.returns-then-not-is_empty
unfolding marker_by
returns-then-not-is_empty c = let n = firsts c.args.line.now c.token-a.result c.token-b.result c.token-c.result c.token-d.result c.token-a.ensures c.token-b.ensures c.token-c.ensures c.token-d.ensures in
    laws.marker_more n (sym c.is_empty-2.ensures ∙ c.if-not-is_empty.true)

pub returns-then-is_empty-2 : goal.returns-then-is_empty-2
returns-then-is_empty-2 c = let n = firsts c.args.line.now c.token-a.result c.token-b.result c.token-c.result c.token-d.result c.token-a.ensures c.token-b.ensures c.token-c.ensures c.token-d.ensures in
    c.plain.ensures ∙ laws.marker_one n (sym c.is_empty.ensures ∙ c.if-is_empty.false) (sym c.is_empty-3.ensures ∙ c.if-is_empty-2.true)

pub returns-then-is_empty-3 : goal.returns-then-is_empty-3
returns-then-is_empty-3 c = let n = firsts c.args.line.now c.token-a.result c.token-b.result c.token-c.result c.token-d.result c.token-a.ensures c.token-b.ensures c.token-c.ensures c.token-d.ensures in
    c.adapter.ensures ∙ laws.marker_two n (sym c.is_empty.ensures ∙ c.if-is_empty.false) (sym c.is_empty-3.ensures ∙ c.if-is_empty-2.false) (sym c.is_empty-4.ensures ∙ c.if-is_empty-3.true)

pub returns : goal.returns
returns c = let n = firsts c.args.line.now c.token-a.result c.token-b.result c.token-c.result c.token-d.result c.token-a.ensures c.token-b.ensures c.token-c.ensures c.token-d.ensures in
    c.device.ensures ∙ laws.marker_three n (sym c.is_empty.ensures ∙ c.if-is_empty.false) (sym c.is_empty-3.ensures ∙ c.if-is_empty-2.false) (sym c.is_empty-4.ensures ∙ c.if-is_empty-3.false) (sym c.is_empty-2.ensures ∙ c.if-not-is_empty.false)

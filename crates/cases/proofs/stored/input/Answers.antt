use Rattle.std.proofs.Common.{arith, ◌∙◌, sym, ap, length, drop, ◌/◌, ◌++◌}
use Rattle.std.proofs.Common.{length-take-le, length-append}
use Rattle.cases.proofs.Form.{stored_fits, input_dash, input_other, input_stored}
use Rattle.cases.proofs.stored.input.Goals as goal

pub returns-then-is_dash-clause-bytes : goal.returns-then-is_dash-clause-bytes
returns-then-is_dash-clause-bytes c = (input_dash c.args.hex.now c.args.out.now _ (sym c.if-is_dash.true ∙ c.is_dash.ensures)).0

pub returns-then-is_dash-clause-number : goal.returns-then-is_dash-clause-number
returns-then-is_dash-clause-number c = (input_dash c.args.hex.now c.args.out.now _ (sym c.if-is_dash.true ∙ c.is_dash.ensures)).1

pub slice_bounds-put_pairs-end : goal.slice_bounds-put_pairs-end
slice_bounds-put_pairs-end c = (stored_fits c.args.hex.now (length c.args.out.now) (sym c.if-is_stored.true ∙ c.is_stored.ensures)).1

pub slice_bounds-put_pairs-end-then-is_stored : goal.slice_bounds-put_pairs-end-then-is_stored
slice_bounds-put_pairs-end-then-is_stored c = sym (length-take-le (length c.args.hex.now / 2) c.args.out.now (stored_fits c.args.hex.now (length c.args.out.now) (sym c.if-is_stored.true ∙ c.is_stored.ensures)).1)

pub put_pairs-requires : goal.put_pairs-requires
put_pairs-requires c = let f = stored_fits c.args.hex.now (length c.args.out.now) (sym c.if-is_stored.true ∙ c.is_stored.ensures) in
    omega (arith, f.0, f.1, length-take-le (length c.args.hex.now / 2) c.args.out.now f.1)

pub returns-then-is_stored-clause-bytes : goal.returns-then-is_stored-clause-bytes
returns-then-is_stored-clause-bytes c = let f = stored_fits c.args.hex.now (length c.args.out.now) (sym c.if-is_stored.true ∙ c.is_stored.ensures) in
    ap (λ l. l ++ drop (length c.args.hex.now / 2) c.args.out.now) c.put_pairs.ensures ∙ (input_stored c.args.hex.now c.args.out.now (length c.args.out.now) (sym c.if-is_dash.false ∙ c.is_dash.ensures) (sym c.if-is_stored.true ∙ c.is_stored.ensures) f.1).0

pub returns-then-is_stored-clause-number : goal.returns-then-is_stored-clause-number
returns-then-is_stored-clause-number c = let f = stored_fits c.args.hex.now (length c.args.out.now) (sym c.if-is_stored.true ∙ c.is_stored.ensures) in
    (input_stored c.args.hex.now c.args.out.now (length c.args.out.now) (sym c.if-is_dash.false ∙ c.is_dash.ensures) (sym c.if-is_stored.true ∙ c.is_stored.ensures) f.1).1

pub returns-then-is_stored-clause-within : goal.returns-then-is_stored-clause-within
returns-then-is_stored-clause-within c = let f = stored_fits c.args.hex.now (length c.args.out.now) (sym c.if-is_stored.true ∙ c.is_stored.ensures) in
    omega (arith, length-append c.put_pairs.new.out (drop (length c.args.hex.now / 2) c.args.out.now), c.put_pairs.auto.out, length-take-le (length c.args.hex.now / 2) c.args.out.now f.1)

pub returns-clause-bytes : goal.returns-clause-bytes
returns-clause-bytes c = (input_other c.args.hex.now c.args.out.now (length c.args.out.now) (sym c.if-is_dash.false ∙ c.is_dash.ensures) (sym c.if-is_stored.false ∙ c.is_stored.ensures)).0

pub returns-clause-number : goal.returns-clause-number
returns-clause-number c = (input_other c.args.hex.now c.args.out.now (length c.args.out.now) (sym c.if-is_dash.false ∙ c.is_dash.ensures) (sym c.if-is_stored.false ∙ c.is_stored.ensures)).1

-- Laws on what a loaded survey answers of one adapter. Assumes nothing.
use Rattle.std.specs.Prelude.{Err, None, Ok, Result, Some, Option, ok_or}
use Rattle.std.specs.Result.{result_ok}
use Prim.Native.Nat.{ℕ, ◌<◌, ◌≤◌}
use native.Mathlib.Omega.{arith}
use mathlib.Core.Path.{◌≡◌, refl, sym, ap, ◌∙◌}
use mathlib.Core.Bool.{Bool, true, false, cond, ◌&&◌}
use mathlib.Core.List.{List, [], ◌∷◌}
use lib.Dec.{eqb}
use lib.ListN.{length}
use borrow.Author.Tests.{eqb-true}
use Rattle.std.proofs.lemmas.Option.{same_Some, none-some}
use Rattle.refusal.specs.Outcome.{Outcome, refused, value, bind}
use Rattle.refusal.specs.declared.Fault.TheVariants as fault
use Rattle.state.specs.State.{is_enabled}
use Rattle.adapter.specs.Adapter.{AdapterRow, adapter_site, facts_row, min_hop}
use Rattle.adapter.specs.declared.Facts.{Facts}
use Rattle.tables.specs.Rows.{EntryRow, Rows, DeviceRow, entry_in, adapter_in, device_in}
use Rattle.tables.specs.Packed.{entries_in, adapters_in}
use Rattle.tables.specs.Found.{EntrySought, adapter_found, AdapterSought}
use Rattle.tables.proofs.Laws.{device_past, device_here, has_number}
use Rattle.refusal.proofs.Laws.{refused_bind, not_refused}
use Rattle.load.specs.Loading.{loaded}
use Rattle.load.specs.Answers.{tables_rows, present, asked_device, asked_adapter}
use Rattle.load.proofs.Result.{tables_ended, tables_gone_on}
use Rattle.tables.specs.Tables.{rows_of, Tabled}
use Rattle.tables.specs.declared.Tables.{Tables}
use Rattle.refusal.specs.declared.Refusal.{Refusal}
use Rattle.refusal.specs.declared.Refusal.TheVariants as refusal
use Rattle.adapters.specs.Calls.{info_of, row_answer, path_answer, path_outcome}
use Rattle.adapters.specs.Work.{row_outcome}
use Rattle.refusal.specs.Refusal.{outcome, field_at}
use Rattle.refusal.specs.declared.Site.{Site}
use Rattle.refusal.specs.declared.FieldError.{FieldError}
use Rattle.adapter.specs.declared.EntryOut.{EntryOut}

-- by the tables that a survey was loaded to
module _ (q : Result Tables Refusal) (t s : List ℕ) (same : tables_rows q ≡ loaded t s) (p n : ℕ) where
  pub row_refused : (r : Refusal) → q ≡ Err r → row_outcome p (Err r) ≡ row_answer t s p n
  unfolding row_outcome row_answer
  row_refused r k = tables_ended q _ same (λ x. asked_adapter x p n) r k

  pub path_refused : (hop : ℕ) (r : Refusal) → q ≡ Err r → path_outcome p n hop (Err r) ≡ path_answer t s p n hop
  unfolding path_outcome path_answer
  path_refused hop r k = tables_ended q _ same (λ x. bind (asked_adapter x p n) (λ y. value (entry_in x.entries p n hop))) r k

  module _ (x : Tables) (k : q ≡ Ok x) where
    to_row : asked_adapter (rows_of x) p n ≡ row_answer t s p n
    unfolding row_answer
    to_row = sym (tables_gone_on q _ same (λ x. asked_adapter x p n) x k)

    abbrev by_device : Option DeviceRow → Outcome AdapterRow
    by_device o = bind (present o) (λ z. present (adapter_in (adapters_in x.adapters.now) p n))

    -- 14: there is no such device
    asked_past : length x.devices.now ≤ p → refused 14 [] ≡ asked_adapter (rows_of x) p n
    unfolding asked_adapter asked_device present bind rows_of
    asked_past h = ap (λ o. by_device o) (device_past 0 x.devices.now p h)

    pub row_past : length x.devices.now ≤ p → row_outcome p (Err refusal.Missing) ≡ row_answer t s p n
    unfolding row_outcome
    row_past h = asked_past h ∙ to_row

    module _ (hop : ℕ) where
      abbrev with_entry_lem : Outcome AdapterRow → Outcome (Option EntryRow)
      with_entry_lem o = bind o (λ y. value (entry_in (entries_in x.entries.now) p n hop))

      to_path : with_entry_lem (asked_adapter (rows_of x) p n) ≡ path_answer t s p n hop
      unfolding path_answer rows_of
      to_path = sym (tables_gone_on q _ same (λ x. bind (asked_adapter x p n) (λ y. value (entry_in x.entries p n hop))) x k)

      path_missing : refused 14 [] ≡ asked_adapter (rows_of x) p n → path_outcome p n hop (Err refusal.Missing) ≡ path_answer t s p n hop
      unfolding path_outcome bind
      path_missing g = ap (λ o. with_entry_lem o) g ∙ to_path

      pub path_past : length x.devices.now ≤ p → path_outcome p n hop (Err refusal.Missing) ≡ path_answer t s p n hop
      path_past h = path_missing (asked_past h)

    module _ (v : Tabled x) (h : p < length x.devices.now) (f : Option Facts) (g : AdapterSought x.adapters.now p n f) where
      -- the device is there, so the adapter is what is found of it
      asked_found : present (adapter_found p f) ≡ asked_adapter (rows_of x) p n
      unfolding asked_adapter asked_device present bind rows_of
      asked_found =
          ap (λ o. present o) (g.first (omega (arith, h, v.others.devices)) v.others.adapters)
          ∙ ap (λ o. by_device o) (device_here 0 x.devices.now p h).1

      nowhere : f ≡ None → refused 14 [] ≡ asked_adapter (rows_of x) p n
      unfolding present adapter_found
      nowhere j = ap (λ o. present (adapter_found p o)) (sym j) ∙ asked_found

      pub row_found : row_outcome p (ok_or f refusal.Missing) ≡ row_answer t s p n
      unfolding row_outcome present adapter_found
      row_found = go f asked_found ∙ to_row
        where
          go : (o : Option Facts) → present (adapter_found p o) ≡ asked_adapter (rows_of x) p n → row_outcome p (ok_or o refusal.Missing) ≡ asked_adapter (rows_of x) p n
          go (Some x) e = e
          go None e = e

      pub path_nowhere : f ≡ None → (hop : ℕ) → path_outcome p n hop (Err refusal.Missing) ≡ path_answer t s p n hop
      path_nowhere j hop = path_missing hop (nowhere j)

      module _ (y : Facts) (j : f ≡ Some y) where
        here : value (facts_row p y) ≡ asked_adapter (rows_of x) p n
        unfolding present adapter_found
        here = ap (λ o. present (adapter_found p o)) (sym j) ∙ asked_found

        pub path_found : (hop : ℕ) (w : Option EntryOut) → EntrySought x.entries.now p n hop w → path_outcome p n hop (Ok w) ≡ path_answer t s p n hop
        unfolding path_outcome bind
        path_found hop w b = ap (λ o. value o) (b.first (omega (arith, h, v.others.devices)) v.entries) ∙ ap (λ o. with_entry_lem hop o) here ∙ to_path hop

-- an adapter that is there has the number that was asked for
asked_number : (x : Rows) (p n : ℕ) (y : AdapterRow) → asked_adapter x p n ≡ value y → y.number ≡ n
unfolding asked_adapter asked_device present bind
asked_number x p n y e = go (device_in x.devices p) (adapter_in x.adapters p n) (has_number x.adapters p n y) e
  where
    go : (o : Option DeviceRow) (q : Option AdapterRow) → (q ≡ Some y → y.number ≡ n) → bind (present o) (λ d. present q) ≡ value y → y.number ≡ n
    go (Some d) (Some z) f g = f cc
    go (Some d) None f g = absurd (not_refused refusal.Missing y g)
    go None q f g = absurd (not_refused refusal.Missing y g)

-- by the row that was found
module _ (t s : List ℕ) (p n : ℕ) (r : Result Facts Refusal) (q : row_outcome p r ≡ row_answer t s p n) where
  pub row_number : (x : Facts) → r ≡ Ok x → n ≡ x.number
  unfolding row_outcome row_answer facts_row bind
  row_number x k = go (loaded t s) (sym q ∙ ap (row_outcome p) k)
    where
      go : (o : Outcome Rows) → bind o (λ z. asked_adapter z p n) ≡ value (facts_row p x) → n ≡ x.number
      go (value z) e = sym (asked_number z p n (facts_row p x) e)
      go (refused m vs) e = absurd (let z : ◌≡◌ {A = ℕ} 0 1 = cc in omega arith)

  module _ {A : Type 0} (f : AdapterRow → Outcome A) where
    pub row_ended : (z : Refusal) → r ≡ Err z → outcome (Err z) ≡ bind (row_answer t s p n) f
    unfolding row_outcome
    row_ended z k = sym (refused_bind z f) ∙ ap (λ (o : Outcome AdapterRow). bind o f) (sym (ap (row_outcome p) k) ∙ q)

    pub row_gone_on : (x : Facts) → r ≡ Ok x → f (facts_row p x) ≡ bind (row_answer t s p n) f
    unfolding row_outcome bind
    row_gone_on x k = ap (λ (o : Outcome AdapterRow). bind o f) (sym (ap (row_outcome p) k) ∙ q)

pub info_said : (p : ℕ) (x : Facts) (h : Option ℕ) → h ≡ min_hop x.kind → (b : Bool) → b ≡ is_enabled x.kind x.state
    → outcome (Ok (record { kind = x.kind; state = x.state; lane0 = x.lane0; lane1 = x.lane1; min_hop = h; enabled = b })) ≡ value (info_of (facts_row p x))
unfolding info_of facts_row
info_said p x h e b f =
    ap (λ o. value (record { kind = x.kind; state = x.state; lane0 = x.lane0; lane1 = x.lane1; min_hop = o; enabled = b })) e
    ∙ ap (λ o. value (record { kind = x.kind; state = x.state; lane0 = x.lane0; lane1 = x.lane1; min_hop = min_hop x.kind; enabled = o })) f

-- what a field of the adapter that was asked for says, or 6 with its place
pub field_said : {A : Type 0} (s : Site) (n : ℕ) → s.adapter ≡ n → (q : Result A FieldError) (o : Option A) → o ≡ result_ok q → (v : Result A Refusal) → v ≡ ok_or o (refusal.Fault (fault.NoField s)) → outcome v ≡ field_at (adapter_site s.place n) q
unfolding adapter_site
field_said {A} s n same q o e v f = ap outcome (f ∙ ap (λ w. ok_or w (refusal.Fault (fault.NoField s))) e) ∙ go q ∙ ap (λ a. field_at (adapter_site s.place a) q) same
  where
    go : (x : Result A FieldError) → outcome (ok_or (result_ok x) (refusal.Fault (fault.NoField s))) ≡ field_at s x
    go (Ok a) = refl
    go (Err z) = refl

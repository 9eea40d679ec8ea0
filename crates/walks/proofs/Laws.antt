-- Laws on the call for a single walk: a start that is refused, and one that is there. Assumes nothing.
use Prim.Native.Nat.{ℕ, ◌<◌}
use mathlib.Core.Bool.{Bool, true, false, true≢false}
use mathlib.Core.Path.{◌≡◌, refl, sym, ap, ◌∙◌, subst}
use mathlib.Core.List.{List, []}
use Rattle.std.specs.Prelude.{Option, None, Some, Ok, Err, Result}
use lib.ListN.{length}
use Rattle.refusal.specs.Outcome.{Outcome, refused, value, bind}
use Rattle.adapter.specs.Adapter.{AdapterRow}
use Rattle.tables.specs.Rows.{EntryRow, DeviceRow, Rows, adapter_in, device_in}
use Rattle.tables.specs.Packed.{adapters_in, devices_in}
use Rattle.load.specs.Loading.{loaded}
use Rattle.load.specs.Answers.{tables_rows, present, asked_device, asked_adapter}
use Rattle.refusal.specs.Refusal.{refused_by}
use Rattle.refusal.specs.declared.Refusal.{Refusal}
use Rattle.refusal.specs.declared.Refusal.TheVariants as refusal
use Rattle.refusal.proofs.Laws.{refused_bind}
use Rattle.walk.specs.Rule.{walk_from, in_room, WalkRule}
use Rattle.path.specs.Words.{words_needed, with_path, output_by}
use Rattle.path.specs.Put.{Put}
use Rattle.walks.specs.Calls.{single, path_answer, walk_answer, WalkDone}
use Rattle.refusal.specs.Refusal.{outcome}
use Rattle.tables.specs.declared.Stand.{Stand}
use Rattle.tables.specs.declared.Tables.{Tables}
use Rattle.tables.specs.Tables.{Sized, Tabled, rows_of}

-- ---- a refusal is no value

is_value : {A : Type 0} → Outcome A → Bool
is_value (refused n vs) = false
is_value (value a) = true

unfoldable pub nothing : {A B : Type 0} → A → Outcome B
nothing a = refused 0 []

pub refused_value : {A : Type 0} {n : ℕ} {vs : List ℕ} {a : A} → refused n vs ≡ value a → ⊥
unfolding is_value
refused_value e = true≢false (sym (ap is_value e))

no_value : {A : Type 0} (r : Refusal) (a : A) → refused_by r ≡ value a → ⊥
unfolding bind nothing
no_value {A} r a e = refused_value (ap (λ (o : Outcome A). bind o (nothing {A = A} {B = A})) (sym e) ∙ refused_bind r (nothing {A = A} {B = A}) ∙ e)

value_one : {A : Type 0} (a b : A) → value a ≡ value b → a ≡ b
value_one {A} a b e = ap of e
  where
    of : Outcome A → A
    of (refused n vs) = a
    of (value x) = x

-- what is refused is refused whatever would follow
away : {A B : Type 0} (o : Outcome Rows) (f : Rows → Outcome A) (k : Rows → A → Outcome B) (r : Refusal) → refused_by r ≡ bind o f → refused_by r ≡ bind o (λ x. bind (f x) (k x))
unfolding bind nothing
away {A} {B} (refused n vs) f k r e = sym (refused_bind r (nothing {A = A} {B = B})) ∙ ap (λ (o : Outcome A). bind o (nothing {A = A} {B = B})) e
away {A} {B} (value x) f k r e = sym (refused_bind r (k x)) ∙ ap (λ (o : Outcome A). bind o (k x)) e

-- nothing is written of what is refused
kept_by : (name : ℕ) (old : List ℕ) (o : Outcome (Option (List EntryRow))) → bind o nothing ≡ o → old ≡ output_by name o old
unfolding output_by bind nothing
kept_by name old (refused n vs) e = refl
kept_by name old (value o) e = absurd (refused_value e)

-- ---- the call

module _ (t v : List ℕ) (s : Stand) (out : List ℕ) where
  -- loading is refused, or the start isn't there
  pub turned_away : (r : Refusal) → refused_by r ≡ bind (loaded t v) (λ x. asked_adapter x s.place s.adapter) → WalkDone t v s out (Err r) out
  unfolding walk_answer path_answer bind
  turned_away r e = record {
    answers = sym (refused_bind r (in_room (words_needed single) (length out))) ∙ ap (λ (o : Outcome (Option (List EntryRow))). bind o (in_room (words_needed single) (length out))) w;
    writes = kept_by single out (path_answer t v s) (sym (ap (λ (o : Outcome (Option (List EntryRow))). bind o nothing) w) ∙ refused_bind r nothing ∙ w);
    kept = λ q. refl;
    walks = λ x y l a. absurd (no_value r y (e ∙ within x y l a));
  }
    where
      w : refused_by r ≡ path_answer t v s
      w = away (loaded t v) (λ x. asked_adapter x s.place s.adapter) (λ x y. walk_from x s) r e

      within : (x : Rows) (y : AdapterRow) → loaded t v ≡ value x → asked_adapter x s.place s.adapter ≡ value y → bind (loaded t v) (λ z. asked_adapter z s.place s.adapter) ≡ value y
      within x y l a = ap (λ (o : Outcome Rows). bind o (λ z. asked_adapter z s.place s.adapter)) l ∙ a

  -- the start is there
  module _ (tables : Tables) (d : DeviceRow) (y : AdapterRow) (l : loaded t v ≡ value (rows_of tables)) (h : asked_device (rows_of tables) s.place ≡ value d)
      (a : asked_adapter (rows_of tables) s.place s.adapter ≡ value y) where
    path_answer_lem : path_answer t v s ≡ walk_from (rows_of tables) s
    unfolding path_answer bind
    path_answer_lem = ap (λ (o : Outcome Rows). bind o (λ x. bind (asked_adapter x s.place s.adapter) (λ z. walk_from x s))) l ∙ ap (λ (o : Outcome AdapterRow). bind o (λ z. walk_from (rows_of tables) s)) a

    pub put_done : Sized tables → Tabled tables → s.place < 65536 → (r : Result (Option ℕ) Refusal) (out' : List ℕ) → Put tables s single out r out' → WalkDone t v s out r out'
    unfolding walk_answer
    put_done z k f r out' w = record {
      answers = w.answers z k f ∙ sym (ap (λ (o : Outcome (Option (List EntryRow))). bind o (in_room (words_needed single) (length out))) path_answer_lem);
      writes = w.writes z k f ∙ sym (ap (λ (o : Outcome (Option (List EntryRow))). output_by single o out) path_answer_lem);
      kept = w.kept;
      walks = λ x u m b. subst (λ (n : Rows). WalkRule n s (words_needed single) (length out) (λ hs. out' ≡ with_path single hs out) (outcome r)) (value_one _ _ (sym l ∙ m)) (w.walks z k d h);
    }

-- ---- the tables that loading answers

module _ (q : Result Tables Refusal) (o : Outcome Rows) (is : tables_rows q ≡ o) (t : Tables) (e : q ≡ Ok t) where
  pub rows_loaded : o ≡ value (rows_of t)
  unfolding tables_rows
  rows_loaded = sym is ∙ ap tables_rows e

  -- 14
  pub no_device : (p n : ℕ) → None ≡ device_in (devices_in t.devices.now) p → refused_by refusal.Missing ≡ bind o (λ x. asked_adapter x p n)
  unfolding asked_adapter asked_device present bind rows_of
  no_device p n f = ap (λ d. bind (present d) (λ z. present (adapter_in (rows_of t).adapters p n))) f ∙ sym (ap (λ w. bind w (λ x. asked_adapter x p n)) rows_loaded)

  pub no_adapter : (p n : ℕ) (z : DeviceRow) → Some z ≡ device_in (devices_in t.devices.now) p → None ≡ adapter_in (adapters_in t.adapters.now) p n → refused_by refusal.Missing ≡ bind o (λ x. asked_adapter x p n)
  unfolding asked_adapter asked_device present bind rows_of
  no_adapter p n z f h = ap present h ∙ ap (λ d. bind (present d) (λ w. present (adapter_in (rows_of t).adapters p n))) f ∙ sym (ap (λ w. bind w (λ x. asked_adapter x p n)) rows_loaded)

pub asked_device_lem : (t : Tables) (p : ℕ) (z : DeviceRow) → Some z ≡ device_in (devices_in t.devices.now) p → asked_device (rows_of t) p ≡ value z
unfolding asked_device present rows_of
asked_device_lem t p z f = sym (ap present f)

pub asked_adapter_lem : (t : Tables) (p n : ℕ) (z : DeviceRow) (y : AdapterRow) → Some z ≡ device_in (devices_in t.devices.now) p → Some y ≡ adapter_in (adapters_in t.adapters.now) p n → asked_adapter (rows_of t) p n ≡ value y
unfolding asked_adapter present rows_of bind
asked_adapter_lem t p n z y f h = ap (λ (o : Outcome DeviceRow). bind o (λ w. present (adapter_in (adapters_in t.adapters.now) p n))) (asked_device_lem t p z f) ∙ sym (ap present h)

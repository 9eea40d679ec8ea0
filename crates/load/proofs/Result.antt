-- Laws for the calls that load a survey and go on with its tables. Assumes nothing.
use Prim.Native.Nat.{ℕ}
use native.Mathlib.Omega.{arith}
use mathlib.Core.Path.{◌≡◌, refl, sym, ap, ◌∙◌, subst}
use mathlib.Core.List.{List}
use Rattle.std.specs.Prelude.{Result, Ok, Err, IfOk}
use Rattle.std.proofs.lemmas.Result.{IfOk-at_ok}
use Rattle.refusal.specs.Outcome.{Outcome, refused, value, bind}
use Rattle.refusal.specs.Refusal.{outcome, refused_by}
use Rattle.refusal.specs.declared.Refusal.{Refusal}
use Rattle.refusal.proofs.Laws.{refused_bind, ended, gone_on}
use Rattle.tables.specs.Rows.{Rows}
use Rattle.tables.specs.Tables.{rows_of, Fits, Tabled}
use Rattle.tables.specs.declared.Tables.{Tables}
use Rattle.tables.proofs.Laws.{rising_entries, rising_adapters}
use Rattle.load.specs.Loading.{loaded}
use Rattle.load.specs.Answers.{answered, LoadedBy, tables_rows, counts_of}
use Rattle.load.specs.declared.Counts.{Counts}
use Rattle.load.proofs.Order.{entries_rise, adapters_rise}

-- tables of what a survey loads to are in order, and no larger than a survey's
pub tables_in_order : (t : Tables) (x : Rows) (r : Result Unit Refusal) → rows_of t ≡ x → Fits t → LoadedBy r x → (u : Unit) → r ≡ Ok u → Fits t × Tabled t
unfolding LoadedBy rows_of
tables_in_order t x r e fits h u k =
    let l : LoadedBy (Ok u) x = subst (λ r. LoadedBy r x) k h in
    let is : loaded l.0 l.1 ≡ value (rows_of t) = l.2 ∙ ap (λ y. value y) (sym e) in (
      fits,
      record {
        entries = rising_entries t.entries.now (entries_rise l.0 l.1 _ is);
        others = record { adapters = rising_adapters t.adapters.now (adapters_rise l.0 l.1 _ is); devices = omega (arith, fits.sized.devices) };
      },
    )

-- what was loaded can be handed out
pub loaded_by : (t s : List ℕ) (r : Result Unit Refusal) (x : Rows) → answered (outcome r) x ≡ loaded t s → LoadedBy r x
unfolding LoadedBy bind
loaded_by t s (Ok u) x e = (t, s, sym e)
loaded_by t s (Err r) x e = omega arith

-- what is answered of a loaded survey, by what it loads to
module _ (q : Result Unit Refusal) (x : Rows) (o : Outcome Rows) (is : answered (outcome q) x ≡ o) where
  pub refused_so : (r : Refusal) → q ≡ Err r → refused_by r ≡ o
  refused_so r k = sym (refused_bind r (λ a. value x)) ∙ ap (λ p. answered (outcome p) x) (sym k) ∙ is

  pub loaded_so : (u : Unit) → q ≡ Ok u → value x ≡ o
  unfolding bind
  loaded_so u k = ap (λ p. answered (outcome p) x) (sym k) ∙ is

  pub counts_refused : (r : Refusal) → q ≡ Err r → outcome (Err r) ≡ bind o (λ y. value (counts_of y))
  counts_refused r k = sym (refused_bind r (λ y. value (counts_of y))) ∙ ap (λ p. bind p (λ y. value (counts_of y))) (refused_so r k)

  pub counts_answered : (u : Unit) → q ≡ Ok u → (c : Counts) → c ≡ counts_of x → outcome (Ok c) ≡ bind o (λ y. value (counts_of y))
  unfolding bind
  counts_answered u k c e = ap (λ n. value n) e ∙ ap (λ p. bind p (λ y. value (counts_of y))) (loaded_so u k)

-- what `?` does of `tables`, by what the survey loads to
module _ {B : Type 0} (q : Result Tables Refusal) (o : Outcome Rows) (is : tables_rows q ≡ o) (f : Rows → Outcome B) where
  pub tables_ended : (r : Refusal) → q ≡ Err r → outcome (Err r) ≡ bind o f
  unfolding tables_rows
  tables_ended r k = sym (refused_bind r f) ∙ ap (λ (w : Outcome Rows). bind w f) (sym (ap tables_rows k) ∙ is)

  pub tables_gone_on : (t : Tables) → q ≡ Ok t → bind o f ≡ f (rows_of t)
  unfolding tables_rows bind
  tables_gone_on t k = ap (λ (w : Outcome Rows). bind w f) (sym is ∙ ap tables_rows k)

-- tables that were answered are in order, and no larger than a survey's
pub tables_fit : (q : Result Tables Refusal) (t : Tables) → q ≡ Ok t → IfOk q (λ t. Fits t × Tabled t) → Fits t × Tabled t
tables_fit q t k h = IfOk-at_ok _ k h

-- what `?` does of `accept`, by what the survey loads to
module _ {B : Type 0} (q : Result Counts Refusal) (o : Outcome Rows) (is : outcome q ≡ bind o (λ x. value (counts_of x))) (f : Counts → Outcome B) where
  of_counts : bind (bind o (λ x. value (counts_of x))) f ≡ bind o (λ x. f (counts_of x))
  unfolding bind
  of_counts = go o
    where
      go : (w : Outcome Rows) → bind (bind w (λ x. value (counts_of x))) f ≡ bind w (λ x. f (counts_of x))
      go (refused n vs) = refl
      go (value x) = refl

  pub accept_ended : (r : Refusal) → q ≡ Err r → outcome (Err r) ≡ bind o (λ x. f (counts_of x))
  accept_ended r k = ended q _ is f r k ∙ of_counts

  pub accept_gone_on : (c : Counts) → q ≡ Ok c → f c ≡ bind o (λ x. f (counts_of x))
  accept_gone_on c k = sym (gone_on q _ is f c k) ∙ of_counts

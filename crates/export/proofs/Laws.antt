-- The outcomes of the exported calls that write. Assumes nothing.
use Prim.Native.Nat.{ℕ, ◌<◌}
use mathlib.Core.Path.{◌≡◌, refl, sym, ap, ◌∙◌, subst}
use mathlib.Core.Bool.{Bool, true, false, cond, true≢false}
use mathlib.Core.List.{List, [], ◌∷◌, ◌++◌}
use Rattle.std.specs.Prelude.{Option, None, Some, Err, Ok, Result}
use lib.Dec.{ltb}
use lib.ListN.{length, drop}
use Rattle.refusal.specs.Outcome.{Outcome, refused, value, bind}
use Rattle.dump.specs.Dump.{scratch_after, output_after, ReadDone}
use Rattle.text.specs.Text as text
use Rattle.adapter.specs.Adapter.{AdapterRow}
use Rattle.tables.specs.Rows.{Rows}
use Rattle.load.specs.Loading.{loaded}
use Rattle.load.specs.Answers.{asked_adapter}
use Rattle.tables.specs.declared.Stand.{Stand}
use Rattle.walk.specs.Rule.{WalkRule}
use Rattle.path.specs.Words.{words_needed, with_path}
use Rattle.walks.specs.Calls.{single, path_answer, walk_answer, WalkDone}
use Rattle.discoveries.specs.Calls.{DiscoverDone}
use Rattle.answers.specs.Said.{answered, padded, said, always, words_in, perhaps, one}
use Rattle.replies.specs.Replies.{hop_count_words}
use Rattle.export.specs.Exported.{DumpSaid, TextSaid, WalkSaid, DiscoverSaid}
use Rattle.export.proofs.Walks.{path_words_lem, endless_said, again_said}
use Rattle.refusal.specs.Refusal.{outcome, is_given}
use Rattle.refusal.specs.declared.Refusal.{Refusal}

module _ (s scratch output : List ℕ) where
  dump_kept : (o : Outcome ℕ) → answered (said (always one o)) ≡ false → (scratch_after o scratch ≡ scratch) × (output_after o s output ≡ output)
  unfolding answered said padded always one bind scratch_after output_after
  dump_kept (refused n vs) h = (refl, refl)
  dump_kept (value n) h = absurd (true≢false h)

  pub dump_said : (r : Result ℕ Refusal) (scratch' output' a : List ℕ) → ReadDone s scratch output r scratch' output' → a ≡ said (always one (outcome r)) → DumpSaid s scratch output scratch' output' a
  dump_said r scratch' output' a d e = record {
    says = e ∙ ap (λ o. said (always one o)) d.answers;
    clears = d.clears ∙ ap (λ o. scratch_after o scratch) d.answers;
    writes = d.writes ∙ ap (λ o. output_after o s output) d.answers;
    kept = λ h. let k = dump_kept (outcome r) (ap answered (sym e) ∙ h) in (d.clears ∙ k.0, d.writes ∙ k.1);
  }

in_room_lem : (n : ℕ) (new old : List ℕ) (b : Bool) → answered (said (always one (cond b (refused 2 (n ∷ [])) (value n)))) ≡ false → cond b old new ≡ old
unfolding answered said padded always one bind
in_room_lem n new old true h = refl
in_room_lem n new old false h = absurd (true≢false h)

text_kept : (o : Outcome (List ℕ)) (output : List ℕ) → answered (said (always one (bind o (text.in_room (length output))))) ≡ false → text.output_by o output ≡ output
unfolding bind text.in_room text.output_by
text_kept (refused n vs) output h = refl
text_kept (value ws) output h = in_room_lem (length ws) (ws ++ drop (length ws) output) output (ltb (length output) (length ws)) h

pub text_said : (t output : List ℕ) (r : Result ℕ Refusal) (output' a : List ℕ) → text.TextDone t output r output' → a ≡ said (always one (outcome r)) → TextSaid t output output' a
text_said t output r output' a d e =
    let says = e ∙ ap (λ o. said (always one o)) d.answers in
    record { says = says; writes = d.writes; kept = λ h. d.writes ∙ text_kept (text.survey_of t) output (ap answered (sym says) ∙ h) }

no_path_lem : (r : Result (Option ℕ) Refusal) → answered (said (perhaps hop_count_words (outcome r))) ≡ false → is_given r ≡ false
unfolding answered said padded perhaps words_in hop_count_words bind is_given
no_path_lem (Ok (Some n)) h = absurd (true≢false h)
no_path_lem (Ok None) h = refl
no_path_lem (Err e) h = refl

module _ (t v : List ℕ) (s : Stand) (output : List ℕ) (r : Result (Option ℕ) Refusal) (output' : List ℕ) (d : WalkDone t v s output r output') where
  rule : (x : Rows) (y : AdapterRow) → loaded t v ≡ value x → asked_adapter x s.place s.adapter ≡ value y
      → WalkRule x s (words_needed single) (length output) (λ hs. output' ≡ with_path single hs output) (walk_answer t v s (length output))
  rule x y l k = subst (λ o. WalkRule x s (words_needed single) (length output) (λ hs. output' ≡ with_path single hs output) o) d.answers (d.walks x y l k)

  pub walk_said_lem : (a : List ℕ) → length output < 18446744073709551616 → a ≡ said (perhaps hop_count_words (outcome r)) → WalkSaid t v s output output' a
  unfolding walk_answer
  walk_said_lem a h e =
      let counted = e ∙ ap (λ o. said (perhaps hop_count_words o)) d.answers in
      record {
        says = counted ∙ ap said (path_words_lem (path_answer t v s) (length output) h);
        writes = d.writes;
        kept = λ q. d.kept (no_path_lem r (ap answered (sym e) ∙ q));
        walks = rule;
        endless = λ x y l k. endless_said (words_needed single) (length output) x s (λ hs. output' ≡ with_path single hs output) (walk_answer t v s (length output)) a counted (rule x y l k);
        again = λ x y l k. again_said (words_needed single) (length output) x s (λ hs. output' ≡ with_path single hs output) (walk_answer t v s (length output)) a counted (rule x y l k);
      }

no_list : (r : Result (Option ℕ) Refusal) → answered (said (perhaps one (outcome r))) ≡ false → is_given r ≡ false
unfolding answered said padded perhaps words_in one bind is_given
no_list (Ok (Some n)) h = absurd (true≢false h)
no_list (Ok None) h = refl
no_list (Err e) h = refl

pub discover_said : (t v : List ℕ) (p a : ℕ) (output : List ℕ) (r : Result (Option ℕ) Refusal) (output' ws : List ℕ) → DiscoverDone t v p a output r output' → ws ≡ said (perhaps one (outcome r))
    → DiscoverSaid t v p a output output' ws
discover_said t v p a output r output' ws d e = record {
  says = e ∙ ap (λ o. said (perhaps one o)) d.answers;
  writes = d.writes;
  kept = λ h. d.kept (no_list r (ap answered (sym e) ∙ h));
}

-- Laws for a look at the next HopID that has an entry, one for each way it goes. Assumes nothing.
use Prim.Native.Nat.{ℕ, ◌+◌, ◌≤◌, ◌<◌}
use mathlib.Core.Path.{◌≡◌, refl, sym, ap, ◌∙◌}
use mathlib.Core.Bool.{Bool, true, false, cond, true≢false}
use Rattle.std.specs.Prelude.{Option, None, Some, Ok, Err, Result}
use lib.Dec.{eqb}
use borrow.Author.Tests.{eqb-true, eq-eqb}
use native.Mathlib.Omega.{arith}
use Rattle.refusal.specs.Outcome.{Outcome, value, bind}
use Rattle.tables.specs.Rows.{EntryRow, entry_in}
use Rattle.tables.specs.Packed.{entry_word, entries_in}
use Rattle.tables.specs.Found.{entry_found}
use Rattle.search.specs.Ahead.{HopAhead}
use Rattle.search.proofs.Laws.{past_hops}
use Rattle.search.specs.declared.HopEntry.{HopEntry}
use Rattle.walk.specs.Rule.{walk_from}
use Rattle.walk.specs.Tables.{Leaving, leaves, Tallied, Onward, tally_outcome, hops_by as hops_of_walk}
use Rattle.receive.specs.Receive.{at, Receive, or_rest, or_next}
use Rattle.receive.specs.Tables.{Said.path, received_outcome, path_of, said_from, walk_said}
use Rattle.receive.specs.Work.{said, up_to, Stepped, end_hops, Looked}
use Rattle.receive.specs.declared.Step.TheVariants as step
use Rattle.receive.proofs.Hops.{leap, over, first_walk, walk_refused, walk_absent, walk_other, walk_fits}
use Rattle.walk.specs.Tables.{walked_to}
use Rattle.walk.specs.declared.Walked.{Walked}
use Rattle.tables.specs.declared.Tables.{Tables}
use Rattle.tables.specs.Tables.{Tabled, rows_of}
use Rattle.refusal.specs.declared.WalkError.{WalkError}

module _ (tables : Tables) (ring q n h hi : ℕ) where
  -- none is left
  looked_none : (Tabled tables → q < 65536 → (i : ℕ) → h ≤ i → i ≤ hi → entry_in (entries_in tables.entries.now) q n i ≡ None) → Looked tables ring q n h hi (Ok step.Over)
  unfolding Stepped end_hops rows_of
  looked_none g = record {
    stepped = λ t l v. over (rows_of tables) v q n h hi (g t l);
    further = λ k e. absurd (let z : ◌≡◌ {A = ℕ} 0 1 = cc in omega arith);
    passed = λ k o e. absurd (let z : ◌≡◌ {A = ℕ} 0 1 = cc in omega arith);
    few = omega arith;
  }

  pub looked_large : 65535 < h → Looked tables ring q n h hi (Ok step.Over)
  looked_large l = looked_none (λ t m i a b. past_hops tables.entries.now q n i (omega arith))

  module _ {u : Option HopEntry} (ahead : HopAhead tables.entries.now q n h u) where
    pub looked_over : u ≡ None → Looked tables ring q n h hi (Ok step.Over)
    looked_over e = looked_none (λ t l i a b. ahead.over l t.entries e i a)

    module _ {y : HopEntry} (e : u ≡ Some y) where
      abbrev k : ℕ
      k = y.hop

      pub looked_past : hi < k → Looked tables ring q n h hi (Ok step.Over)
      looked_past m = looked_none (λ t l i a b. ahead.first l t.entries y e i a (omega arith))

      -- a HopID has 16 bits
      narrow : k < 65536
      unfolding entry_word entry_found
      narrow = let held = (ahead.found y e).held _ refl in omega (arith, ap (λ (r : EntryRow). r.in_hop) held.2)

      -- at the walk from the HopID that is next
      module _ (below : k ≤ hi) {w : Result (Option Walked) WalkError} (onward : Onward tables q y.out w) where
        tally : Tallied tables (record { place = q; adapter = n; hop_id = k }) w
        tally = onward.ends n k (ahead.found y e)

        there : Tabled tables → q < 65536 → (v : ℕ) → up_to (rows_of tables) v q n h hi ≡ bind (walk_from (rows_of tables) (at q n k)) (or_rest v (up_to (rows_of tables) v q n (k + 1) hi))
        unfolding rows_of
        there t l v = leap (rows_of tables) v q n h k hi (ahead.from y e) (omega arith) (ahead.first l t.entries y e) ∙ first_walk (rows_of tables) v q n k hi below

        come : (o : Result (Option Walked) WalkError) → w ≡ o → Tabled tables → q < 65536 → tally_outcome o ≡ bind (walk_from (rows_of tables) (at q n k)) (λ o. value (leaves o))
        unfolding at
        come o g t l = ap tally_outcome (sym g) ∙ tally.answers t l

        -- on to the one after it
        pub looked_absent : w ≡ (Ok None) → Looked tables ring q n h hi (Ok (step.On (k + 1)))
        unfolding Stepped end_hops tally_outcome
        looked_absent g = record {
          stepped = λ t l v. there t l v ∙ walk_absent v _ _ (come (Ok None) g t l);
          further = λ j f. let z : k + 1 ≡ j = cc in (omega (arith, ahead.from y e), omega (arith, narrow));
          passed = λ j o f. absurd (let z : ◌≡◌ {A = ℕ} 0 1 = cc in omega arith);
          few = omega arith;
        }

        pub looked_refused : (r : WalkError) → w ≡ Err r → Looked tables ring q n h hi (Err r)
        unfolding tally_outcome Stepped end_hops
        looked_refused r g = record {
          stepped = λ t l v after. walk_refused v _ _ r after (come (Err r) g t l) ∙ ap (λ (o : Outcome Receive). said (bind o (or_next after))) (sym (there t l v));
          further = λ j f. absurd (let z : ◌≡◌ {A = ℕ} 0 1 = cc in omega arith);
          passed = λ j o f. absurd (let z : ◌≡◌ {A = ℕ} 0 1 = cc in omega arith);
          few = omega arith;
        }

        module _ (m p b o : ℕ) (g : w ≡ walked_to m p b o) where
          -- the answer for the HopID that it leaves by
          fits : Tabled tables → q < 65536 → (v : ℕ) (after : Outcome Receive) → o ≡ v → walk_said (rows_of tables) v (at q n k) ≡ said (bind (up_to (rows_of tables) v q n h hi) (or_next after))
          unfolding tally_outcome walk_said said_from bind
          fits t l v after f =
              ap (λ (z : Outcome (Option Leaving)). bind z (λ y. value (said_from v (at q n k) y))) (sym (come (walked_to m p b o) g t l))
              ∙ ap (λ (z : ℕ). value (path (at q n k) (record { hops = m; place = p; adapter = b; hop_id = z }))) (sym f)
              ∙ walk_fits v _ (rows_of tables) (at q n k) _ after (come (walked_to m p b o) g t l) f
              ∙ ap (λ (z : Outcome Receive). said (bind z (or_next after))) (sym (there t l v))

          -- by any ring: the walk's, or what comes after
          told : Tabled tables → q < 65536 → (v : ℕ) (after : Outcome Receive) → said (bind (up_to (rows_of tables) v q n h hi) (or_next after)) ≡ cond (eqb o v) (walk_said (rows_of tables) v (at q n k)) (said (bind (up_to (rows_of tables) v q n (k + 1) hi) (or_next after)))
          unfolding tally_outcome
          told t l v after = go (eqb o v) refl
            where
              go : (c : Bool) → eqb o v ≡ c → said (bind (up_to (rows_of tables) v q n h hi) (or_next after)) ≡ cond c (walk_said (rows_of tables) v (at q n k)) (said (bind (up_to (rows_of tables) v q n (k + 1) hi) (or_next after)))
              go true f = sym (fits t l v after (eqb-true o v f))
              go false f = ap (λ (z : Outcome Receive). said (bind z (or_next after))) (there t l v ∙ walk_other v _ _ _ (come (walked_to m p b o) g t l) (λ z. true≢false (sym (eq-eqb o v z) ∙ f)))

          pub looked_other : (o ≡ ring → ⊥) → o < 65536 → Looked tables ring q n h hi (Ok (step.Past k o))
          unfolding Stepped end_hops
          looked_other f narrow-too = record {
            stepped = told;
            further = λ j i. absurd (let z : ◌≡◌ {A = ℕ} 0 1 = cc in omega arith);
            passed = λ j i z. let b : k ≡ j = cc in let u : o ≡ i = cc in (omega (arith, ahead.from y e), omega (arith, narrow), omega arith, λ d. f (u ∙ d));
            few = omega arith;
          }

          pub looked_fits : o ≡ ring → Looked tables ring q n h hi (Ok (step.Fits (path_of (at q n k) m p b)))
          unfolding tally_outcome Stepped end_hops received_outcome hops_of_walk
          looked_fits f = record {
            stepped = λ t l after.
                ap (λ (z : ℕ). value (path (at q n k) (record { hops = m; place = p; adapter = b; hop_id = z }))) (sym f)
                ∙ walk_fits ring _ (rows_of tables) (at q n k) _ after (come (walked_to m p b o) g t l) f
                ∙ ap (λ (z : Outcome Receive). said (bind z (or_next after))) (sym (there t l ring));
            further = λ j i. absurd (let z : ◌≡◌ {A = ℕ} 0 1 = cc in omega arith);
            passed = λ j i z. absurd (let y : ◌≡◌ {A = ℕ} 0 1 = cc in omega arith);
            few = omega (arith, tally.few, ap hops_of_walk g);
          }

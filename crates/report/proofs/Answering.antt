-- Laws of the result words of one adapter. Assumes nothing.
use Prim.Native.Nat.{ℕ, ◌/◌, ◌%◌, ◌^◌}
use mathlib.Core.Path.{◌≡◌, refl, sym, ap, ◌∙◌}
use mathlib.Core.Bool.{Bool, true, false, cond}
use mathlib.Core.List.{List, [], ◌∷◌, ◌++◌}
use Rattle.std.specs.Prelude.{Option, None, Some, Err, Ok, Result, unwrap_or}
use native.Mathlib.Omega.{arith}
use lib.Dec.{ltb}
use lib.ListN.{length, take, drop, get_or}
use lib.Seq.{take-append_seam}
use Rattle.refusal.specs.Outcome.{Outcome, refused, value, bind}
use Rattle.tables.specs.Packed.{adapter_word}
use Rattle.refusal.specs.Refusal.{refused_by}
use Rattle.refusal.specs.declared.Refusal.{Refusal}
use Rattle.refusal.proofs.Laws.{refused_bind, not_refused}
use Rattle.tunnel.specs.Tunnels.{Tunnel}
use Rattle.tunnel.specs.Words.{tunnels_words}
use Rattle.discovery.specs.Answers.{discover_at, in_room, output_by}
use Rattle.discovery.specs.Tables.{Discovered}
use Rattle.report.specs.Report.{words_by, answer_of}
use Rattle.report.specs.Work.{size_of, words_outcome, Answered}
use Rattle.refusal.specs.Refusal.{outcome}
use Rattle.tables.specs.declared.Tables.{Tables}
use Rattle.tables.specs.Tables.{rows_of}

-- ---- by what is discovered, with room for 16,384 words

-- words that are answered were written
words_of : (o : Outcome (Option (List Tunnel))) (out : List ℕ) → length out ≡ 16384 → (n : ℕ) → value (Some n) ≡ bind o (in_room (length out)) → value (take n (output_by o out)) ≡ bind o words_by
unfolding bind in_room output_by words_by
words_of (refused k vs) out l n e = absurd (let z : ◌≡◌ {A = ℕ} 0 1 = cc in omega arith)
words_of (value None) out l n e = absurd (let z : ◌≡◌ {A = ℕ} 0 1 = cc in omega arith)
words_of (value (Some ts)) out l n e = go (tunnels_words ts) (ltb (length out) (length (tunnels_words ts))) (sym (ap (λ k. ltb k (length (tunnels_words ts))) l)) e
  where
    go : (s : List ℕ) (b : Bool) → ltb 16384 (length s) ≡ b → value (Some n) ≡ cond b (refused 2 (length s ∷ [])) (value (Some (length s)))
        → value (take n (cond b out (s ++ drop (length s) out))) ≡ cond (ltb 16384 (length s)) (refused 2 (length s ∷ [])) (value s)
    go s true q f = absurd (let z : ◌≡◌ {A = ℕ} 0 1 = cc in omega arith)
    go s false q f = let z : n ≡ length s = cc in rw (q, z) (ap value (take-append_seam s (drop (length s) out)))

-- absent is an answer of no words
none_of : (o : Outcome (Option (List Tunnel))) (room : ℕ) → value None ≡ bind o (in_room room) → value [] ≡ bind o words_by
unfolding bind in_room words_by
none_of (refused k vs) room e = absurd (let z : ◌≡◌ {A = ℕ} 0 1 = cc in omega arith)
none_of (value None) room e = refl
none_of (value (Some ts)) room e = absurd (go (length (tunnels_words ts)) (ltb room (length (tunnels_words ts))) e)
  where
    go : (k : ℕ) (b : Bool) → value None ≡ cond b (refused 2 (k ∷ [])) (value (Some k)) → ⊥
    go k true f = let z : ◌≡◌ {A = ℕ} 0 1 = cc in omega arith
    go k false f = let z : ◌≡◌ {A = ℕ} 0 1 = cc in omega arith

-- a refusal, at another type
again : (q : Refusal) (o : Outcome (Option ℕ)) → refused_by {A = Option ℕ} q ≡ o → refused_by {A = List ℕ} q ≡ bind o (λ n. value [])
again q o e = sym (refused_bind q (λ n. value [])) ∙ ap (λ y. bind y (λ n. value [])) e

-- what is refused is refused by the adapter
refused_of : (o : Outcome (Option (List Tunnel))) (room : ℕ) → room ≡ 16384 → (q : Refusal) → refused_by q ≡ bind o (in_room room) → refused_by q ≡ bind o words_by
unfolding bind in_room words_by
refused_of (refused m us) room l q e = again q (refused m us) e
refused_of (value None) room l q e = absurd (not_refused q None e)
refused_of (value (Some ts)) room l q e = go (tunnels_words ts) (ltb room (length (tunnels_words ts))) (sym (ap (λ k. ltb k (length (tunnels_words ts))) l)) e
  where
    go : (s : List ℕ) (b : Bool) → ltb 16384 (length s) ≡ b → refused_by q ≡ cond b (refused 2 (length s ∷ [])) (value (Some (length s)))
        → refused_by q ≡ cond (ltb 16384 (length s)) (refused 2 (length s ∷ [])) (value s)
    go s true z f = rw z (again q (refused 2 (length s ∷ [])) f)
    go s false z f = absurd (not_refused q (Some (length s)) f)

-- ---- an adapter's answer

module _ (tables : Tables) (i : ℕ) (out : List ℕ) (l : length out ≡ 16384) (r : Result (Option ℕ) Refusal) (out' : List ℕ)
    (d : Discovered tables (get_or tables.adapters.now i 0 / 2 ^ 48) (get_or tables.adapters.now i 0 / 2 ^ 40 % 256) out r out') where
  abbrev found : Outcome (Option (List Tunnel))
  found = discover_at (rows_of tables) (get_or tables.adapters.now i 0 / 2 ^ 48) (get_or tables.adapters.now i 0 / 2 ^ 40 % 256)

  -- absent is an answer of no words
  pub in_words : (o : Option ℕ) → r ≡ Ok o → Answered tables i (Ok (unwrap_or o 0)) out'
  unfolding words_outcome answer_of adapter_word
  in_words (Some n) e = record {
    answers = λ k es.
        ap (λ s. value (take n s)) (d.writes k.sized es)
        ∙ words_of found out l n (sym (ap outcome e) ∙ d.answers k.sized es);
    within = λ m f. let z : n ≡ m = cc in omega (arith, d.fits n e, d.long);
    met = λ m f. absurd (let z : ◌≡◌ {A = ℕ} 0 1 = cc in omega arith);
  }
  in_words None e = record {
    answers = λ k es. none_of found (length out) (sym (ap outcome e) ∙ d.answers k.sized es);
    within = λ m f. let z : 0 ≡ m = cc in omega arith;
    met = λ m f. absurd (let z : ◌≡◌ {A = ℕ} 0 1 = cc in omega arith);
  }

  pub in_refusal : (q : Refusal) → r ≡ Err q → Answered tables i (Err q) out'
  unfolding words_outcome answer_of adapter_word
  in_refusal q e = record {
    answers = λ k es. refused_of found (length out) l q (sym (ap outcome e) ∙ d.answers k.sized es);
    within = λ m f. absurd (let z : ◌≡◌ {A = ℕ} 0 1 = cc in omega arith);
    met = λ m f. d.met m (e ∙ (let z : q ≡ m = cc in ap Err z));
  }

  pub in_answer : Answered tables i (size_of r) out'
  unfolding size_of
  in_answer = go r refl
    where
      go : (q : Result (Option ℕ) Refusal) → r ≡ q → Answered tables i (size_of q) out'
      go (Ok o) e = in_words o e
      go (Err q) e = in_refusal q e

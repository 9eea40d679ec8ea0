-- Laws on the words of a section, by its marker. Assumes nothing.
use Prim.Native.Nat.{ℕ, ◌+◌, ◌-◌, ◌<◌, ◌≤◌}
use native.Mathlib.Omega.{arith}
use mathlib.Core.Path.{◌≡◌, refl, ◌∙◌, ap, sym, subst}
use mathlib.Core.List.{List, [], ◌∷◌, ◌++◌, append-nil}
use lib.ListN.{length, take, drop, length-append, take-append-drop}
use Rattle.scan.specs.Scan.{lines, is_line_feed, place_from}
use Rattle.room.specs.Records.{records_of as dump_records}
use Rattle.dump.specs.Dump.{records_in, dump_words}
use Rattle.dump.proofs.Groups.{put_step, put_end}
use Rattle.markers.specs.Markers.{Marker, Marker.router, Marker.xdomain, Marker.usb4, Marker.regs, Marker.adapter, Marker.paths, Marker.no_paths, Marker.bad, marker_of}
use Rattle.text.specs.Text.{Section, adapter_head, device_words, marker_words, survey_words}
use Rattle.text.specs.Work.{sections_from, part_of, Stands, Skipped, NextLine, path_words, body_words, PutAt}
use Rattle.text.proofs.Sections.{words_at, no_words}

module _ (line body : List ℕ) (ss : List Section) where
  by : (m : Marker) → m ≡ marker_of line → body_words line body ss ≡ marker_words m (dump_records (lines body)) ss
  unfolding body_words
  by m e = ap (λ n. marker_words n (dump_records (lines body)) ss) (sym e)

  pub body_router : (d r : ℕ) → router d r ≡ marker_of line → body_words line body ss ≡ device_words 1 d r ss
  unfolding marker_words
  body_router d r e = by (router d r) e

  pub body_xdomain : (d r : ℕ) → xdomain d r ≡ marker_of line → body_words line body ss ≡ device_words 2 d r ss
  unfolding marker_words
  body_xdomain d r e = by (xdomain d r) e

  pub body_regs : regs ≡ marker_of line → body_words line body ss ≡ dump_words body
  unfolding marker_words dump_words records_in
  body_regs e = by regs e

  pub body_adapter : (n : ℕ) → adapter n ≡ marker_of line → body_words line body ss ≡ adapter_head n ss ∷ []
  unfolding marker_words
  body_adapter n e = by (adapter n) e

  pub body_paths : paths ≡ marker_of line → body_words line body ss ≡ path_words body
  unfolding marker_words path_words
  body_paths e = by paths e

  pub body_usb4 : usb4 ≡ marker_of line → body_words line body ss ≡ []
  unfolding marker_words
  body_usb4 e = by usb4 e

  pub body_nopaths : no_paths ≡ marker_of line → body_words line body ss ≡ []
  unfolding marker_words
  body_nopaths e = by no_paths e

  pub body_bad : bad ≡ marker_of line → body_words line body ss ≡ []
  unfolding marker_words
  body_bad e = by bad e

pub device_four : (kind d r : ℕ) (ss : List Section) → length (device_words kind d r ss) ≡ 4
unfolding device_words
device_four kind d r ss = refl

-- the same words by another name
pub put_as : {ws vs : List ℕ} {k r : ℕ} {out o : List ℕ} → ws ≡ vs → PutAt vs k out r o → PutAt ws k out r o
put_as {ws} {vs} {k} {r} {out} {o} e p = record { next = p.next ∙ ap (λ l. k + length l) (sym e); written = p.written ∙ ap (λ l. take k out ++ l ++ drop r out) (sym e) }

-- no words
pub put_nothing : {ws : List ℕ} {k : ℕ} {out : List ℕ} → ws ≡ [] → PutAt ws k out k out
put_nothing {ws} {k} {out} e = put_as e (record { next = omega arith; written = sym (ap (λ l. l ++ drop k out) (append-nil (take k out)) ∙ take-append-drop k out) })

-- ---- section after section: the words so far and those from a marker on give the whole
pub record Going (t old out : List ℕ) (room k at : ℕ) : Type 0 where
  pub long : length out ≡ length old
  pub stands : Stands t at
  pub fits : k + length (survey_words (sections_from t at)) ≤ length old
  pub held : length (survey_words (sections_from t at)) ≤ room
  pub same : drop k out ≡ drop k old
  pub rest : take k out ++ survey_words (sections_from t at) ≡ survey_words (sections_from t 0)

pub going_start : (t old : List ℕ) (room at : ℕ) → length (survey_words (sections_from t 0)) ≤ length old → length (survey_words (sections_from t 0)) ≤ room → Skipped t 0 at → Going t old old room 0 at
going_start t old room at h k s =
    let e : survey_words (sections_from t at) ≡ survey_words (sections_from t 0) = ap survey_words (sym s.sections) in
    record { long = refl; stands = s.stands; fits = omega (arith, ap length e); held = omega (arith, ap length e); same = refl; rest = e }

module _ (t old out : List ℕ) (room k at e from r : ℕ) (g : Going t old out room k at) (ends : e ≡ place_from is_line_feed t at) (here : at < length t) (after : NextLine t e from) (skips : Skipped t from r) where
  split : survey_words (sections_from t at) ≡ body_words (take (e - at) (drop at t)) (part_of t from r) (sections_from t r) ++ survey_words (sections_from t r)
  split = words_at t at e from r ends here (g.stands here) after skips

  lengths : length (survey_words (sections_from t at)) ≡ length (body_words (take (e - at) (drop at t)) (part_of t from r) (sections_from t r)) + length (survey_words (sections_from t r))
  lengths = ap length split ∙ length-append (body_words (take (e - at) (drop at t)) (part_of t from r) (sections_from t r)) (survey_words (sections_from t r))

  pub body_fits : (k + length (body_words (take (e - at) (drop at t)) (part_of t from r) (sections_from t r)) ≤ length out) × (length (body_words (take (e - at) (drop at t)) (part_of t from r) (sections_from t r)) ≤ room)
  body_fits = (omega (arith, lengths, g.fits, g.long), omega (arith, lengths, g.held))

  pub going_step : (r' : ℕ) (out' : List ℕ) → PutAt (body_words (take (e - at) (drop at t)) (part_of t from r) (sections_from t r)) k out r' out' → Going t old out' room r' r
  going_step r' out' p =
      let q = put_step out old (survey_words (sections_from t 0)) k g.long g.same _ (survey_words (sections_from t r)) out' r' p.next p.written (subst (λ l. k + length l ≤ length old) split g.fits) (ap (λ l. take k out ++ l) (sym split) ∙ g.rest) in
      record { long = q.0; stands = skips.stands; fits = q.1; held = omega (arith, lengths, g.held); same = q.2; rest = q.3 }

pub going_end : (t old out : List ℕ) (room k at : ℕ) → Going t old out room k at → length t ≤ at → out ≡ survey_words (sections_from t 0) ++ drop (length (survey_words (sections_from t 0))) old
going_end t old out room k at g h = put_end out old (survey_words (sections_from t 0)) k g.long g.same _ (no_words t at h) (omega (arith, g.fits)) g.rest

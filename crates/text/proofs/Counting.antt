-- The words that the grammar counts are the words that are written. Assumes nothing.
use Rattle.std.specs.Prelude.{None, Option, Some}
use Prim.Native.Nat.{ℕ, ◌+◌, ◌*◌, ◌≤◌}
use native.Mathlib.Omega.{arith}
use mathlib.Core.Path.{◌≡◌, refl, ap}
use mathlib.Core.Bool.{Bool, true, false, cond}
use mathlib.Core.List.{List, [], ◌∷◌}
use lib.Dec.{ltb}
use lib.ListN.{length, length-append}
use borrow.Author.Tests.{ltb-false}
use Rattle.refusal.specs.Outcome.{Outcome, refused, value, bind}
use Rattle.scan.specs.Scan.{is_high, before, place_from}
use Rattle.register.specs.declared.Register.{Register}
use Rattle.groups.specs.Group.{group_of}
use Rattle.markers.specs.Markers.{Marker, Marker.router, Marker.xdomain, Marker.usb4, Marker.regs, Marker.adapter, Marker.paths, Marker.no_paths, Marker.bad}
use Rattle.grammar.specs.Grammar.{Item, Item.marker, Item.record', Item.other, to_usb4, to_regs, to_adapter, to_paths, step_of, in_dump, item_step, marker_size, item_size, check_by, check_from, most_bytes, most_words, items_of, in_limit, check_answer}
use Rattle.grammar.specs.declared.Under.{Under}
use Rattle.grammar.specs.declared.Under.TheVariants as under
use Rattle.text.specs.Text.{Section, records_of, sections_of, path_group, device_words, marker_words, survey_words}
use Rattle.text.specs.Work.{Low}
use Rattle.text.proofs.Dumps.{length_sorted, high_low}

-- whether records may stand
is_dump : Under → Bool
is_dump under.Nothing = false
is_dump (under.Device r) = false
is_dump (under.WithUsb4 r) = false
is_dump under.DeviceDump = true
is_dump under.Adapter = false
is_dump under.AdapterDump = true
is_dump under.PathDump = true
is_dump under.NoDump = false

-- the words of the records up to the next marker
pending : Under → List Item → ℕ
pending u is = cond (is_dump u) (4 * length (records_of is)) 0

-- which markers open a dump
opens_dump : Marker → Bool
opens_dump (router d r) = false
opens_dump (xdomain d r) = false
opens_dump usb4 = false
opens_dump regs = true
opens_dump (adapter n) = false
opens_dump paths = true
opens_dump no_paths = false
opens_dump bad = false

length_marker : (m : Marker) (rs : List Register) (ss : List Section) → length (marker_words m rs ss) ≡ marker_size m + cond (opens_dump m) (4 * length rs) 0
unfolding marker_words device_words opens_dump marker_size
length_marker (router d r) rs ss = refl
length_marker (xdomain d r) rs ss = refl
length_marker usb4 rs ss = refl
length_marker regs rs ss = omega (arith, length_sorted group_of rs)
length_marker (adapter n) rs ss = refl
length_marker paths rs ss = omega (arith, length_sorted path_group rs)
length_marker no_paths rs ss = refl
length_marker bad rs ss = refl

-- a step that leads on leads into a dump, or doesn't
data Into (b : Bool) : Option Under → Type 0 where
  stops : Into b None
  goes : {u : Under} → is_dump u ≡ b → Into b (Some u)

into_regs : (r : Bool) → Into true (cond r (Some under.DeviceDump) None)
unfolding is_dump
into_regs true = goes refl
into_regs false = stops

leads : (m : Marker) (u : Under) → Into (opens_dump m) (step_of m u)
unfolding opens_dump step_of to_usb4 to_regs to_adapter to_paths is_dump
leads (router d r) u = goes refl
leads (xdomain d r) u = goes refl
leads usb4 under.Nothing = stops
leads usb4 (under.Device r) = goes refl
leads usb4 (under.WithUsb4 r) = stops
leads usb4 under.DeviceDump = stops
leads usb4 under.Adapter = stops
leads usb4 under.AdapterDump = stops
leads usb4 under.PathDump = stops
leads usb4 under.NoDump = stops
leads regs under.Nothing = stops
leads regs (under.Device r) = into_regs r
leads regs (under.WithUsb4 r) = into_regs r
leads regs under.DeviceDump = stops
leads regs under.Adapter = goes refl
leads regs under.AdapterDump = stops
leads regs under.PathDump = stops
leads regs under.NoDump = stops
leads (adapter n) under.Nothing = stops
leads (adapter n) (under.Device r) = goes refl
leads (adapter n) (under.WithUsb4 r) = goes refl
leads (adapter n) under.DeviceDump = goes refl
leads (adapter n) under.Adapter = goes refl
leads (adapter n) under.AdapterDump = goes refl
leads (adapter n) under.PathDump = goes refl
leads (adapter n) under.NoDump = goes refl
leads paths under.Nothing = stops
leads paths (under.Device r) = stops
leads paths (under.WithUsb4 r) = stops
leads paths under.DeviceDump = stops
leads paths under.Adapter = goes refl
leads paths under.AdapterDump = goes refl
leads paths under.PathDump = stops
leads paths under.NoDump = stops
leads no_paths under.Nothing = stops
leads no_paths (under.Device r) = stops
leads no_paths (under.WithUsb4 r) = stops
leads no_paths under.DeviceDump = stops
leads no_paths under.Adapter = goes refl
leads no_paths under.AdapterDump = goes refl
leads no_paths under.PathDump = stops
leads no_paths under.NoDump = stops
leads bad u = stops

-- a record leads on in a dump alone, and stays there
data Stays (u : Under) : Option Under → Type 0 where
  outside : Stays u None
  inside : is_dump u ≡ true → Stays u (Some u)

stays : (u : Under) → Stays u (in_dump u)
unfolding in_dump is_dump
stays under.Nothing = outside
stays (under.Device r) = outside
stays (under.WithUsb4 r) = outside
stays under.DeviceDump = inside refl
stays under.Adapter = outside
stays under.AdapterDump = inside refl
stays under.PathDump = inside refl
stays under.NoDump = outside

-- ---- the words made, those of the records up to the next marker, and those of the sections after it, are all words

by_marker : (m : Marker) (s : Option Under) (made n : ℕ) (is : List Item) → Into (opens_dump m) s
    → ((v : Under) → check_from (made + marker_size m) v is ≡ value n → n ≡ made + marker_size m + pending v is + length (survey_words (sections_of is)))
    → check_by made (λ v. check_from (made + marker_size m) v is) s ≡ value n → n ≡ made + length (survey_words (sections_of (marker m ∷ is)))
unfolding check_by pending sections_of survey_words
by_marker m _ made n is stops ih e = let z : ◌≡◌ {A = ℕ} 0 1 = cc in absurd (omega arith)
by_marker m _ made n is (goes {u} d) ih e =
    omega (arith, ih u e, ap (λ b. cond b (4 * length (records_of is)) 0) d, length_marker m (records_of is) (sections_of is), length-append (marker_words m (records_of is) (sections_of is)) (survey_words (sections_of is)))

by_record : (u : Under) (s : Option Under) (made n : ℕ) (r : Register) (is : List Item) → Stays u s
    → ((v : Under) → check_from (made + 4) v is ≡ value n → n ≡ made + 4 + pending v is + length (survey_words (sections_of is)))
    → check_by made (λ v. check_from (made + 4) v is) s ≡ value n → n ≡ made + pending u (record' r ∷ is) + length (survey_words (sections_of (record' r ∷ is)))
unfolding check_by pending sections_of records_of
by_record u _ made n r is outside ih e = let z : ◌≡◌ {A = ℕ} 0 1 = cc in absurd (omega arith)
by_record u _ made n r is (inside d) ih e = omega (arith, ih u e, ap (λ b. cond b (4 * length (records_of is)) 0) d, ap (λ b. cond b (4 * length (records_of (record' r ∷ is))) 0) d)

nothing_pending : (b : Bool) → ◌≡◌ {A = ℕ} (cond b 0 0) 0
nothing_pending true = refl
nothing_pending false = refl

counted : (made n : ℕ) (u : Under) (is : List Item) → check_from made u is ≡ value n → n ≡ made + pending u is + length (survey_words (sections_of is))
unfolding check_from check_by item_step item_size pending records_of sections_of survey_words
counted made n u [] e = let q : made ≡ n = cc in omega (arith, nothing_pending (is_dump u))
counted made n u (marker m ∷ is) e = omega (arith, by_marker m (step_of m u) made n is (leads m u) (λ v. counted (made + marker_size m) n v is) e, nothing_pending (is_dump u))
counted made n u (record' r ∷ is) e = by_record u (in_dump u) made n r is (stays u) (λ v. counted (made + 4) n v is) e
counted made n u (other ∷ is) e = omega (arith, counted (made + 0) n u is e)

-- a text that the grammar takes: its words are counted, in the limit, and no byte is above 127
pub record Taken (t : List ℕ) (n : ℕ) : Type 0 where
  pub low : Low t
  pub words : n ≡ length (survey_words (sections_of (items_of t)))
  pub limit : n ≤ 16384

taken_by : (t : List ℕ) (n : ℕ) (o : Outcome ℕ) → Low t → check_from 0 under.Nothing (items_of t) ≡ o → bind o in_limit ≡ value n → Taken t n
unfolding bind in_limit pending is_dump
taken_by t n (refused k vs) low e q = let z : ◌≡◌ {A = ℕ} 0 1 = cc in absurd (omega arith)
taken_by t n (value m) low e q = go (ltb most_words m) refl q
  where
    go : (b : Bool) → ltb most_words m ≡ b → cond b (refused 4 (most_words ∷ [])) (value m) ≡ value n → Taken t n
    go true f q = let z : ◌≡◌ {A = ℕ} 0 1 = cc in absurd (omega arith)
    go false f q = let d : m ≡ n = cc in
        record { low = low; words = omega (arith, counted 0 m under.Nothing (items_of t) e); limit = omega (arith, ltb-false most_words m f) }

pub taken : (t : List ℕ) (n : ℕ) → check_answer t ≡ value n → Taken t n
unfolding check_answer place_from
taken t n e = long (ltb most_bytes (length t)) (ltb (0 + before is_high t) (length t)) refl e
  where
    long : (b c : Bool) → ltb (0 + before is_high t) (length t) ≡ c → cond b (refused 2 (length t ∷ [])) (cond c (refused 1 ((0 + before is_high t) ∷ [])) (bind (check_from 0 under.Nothing (items_of t)) in_limit)) ≡ value n → Taken t n
    long true c f e = let z : ◌≡◌ {A = ℕ} 0 1 = cc in absurd (omega arith)
    long false true f e = let z : ◌≡◌ {A = ℕ} 0 1 = cc in absurd (omega arith)
    long false false f e = taken_by t n (check_from 0 under.Nothing (items_of t)) (high_low t (omega (arith, ltb-false (0 + before is_high t) (length t) f))) refl e

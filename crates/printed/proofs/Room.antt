-- A printed text is within the buffer that was lent; and how long one is at most. Assumes nothing.
use Rattle.std.specs.Prelude.{Ok, Result}
use Prim.Native.Nat.{ℕ, zero, suc, ◌+◌, ◌*◌, ◌/◌, ◌%◌, ◌≤◌, ◌<◌}
use native.Mathlib.Omega.{arith}
use mathlib.Core.Path.{◌≡◌, refl, sym, ap, ◌∙◌}
use mathlib.Core.Bool.{Bool, true, false, cond, ◌||◌}
use mathlib.Core.List.{List, [], ◌∷◌, ◌++◌}
use borrow.Author.Tests.{ltb-false, lt-ltb, le-ltb, lt-leb}
use lib.Dec.{ltb, leb, eqb}
use lib.ListN.{length, get_or, take, drop, length-append}
use lib.Seq.{take-append_seam}
use Rattle.refusal.specs.Outcome.{refused, value}
use Rattle.util.specs.Text.{bytes_of}
use Rattle.print.specs.Print.{digits, decimal, most, capped}
use Rattle.printing.specs.Lines.{kind_of, is_tunnel, is_hop, type_name, path_name, place_of, in_adapter, out_adapter, tunnel_line, path_line, hop_line, line_of}
use Rattle.printed.specs.Printed.{parts_of, lines_by, lines_of, total_line, refused_line, in_room, output_by, PrintDone}
use Rattle.refusal.specs.Refusal.{outcome}
use Rattle.refusal.specs.declared.Refusal.{Refusal}
use Rattle.refusal.proofs.Laws.{outcome_ok}

-- a text that there is room for
pub room_bytes : (s : List ℕ) (room n : ℕ) → value n ≡ in_room room s → (length s ≡ n) × (n ≤ room)
unfolding in_room
room_bytes s room n e = go (leb most (length s)) (ltb room (length s)) refl e
  where
    go : (b c : Bool) → ltb room (length s) ≡ c → value n ≡ cond (b || c) (refused 2 (capped (length s) ∷ [])) (value (length s)) → (length s ≡ n) × (n ≤ room)
    go true c q f = absurd (let z : ◌≡◌ {A = ℕ} 0 1 = cc in omega arith)
    go false true q f = absurd (let z : ◌≡◌ {A = ℕ} 0 1 = cc in omega arith)
    go false false q f = let z : length s ≡ n = cc in (z, omega (arith, ltb-false room (length s) q))

-- a text that there is no room for
pub room_short : (s : List ℕ) (room n : ℕ) → refused 2 (n ∷ []) ≡ in_room room s → n ≡ capped (length s)
unfolding in_room
room_short s room n e = go (leb most (length s) || ltb room (length s)) e
  where
    go : (b : Bool) → refused 2 (n ∷ []) ≡ cond b (refused 2 (capped (length s) ∷ [])) (value (length s)) → n ≡ capped (length s)
    go true f = cc
    go false f = absurd (let z : ◌≡◌ {A = ℕ} 0 1 = cc in omega arith)

pub printed_within : {s output output' : List ℕ} {r : (Result ℕ Refusal)} (n : ℕ) → PrintDone s output r output' → r ≡ Ok n → n ≤ length output
printed_within {s} {output} n d e = (room_bytes s (length output) n (sym (ap outcome e) ∙ d.answers)).1

-- ---- what is printed is short

-- 10, 100, ..
least : ℕ → ℕ
least zero = 10
least (suc m) = 10 * least m

shorter : (b : Bool) (x y : List ℕ) (m : ℕ) → length x ≤ m → length y ≤ m → length (cond b x y) ≤ m
shorter true x y m l r = l
shorter false x y m l r = r

few_digits : (k m n : ℕ) → n < least m → length (digits k n) ≤ suc m
unfolding digits least
few_digits zero m n l = omega arith
few_digits (suc k) zero n l = omega (arith, ap (λ b. length (cond b ((48 + n) ∷ []) (digits k (n / 10) ++ ((48 + n % 10) ∷ [])))) (lt-ltb n 10 l))
few_digits (suc k) (suc m) n l =
    shorter (ltb n 10) ((48 + n) ∷ []) (digits k (n / 10) ++ ((48 + n % 10) ∷ [])) (suc (suc m)) (omega arith)
    (omega (arith, few_digits k m (n / 10) (omega arith), length-append (digits k (n / 10)) ((48 + n % 10) ∷ [])))

most_digits : (k n : ℕ) → length (digits k n) ≤ k
unfolding digits
most_digits zero n = omega arith
most_digits (suc k) n =
    shorter (ltb n 10) ((48 + n) ∷ []) (digits k (n / 10) ++ ((48 + n % 10) ∷ [])) (suc k) (omega arith)
    (omega (arith, most_digits k (n / 10), length-append (digits k (n / 10)) ((48 + n % 10) ∷ [])))

number_short : (m n : ℕ) → n < least m → length (decimal n) ≤ suc m
unfolding decimal
number_short m n l = few_digits 20 m n l

number_long : (n : ℕ) → length (decimal n) ≤ 20
unfolding decimal
number_long n = most_digits 20 n

type_short : (n : ℕ) → length (type_name n) ≤ 11
unfolding type_name bytes_of
type_short n =
    shorter (eqb n 0) _ _ 11 (omega arith)
    (shorter (eqb n 1) _ _ 11 (omega arith)
    (shorter (eqb n 2) _ _ 11 (omega arith)
    (shorter (eqb n 3) _ _ 11 (omega arith) (omega arith))))

path_short : (n : ℕ) → length (path_name n) ≤ 10
unfolding path_name bytes_of
path_short n =
    shorter (eqb n 0) _ _ 10 (omega arith)
    (shorter (eqb n 1) _ _ 10 (omega arith)
    (shorter (eqb n 2) _ _ 10 (omega arith)
    (shorter (eqb n 3) _ _ 10 (omega arith)
    (shorter (eqb n 4) _ _ 10 (omega arith)
    (shorter (eqb n 5) _ _ 10 (omega arith)
    (shorter (eqb n 6) _ _ 10 (omega arith)
    (shorter (eqb n 7) _ _ 10 (omega arith)
    (shorter (eqb n 8) _ _ 10 (omega arith) (omega arith)))))))))

tunnel_short : (w hop : ℕ) → length (tunnel_line w hop) ≤ 43
unfolding tunnel_line bytes_of place_of in_adapter least
tunnel_short w hop =
    simp length-append
    (omega (
      arith,
      type_short (w % 16),
      number_short 3 (hop / 65536 % 4096) (omega arith),
      number_short 2 (hop / 256 % 256) (omega arith),
      number_short 2 (w / 256 % 256) (omega arith),
      shorter (eqb (w / 65536 % 2) 1) (bytes_of " closed\n") (bytes_of " open\n") 8 (omega arith) (omega arith),
    ))

path_line_short : (w : ℕ) → length (path_line w) ≤ 43
unfolding path_line bytes_of least
path_line_short w = simp length-append (omega (arith, path_short (w / 65536 % 16), number_short 4 (w % 65536) (omega arith)))

-- the number of an in HopID may have twenty digits
hop_short : (w ids : ℕ) → length (hop_line w ids) ≤ 43
unfolding hop_line bytes_of place_of in_adapter out_adapter least
hop_short w ids =
    simp length-append
    (omega (arith, number_short 3 (w / 65536 % 4096) (omega arith), number_short 2 (w / 256 % 256) (omega arith), number_long (ids / 65536), number_short 2 (w % 256) (omega arith), number_short 4 (ids % 65536) (omega arith)))

line_short : (ws : List ℕ) → length (line_of ws) ≤ 43
unfolding line_of
line_short ws =
    shorter (is_tunnel (get_or ws 0 0)) _ _ 43 (tunnel_short (get_or ws 0 0) (get_or ws 2 0))
    (shorter (eqb (kind_of (get_or ws 0 0)) 9) _ _ 43 (path_line_short (get_or ws 0 0))
    (shorter (is_hop (get_or ws 0 0)) _ _ 43 (hop_short (get_or ws 0 0) (get_or ws 1 0)) (omega arith)))

-- at most 43 bytes a word
by_parts : (ws : List ℕ) → length (lines_by (parts_of ws)) ≤ 43 * length ws
unfolding parts_of lines_by
by_parts [] = omega arith
by_parts (w ∷ []) = omega (arith, line_short (w ∷ []), length-append (line_of (w ∷ [])) [])
by_parts (w ∷ x ∷ ws) = go (is_hop w) (by_parts ws) (by_parts (x ∷ ws))
  where
    go : (b : Bool) → length (lines_by (parts_of ws)) ≤ 43 * length ws → length (lines_by (parts_of (x ∷ ws))) ≤ 43 * suc (length ws)
        → length (line_of (w ∷ x ∷ ws) ++ lines_by (cond b (parts_of ws) (parts_of (x ∷ ws)))) ≤ 43 * suc (suc (length ws))
    go true h k = omega (arith, line_short (w ∷ x ∷ ws), length-append (line_of (w ∷ x ∷ ws)) (lines_by (parts_of ws)))
    go false h k = omega (arith, line_short (w ∷ x ∷ ws), length-append (line_of (w ∷ x ∷ ws)) (lines_by (parts_of (x ∷ ws))))

pub lines_short : (ws : List ℕ) → length (lines_of ws) ≤ 43 * length ws
unfolding lines_of
lines_short ws = by_parts ws

pub total_short : (n : ℕ) → length (total_line n) ≤ 29
unfolding total_line bytes_of
total_short n = simp length-append (omega (arith, number_long n))

-- a number of one byte
pub refused_short : (n : ℕ) → n < 256 → length (refused_line n) ≤ 12
unfolding refused_line bytes_of least
refused_short n l = simp length-append (omega (arith, number_short 2 n (omega arith)))

-- so there is room
pub fits_room : (s : List ℕ) (room : ℕ) → length s ≤ room → room < most → in_room room s ≡ value (length s)
unfolding in_room
fits_room s room l m =
    ap (λ b. cond (b || ltb room (length s)) (refused 2 (capped (length s) ∷ [])) (value (length s))) (lt-leb most (length s) (omega arith))
    ∙ ap (λ b. cond b (refused 2 (capped (length s) ∷ [])) (value (length s))) (le-ltb room (length s) l)

-- where there is room, all is printed
pub printed_whole : {s output output' : List ℕ} {r : (Result ℕ Refusal)} → PrintDone s output r output' → length s ≤ length output → length output < most → (r ≡ Ok (length s)) × (take (length s) output' ≡ s)
unfolding output_by
printed_whole {s} {output} {output'} {r} d l m =
    let e : outcome r ≡ value (length s) = d.answers ∙ fits_room s (length output) l m in
    (outcome_ok r (length s) e, ap (take (length s)) (d.writes ∙ ap (λ o. output_by s o output) e) ∙ take-append_seam s (drop (length s) output))

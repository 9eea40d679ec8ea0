-- The line of each kind of head. Assumes nothing.
use Prim.Native.Nat.{ℕ, ◌/◌}
use mathlib.Core.Path.{◌≡◌, sym}
use mathlib.Core.List.{List, []}
use borrow.Author.Tests.{ne_eqb}
use lib.ListN.{get_or}
use Rattle.printing.specs.Lines.{kind_of, is_tunnel, is_hop, tunnel_line, path_line, hop_line, line_of}

module _ (ws : List ℕ) {w : ℕ} (e : w ≡ get_or ws 0 0) where
  pub line_tunnel : {x : ℕ} → x ≡ get_or ws 2 0 → w / 268435456 ≡ 8 → line_of ws ≡ tunnel_line w x
  unfolding line_of is_tunnel kind_of
  line_tunnel f k = simp (sym e, sym f, k)

  pub line_path : w / 268435456 ≡ 9 → line_of ws ≡ path_line w
  unfolding line_of is_tunnel kind_of
  line_path k = simp (sym e, k)

  pub line_hop : {x : ℕ} → x ≡ get_or ws 1 0 → w / 268435456 ≡ 10 → line_of ws ≡ hop_line w x
  unfolding line_of is_tunnel is_hop kind_of
  line_hop f k = simp (sym e, sym f, k)

  pub line_none : (w / 268435456 ≡ 8 → ⊥) → (w / 268435456 ≡ 9 → ⊥) → (w / 268435456 ≡ 10 → ⊥) → line_of ws ≡ []
  unfolding line_of is_tunnel is_hop kind_of
  line_none a b c = simp (sym e, ne_eqb (w / 268435456) 8 a, ne_eqb (w / 268435456) 9 b, ne_eqb (w / 268435456) 10 c)

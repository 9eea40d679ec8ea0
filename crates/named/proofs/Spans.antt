-- The offsets of the groups that have a name, and that a register with another has not. Assumes nothing.
use Prim.Native.Nat.{ℕ, ◌+◌, ◌≤◌, ◌<◌}
use native.Mathlib.Omega.{arith}
use mathlib.Core.Path.{◌≡◌, refl, sym, ap, ◌∙◌, subst}
use mathlib.Core.Bool.{Bool, true, false, cond, ◌&&◌, false≢true}
use mathlib.Core.List.{List, [], ◌∷◌, map}
use Rattle.std.specs.Prelude.{None, Some}
use lib.Dec.{eqb}
use lib.ListN.{length}
use borrow.Author.Tests.{eqb-true}
use Rattle.layout.specs.Layout.{word, offset, size_of, heads, keep, is_register, registers}
use Rattle.layout.specs.Description.{Description, described, descriptions_of}
use Rattle.layout.proofs.Laws.{Rest, rest_all, rest_end, rest_next}
use Rattle.naming.specs.Naming.{kind_fits, cap_fits, vs_fits, fits, only, naming}
use Rattle.naming.specs.declared.Sought.{Sought}
use Rattle.fields.specs.Names.{alike, name_is}
use Rattle.named.specs.Named.{having_name}
use Rattle.named.specs.Work.{Spans, Widened, Counted}
use Rattle.named.specs.declared.Offsets.{Offsets}

-- a group that is left for a register has its offset
second : (a b c f g : Bool) → (a && b && c && f && g) ≡ true → b ≡ true
second true true c f g e = refl
second true false c f g e = e
second false b c f g e = absurd (false≢true e)

same_offset : (q : Sought) (d : Description) → fits q d ≡ true → d.offset ≡ q.offset
unfolding fits
same_offset q d e = eqb-true _ _ (second (eqb d.space q.space) _ (kind_fits q.space q.kind d.types) (cap_fits q.cap d.cap d.vs) (vs_fits q.vs d.vs) e)

module _ (t name : List ℕ) where
  -- each of the groups at these head places that has the name has its offset within
  unfoldable pub Bounds : ℕ → ℕ → List ℕ → Type 0
  Bounds l m [] = 0 ≤ 0
  Bounds l m (p ∷ r) = (name_is t p name ≡ true → (l ≤ offset (word t p)) × (offset (word t p) ≤ m)) × Bounds l m r

  -- none has the name
  unfoldable Others : List Description → Type 0
  Others [] = 0 ≤ 0
  Others (d ∷ ds) = (alike d.name name ≡ false) × Others ds

  not_named : (ds : List Description) → Others ds → having_name name (only ds) ≡ None
  unfolding Others having_name only
  not_named [] h = refl
  not_named (d ∷ []) h = ap (λ b. cond b (Some d) None) h.0
  not_named (d ∷ (x ∷ ds)) h = refl

  module _ (l m : ℕ) (q : Sought) (out : l ≤ q.offset → q.offset ≤ m → ⊥) where
    others_left : (r : List ℕ) → Bounds l m r → Others (keep (fits q) (map (described t) (keep (is_register t) r)))
    unfolding Bounds Others keep name_is described
    others_left [] h = omega arith
    others_left (p ∷ r) h = go (is_register t p) refl (others_left r h.1)
      where
        rest : List Description
        rest = map (described t) (keep (is_register t) r)

        other : is_register t p ≡ true → fits q (described t p) ≡ true → (b : Bool) → alike (described t p).name name ≡ b → b ≡ false
        other k f false z = refl
        other k f true z =
            let w = h.0 (ap (λ x. x && alike (described t p).name name) k ∙ z) in
            let o = same_offset q (described t p) f in
            absurd (out (omega (arith, w.0, o)) (omega (arith, w.1, o)))

        step : is_register t p ≡ true → (b : Bool) → fits q (described t p) ≡ b → Others (keep (fits q) rest) → Others (cond b (described t p ∷ keep (fits q) rest) (keep (fits q) rest))
        step k true f ih = (other k f (alike (described t p).name name) refl, ih)
        step k false f ih = ih

        go : (b : Bool) → is_register t p ≡ b → Others (keep (fits q) rest) → Others (keep (fits q) (map (described t) (cond b (p ∷ keep (is_register t) r) (keep (is_register t) r))))
        go true k ih = step k (fits q (described t p)) refl ih
        go false k ih = ih

    outside : Bounds l m (heads t) → having_name name (naming q (descriptions_of t)) ≡ None
    unfolding naming descriptions_of registers
    outside h = not_named _ (others_left (heads t) h)

  -- the loop over the groups: bounds that hold what was met, and all that is ahead, hold all
  pub record Counting (o : Offsets) (i : ℕ) : Type 0 where
    pub ahead : List ℕ
    pub rest : Rest t i ahead
    pub so_far : (l m : ℕ) → l ≤ o.least → o.most ≤ m → Bounds l m ahead → Bounds l m (heads t)

  pub count_first : (o : Offsets) → Counting o 0
  count_first o = record { ahead = heads t; rest = rest_all t; so_far = λ l m a b h. h }

  pub count_on : (o : Offsets) (i : ℕ) → Counting o i → i < length t → (r : Offsets) → Counted t name i o r → (j : ℕ) → j ≡ size_of (word t i) → Counting r (i + j)
  unfolding Bounds
  count_on o i c h r k j e =
      let n = rest_next t i c.ahead c.rest h in
      record {
        ahead = n.left;
        rest = subst (λ z. Rest t (i + z) n.left) (sym e) n.then;
        so_far = λ l m a b z.
            c.so_far l m (omega (arith, a, k.least)) (omega (arith, b, k.most))
            (subst (λ x. Bounds l m x) (sym n.here) ((λ y. let w = k.inside y in (omega (arith, a, w.0), omega (arith, b, w.1))), z));
      }

  pub count_end : (o : Offsets) (i : ℕ) → Counting o i → length t ≤ i → Spans t name o
  unfolding Bounds
  count_end o i c h =
      let b : Bounds o.least o.most (heads t) = c.so_far o.least o.most (omega arith) (omega arith) (subst (λ x. Bounds o.least o.most x) (sym (rest_end t i c.ahead c.rest h)) (omega arith)) in
      record { below = λ q k. outside o.least o.most q (λ x y. omega (arith, x, k)) b; above = λ q k. outside o.least o.most q (λ x y. omega (arith, y, k)) b }

-- one group
pub counted_other : (t name : List ℕ) (i : ℕ) (o : Offsets) → name_is t i name ≡ false → Counted t name i o o
counted_other t name i o e = record { least = omega arith; most = omega arith; inside = λ z. absurd (false≢true (sym e ∙ z)) }

pub counted_one : (t name : List ℕ) (i : ℕ) (o : Offsets) (at : ℕ) (r : Offsets) → at ≡ offset (word t i) → Widened o at r → Counted t name i o r
counted_one t name i o at r e w = record { least = w.least; most = w.most; inside = λ z. (omega (arith, e, w.from), omega (arith, e, w.to)) }

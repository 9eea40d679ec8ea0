-- Document 01, module 4: which description names a register, over one set of descriptions. Assumes nothing.
use Rattle.std.specs.Prelude.{ℕ, ◌/◌, ◌%◌, ◌^◌, Bool, true, false, cond, ◌&&◌, ◌||◌, List, [], ◌∷◌, ltb, eqb, Option, None, Some}
use Rattle.layout.specs.Layout.{keep}
use Rattle.layout.specs.Description.{Description}
use Rattle.naming.specs.declared.Sought.{Sought}

-- an id that is had and equal
unfoldable pub is : ℕ → Option ℕ → Bool
is v None = false
is v (Some id) = eqb id v

unfoldable pub is_none : Option ℕ → Bool
is_none None = true
is_none (Some id) = false

-- in adapter and path space: no type list, or one naming the adapter's kind k
unfoldable pub kind_fits : ℕ → ℕ → Option ℕ → Bool
kind_fits space k None = true
kind_fits space k (Some types) = eqb space 0 || (ltb k 12 && eqb (types / 2 ^ k % 2) 1)

-- cap id not 0: the candidate's must equal it; cap id 0: the candidate has neither id
unfoldable pub cap_fits : ℕ → Option ℕ → Option ℕ → Bool
cap_fits id cap vs = cond (eqb id 0) (is_none cap && is_none vs) (is id cap)

-- vs id not 0: the candidate's must equal it too
unfoldable pub vs_fits : ℕ → Option ℕ → Bool
vs_fits id vs = eqb id 0 || is id vs

-- what a description must be to be left for a register
unfoldable pub fits : Sought → Description → Bool
fits q d =
    eqb d.space q.space && eqb d.offset q.offset
    && kind_fits q.space q.kind d.types
    && cap_fits q.cap d.cap d.vs
    && vs_fits q.vs d.vs

-- exactly one left; none or several leave the register nameless
unfoldable pub only : {A : Type 0} → List A → Option A
only [] = None
only (x ∷ []) = Some x
only (x ∷ (y ∷ xs)) = None

unfoldable pub naming : Sought → List Description → Option Description
naming q ds = only (keep (fits q) ds)

-- a router's register, whose kind plays no part
unfoldable pub router_naming : ℕ → ℕ → ℕ → List Description → Option Description
router_naming offset cap vs ds = naming (record { space = 0; kind = 0; offset = offset; cap = cap; vs = vs }) ds

-- where the group of a description stands
unfoldable pub place_of : Option Description → Option ℕ
place_of None = None
place_of (Some d) = Some d.place

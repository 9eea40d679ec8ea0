-- Document 01, "Words" and refusal 4: when a survey group breaks the rules. Assumes nothing.
use Rattle.std.specs.Prelude.{ℕ, ◌+◌, Bool, true, false, cond, not, ◌&&◌, ◌||◌, List, [], ◌∷◌, ltb, leb, eqb, length, None, Option, Some}
use Rattle.refusal.specs.Outcome.{Outcome, refused, value}
use Rattle.layout.specs.Layout.{bits, low, kind}
use Rattle.survey.specs.Words.{Group, group, cut, size_of, groups_of}
use Rattle.survey.specs.declared.Under.{Under}

-- a survey holds at most 16,384 words
abbrev pub max_words : ℕ
max_words = 16384

-- 3, device: bits 27-24 kind 0 to 5, bit 1 registers read (routers only, kind 1); bit 0 USB4; the others 0
unfoldable pub good_device : ℕ → Bool
good_device w = leb (bits w 24 27) 5 && eqb (bits w 2 23) 0 && (eqb (bits w 1 1) 0 || eqb (bits w 24 27) 1)

-- 4, adapter: bits 7-0 number 1 to 255, bit 8 registers read, bits 10-9 path dump 0 to 2; the others 0
unfoldable pub good_adapter : ℕ → Bool
good_adapter w = leb 1 (low w 7) && leb (bits w 9 10) 2 && eqb (bits w 11 27) 0

-- 5, register: bit 16 path space, bits 15-0 offset; the others 0; vs at most 65,535
unfoldable pub good_register : ℕ → ℕ → Bool
good_register w vs = eqb (bits w 17 27) 0 && leb vs 65535

-- what may stand at the start: no device yet, no dump read
abbrev pub start : Under
start = record { begun = false; registers = false; paths = false; listing = false; least = 0 }

-- after a device's head: registers where its mark says read, no path space
unfoldable pub after_device : ℕ → Under
after_device w = record { begun = true; registers = eqb (bits w 1 1) 1; paths = false; listing = false; least = 0 }

-- after an adapter's head: registers and path entries where its marks say read
unfoldable pub after_adapter : ℕ → Under
after_adapter w = record { begun = true; registers = eqb (bits w 8 8) 1; paths = eqb (bits w 9 10) 1; listing = false; least = 0 }

-- a register stands under a head whose mark says read, adapter space before path space, offsets not falling in each
unfoldable pub may_stand : Under → ℕ → ℕ → Bool
may_stand u path offset =
    cond (eqb path 0) (u.registers && not u.listing && leb u.least offset)
    (u.paths && (not u.listing || leb u.least offset))

unfoldable pub after_register : Under → ℕ → Under
after_register u w = record { begun = u.begun; registers = u.registers; paths = u.paths; listing = eqb (bits w 16 16) 1; least = low w 15 }

-- what a group with head w, whose third word is vs, leads to; an adapter has a device before it
unfoldable pub step_of : Under → ℕ → ℕ → Option Under
step_of u w vs =
    cond (eqb (kind w) 3) (cond (good_device w) (Some (after_device w)) None)
    (cond (eqb (kind w) 4) (cond (u.begun && good_adapter w) (Some (after_adapter w)) None)
    (cond (eqb (kind w) 5) (cond (good_register w vs && may_stand u (bits w 16 16) (low w 15)) (Some (after_register u w)) None)
    None))

unfoldable pub step_by : Under → Group → Option Under
step_by u (group w a b c) = step_of u w b
step_by u cut = None

unfoldable pub size_by : Group → ℕ
size_by (group w a b c) = size_of w
size_by cut = 1

unfoldable pub on_step : Option Under → (Under → Outcome Unit) → Outcome Unit → Outcome Unit
on_step (Some u) f bad = f u
on_step None f bad = bad

-- 4 with the place of the first group that breaks the rules, where the first group here stands at i
unfoldable pub first_bad : ℕ → Under → List Group → Outcome Unit
first_bad i u [] = value tt
first_bad i u (g ∷ gs) = on_step (step_by u g) (λ v. first_bad (i + size_by g) v gs) (refused 4 (i ∷ []))

-- 4 with 16,384 if the survey is too long, else with the head of the first group that breaks the rules
unfoldable pub check_of : List ℕ → Outcome Unit
check_of t = cond (ltb max_words (length t)) (refused 4 (max_words ∷ [])) (first_bad 0 start (groups_of t))

-- Laws for what is said of an adapter as words. Assumes nothing.
use Prim.Native.Nat.{ℕ}
use mathlib.Core.Path.{◌≡◌, ap, ◌∙◌}
use mathlib.Core.List.{[], ◌∷◌}
use Rattle.std.specs.Prelude.{Some}
use Rattle.usb4.specs.Numbers.{type_number, state_number}
use Rattle.refusal.specs.Outcome.{value}
use Rattle.text.specs.Text.{bit}
use Rattle.adapters.specs.declared.AdapterInfo.{AdapterInfo}
use Rattle.answers.specs.Said.{padded, said}
use Rattle.replies.specs.Replies.{hop_or, info_words}

-- what is said of an adapter, number by number
pub info_said : (i : AdapterInfo) (k s a b h e : ℕ) → k ≡ type_number i.kind → s ≡ state_number i.state → a ≡ bit i.lane0 → b ≡ bit i.lane1 → h ≡ hop_or i.min_hop → e ≡ bit i.enabled
    → 0 ∷ 1 ∷ k ∷ s ∷ a ∷ b ∷ h ∷ e ∷ [] ≡ said (value (Some (info_words i)))
unfolding said padded info_words
info_said i k s a b h e p q r t u v =
    ap (λ x. 0 ∷ 1 ∷ x ∷ s ∷ a ∷ b ∷ h ∷ e ∷ []) p
    ∙ ap (λ x. 0 ∷ 1 ∷ type_number i.kind ∷ x ∷ a ∷ b ∷ h ∷ e ∷ []) q
    ∙ ap (λ x. 0 ∷ 1 ∷ type_number i.kind ∷ state_number i.state ∷ x ∷ b ∷ h ∷ e ∷ []) r
    ∙ ap (λ x. 0 ∷ 1 ∷ type_number i.kind ∷ state_number i.state ∷ bit i.lane0 ∷ x ∷ h ∷ e ∷ []) t
    ∙ ap (λ x. 0 ∷ 1 ∷ type_number i.kind ∷ state_number i.state ∷ bit i.lane0 ∷ bit i.lane1 ∷ x ∷ e ∷ []) u
    ∙ ap (λ x. 0 ∷ 1 ∷ type_number i.kind ∷ state_number i.state ∷ bit i.lane0 ∷ bit i.lane1 ∷ hop_or i.min_hop ∷ x ∷ []) v

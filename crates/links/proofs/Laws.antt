-- Laws on whether an adapter is its router's upstream adapter, by what the router's facts say. Assumes nothing.
use Rattle.std.specs.Prelude.{Err, None, Ok, Option, Result, Some}
use Prim.Native.Nat.{ℕ}
use mathlib.Core.Path.{◌≡◌, ap}
use mathlib.Core.Bool.{false}
use lib.Dec.{eqb}
use Rattle.refusal.specs.Refusal.{refusal_of, field_at}
use Rattle.refusal.specs.declared.Site.{Site}
use Rattle.fabric.specs.Links.{is_upstream}
use Rattle.refusal.specs.declared.FieldError.{FieldError}
use Rattle.refusal.specs.declared.FieldError.TheVariants as field

module _ (s : Site) (n : ℕ) (u : Result (Option ℕ) FieldError) where
  pub none_upstream : u ≡ (Ok None) → is_upstream (field_at s u) n ≡ false
  unfolding is_upstream
  none_upstream e = ap (λ v. is_upstream (field_at s v) n) e

  pub no_field_upstream : u ≡ (Err field.NoField) → is_upstream (field_at s u) n ≡ false
  unfolding is_upstream refusal_of
  no_field_upstream e = ap (λ v. is_upstream (field_at s v) n) e

  pub upstream_by_lem : (a : ℕ) → u ≡ Ok (Some a) → is_upstream (field_at s u) n ≡ eqb a n
  unfolding is_upstream
  upstream_by_lem a e = ap (λ v. is_upstream (field_at s v) n) e
